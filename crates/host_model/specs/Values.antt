-- Meaning: Neutral values: what a number in a register or in memory is at both widths at once, and the number that it is at
-- one of them. A pair (n, c) is n natural units and c bytes: n * w + c bytes where an address has w bytes. docs/HOST.md,
-- "The neutral machine".
use Rattle.std.specs.Prelude.{◌≡◌, ℕ, zero, ◌+◌, ◌-◌, ◌*◌, ◌%◌, ◌^◌, ◌<◌, Bool, false, ◌&&◌, nat_eq, Option, Some, None, ℤ, ⊤}
use Rattle.ebc_width.specs.Width.{wrap64}

-- ---- values

-- What an address counts from: a typed object, by its number; a thunk cell, by its number; a field of the locals of a
-- function frame, which is known by its depth, the number of function frames below it.
pub data Anchor : Type 0 where
  ObjectOf : (object : ℕ) → Anchor
  ThunkOf : (thunk : ℕ) → Anchor
  LocalOf : (depth field : ℕ) → Anchor

-- A number that is known at both widths, or junk: a pair; an address, a pair past an anchor; the address of a handle, of a
-- native method, of a function's thunk; a status that is an error, and its sign extension, by their code. Each operation
-- gives parts of pairs below 2 ^ 64, so that a number has one form.
pub data Neutral : Type 0 where
  Num : (n c : ℕ) → Neutral
  At : (anchor : Anchor) (n c : ℕ) → Neutral
  Handle : (handle : ℕ) → Neutral
  Method : (method : ℕ) → Neutral
  Entry : (function : ℕ) → Neutral
  Error : (code : ℕ) → Neutral
  SignedError : (code : ℕ) → Neutral
  Junk : Neutral

-- a plain number, the same at both widths
abbrev pub number : ℕ → Neutral
number x = Num 0 x

-- null, the plain number 0
abbrev pub null : Neutral
null = Num 0 0

-- the error bit of a status
abbrev pub mask : Neutral
mask = Error 0

-- the low 64 bits
abbrev pub word : ℕ → ℕ
word x = x % 2 ^ 64

-- the sum and the difference of two numbers modulo 2 ^ 64
abbrev pub plus : ℕ → ℕ → ℕ
plus x y = word (x + y)

abbrev pub minus : ℕ → ℕ → ℕ
minus x y = word (x + (2 ^ 64 - word y))

-- the pair of two signed counts
abbrev pub pair : ℤ → ℤ → Neutral
pair n c = Num (wrap64 n) (wrap64 c)

-- the number that a plain value is
abbrev pub plain : Neutral → Option ℕ
plain (Num zero c) = Some (word c)
plain _ = None

-- ---- cells

-- Where a cell is: a field of an instance of a typed object, or a field of the locals of the function frame at a depth.
pub data CellPlace : Type 0 where
  FieldOf : (object instance field : ℕ) → CellPlace
  FieldOfLocals : (depth field : ℕ) → CellPlace

-- two cells are one
abbrev pub same_cell_place : CellPlace → CellPlace → Bool
same_cell_place (FieldOf k i f) (FieldOf l j g) = nat_eq k l && (nat_eq i j && nat_eq f g)
same_cell_place (FieldOfLocals d f) (FieldOfLocals e g) = nat_eq d e && nat_eq f g
same_cell_place _ _ = false

-- What cells hold; none where there is no cell, or where a local field isn't written.
abbrev pub Cells : Type 0
Cells = CellPlace → Option Neutral

-- ---- numbers

-- Where things are at one width: none for a thing that isn't there.
pub record Addresses : Type 0 where
  pub anchor : Anchor → Option ℕ
  pub handle : ℕ → Option ℕ
  pub method : ℕ → Option ℕ
  pub entry : ℕ → Option ℕ

-- the codes of statuses are below 2 ^ 31
abbrev pub IsCode : ℕ → Type 0
IsCode k = k < 2 ^ 31

-- the error bit of a status of w bytes
abbrev pub error_bit : ℕ → ℕ
error_bit w = 2 ^ (8 * w - 1)

-- a status with its error bit, where it has w bytes
abbrev pub error_at : ℕ → ℕ → ℕ
error_at w k = error_bit w + k

-- the same, sign-extended to 64 bits
abbrev pub signed_error_at : ℕ → ℕ → ℕ
signed_error_at w k = 2 ^ 64 - error_bit w + k

-- so many bytes past an anchor that is at this address
pub record IsPast (at : Option ℕ) (offset x : ℕ) : Type 0 where
  pub from : ℕ
  pub there : at ≡ Some from
  pub is : x ≡ word (from + offset)

-- x is the number that a value has where an address has w bytes and things are at these addresses; any number stands for junk
abbrev pub Shows : ℕ → Addresses → Neutral → ℕ → Type 0
Shows w A (Num n c) x = x ≡ word (n * w + c)
Shows w A (At a n c) x = IsPast (A.anchor a) (n * w + c) x
Shows w A (Handle k) x = A.handle k ≡ Some x
Shows w A (Method k) x = A.method k ≡ Some x
Shows w A (Entry k) x = A.entry k ≡ Some x
Shows w A (Error k) x = IsCode k × (x ≡ error_at w k)
Shows w A (SignedError k) x = IsCode k × (x ≡ signed_error_at w k)
Shows w A Junk x = ⊤

-- x is the number of a value, cut to k bytes
pub record ShowsIn (w : ℕ) (A : Addresses) (k : ℕ) (v : Neutral) (x : ℕ) : Type 0 where
  pub whole : ℕ
  pub shows : Shows w A v whole
  pub cut : x ≡ whole % 2 ^ (8 * k)
