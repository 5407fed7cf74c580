-- The form that an opcode names, and the opcode of a form.
use Rattle.std.proofs.Common.{◌≡◌, ◌⊎◌, ℕ, ◌+◌, ◌-◌, ◌<◌, ◌≤◌, true, false, nat_eq, nat_lt, arith, ⊎_elim, subst, sym, refl, ◌∙◌, Some}
use Rattle.std.proofs.Common.{None, inl, inr}
use Rattle.std.specs.Prelude.{⊤}
use Rattle.ebc_insn.specs.declared.Size.TheVariants as sizes
use Rattle.ebc_insn.specs.Spelling.{IsWordOrDword, MoveFits, NotNatural, arith_number, cmp_number, move_opcode, signed_opcode, size_number}
use Rattle.ebc_decode.specs.Reading.{arith_at, cmp_at, form_at, size_at}
use Rattle.ebc_decode.specs.declared.form.Form.{Form}
use Rattle.ebc_decode.specs.declared.form.Form.TheVariants as forms

-- the opcode of a form
abbrev pub opcode_of : Form → ℕ
opcode_of forms.Break = 0x00
opcode_of forms.Jump = 0x01
opcode_of forms.Jump8 = 0x02
opcode_of forms.Call = 0x03
opcode_of forms.Ret = 0x04
opcode_of (forms.Compare op) = 0x05 + cmp_number op
opcode_of (forms.CompareImm op) = 0x2D + cmp_number op
opcode_of (forms.Arith op) = 0x0A + arith_number op
opcode_of (forms.Move size bits) = move_opcode size bits
opcode_of (forms.MoveSigned bits) = signed_opcode bits
opcode_of forms.MoveImm = 0x37
opcode_of forms.MoveImmNatural = 0x38
opcode_of forms.MoveRelative = 0x39
opcode_of forms.LoadSpecial = 0x29
opcode_of forms.StoreSpecial = 0x2A
opcode_of forms.Push = 0x2B
opcode_of forms.Pop = 0x2C
opcode_of forms.PushNatural = 0x35
opcode_of forms.PopNatural = 0x36

-- The widths that a form can have.
abbrev pub FormFits : Form → Type 0
FormFits (forms.Move size bits) = MoveFits size bits
FormFits (forms.MoveSigned bits) = IsWordOrDword bits
FormFits f = ⊤

-- ---- the numbers of operations and sizes, as they are read

cmp_whole : (n : ℕ) → n < 5 → cmp_number (cmp_at n) ≡ n
cmp_whole n h = grind arith

-- What holds below a bound, and from it to the next, holds below the next.
joined : (P : ℕ → Type 0) (k l : ℕ) → ((n : ℕ) → n < k → P n) → ((n : ℕ) → k ≤ n → n < l → P n) → (n : ℕ) → n < l → P n
joined P k l below above n h = ⊎_elim (λ less. below n less) (λ more. above n more h) (either n k) where
  either : (n k : ℕ) → (n < k) ⊎ (k ≤ n)
  either n k = grind arith

-- What holds below a bound, and at it, holds below the next number.
one_more : (P : ℕ → Type 0) (k : ℕ) → ((n : ℕ) → n < k → P n) → P k → (n : ℕ) → n < k + 1 → P n
one_more P k below here = joined P k (k + 1) below (λ n low high. subst P (same n k low high) here) where
  same : (n k : ℕ) → k ≤ n → n < k + 1 → k ≡ n
  same n k low high = omega arith

none_below : (P : ℕ → Type 0) (n : ℕ) → n < 0 → P n
none_below P n h = absurd (omega arith)

ArithWhole : ℕ → Type 0
ArithWhole n = arith_number (arith_at n) ≡ n

arith_whole : (n : ℕ) → n < 19 → arith_number (arith_at n) ≡ n
unfolding ArithWhole
arith_whole =
    up 18 (up 17 (up 16 (up 15 (up 14 (up 13
    (up 12 (up 11 (up 10 (up 9 (up 8 (up 7
    (up 6 (up 5 (up 4 (up 3 (up 2 (up 1 (up 0 (none_below ArithWhole) refl) refl) refl) refl) refl) refl) refl)
    refl) refl) refl) refl) refl) refl) refl) refl) refl) refl) refl) refl where
      up : (k : ℕ) → ((n : ℕ) → n < k → ArithWhole n) → ArithWhole k → (n : ℕ) → n < k + 1 → ArithWhole n
      up = one_more ArithWhole

pub size_whole : (n : ℕ) → n < 4 → (size_number (size_at n) ≡ n) × NotNatural (size_at n)
size_whole n h = (grind arith, grind arith)

small_move : (n : ℕ) → n < 4 → (move_opcode (size_at n) 16 ≡ 0x1D + n) × MoveFits (size_at n) 16
small_move n h = (grind arith, grind arith)

wide_move : (n : ℕ) → n < 4 → (move_opcode (size_at n) 32 ≡ 0x21 + n) × MoveFits (size_at n) 32
wide_move n h = (grind arith, grind arith)

-- ---- the form of an opcode

-- The form f is that of opcode n.
pub record IsFormAt (n : ℕ) (f : Form) : Type 0 where
  pub opcode : opcode_of f ≡ n
  pub fits : FormFits f

some_same : (x y : Form) → Some x ≡ Some y → x ≡ y
some_same x y e = cc

-- What an opcode names has that opcode, and a width that it can have.
NamesForm : ℕ → Type 0
NamesForm n = (f : Form) → form_at n ≡ Some f → IsFormAt n f

names : (n : ℕ) (x : Form) → form_at n ≡ Some x → IsFormAt n x → NamesForm n
unfolding NamesForm
names n x e here f found = subst (IsFormAt n) (some_same x f (sym e ∙ found)) here

names_none : (n : ℕ) → form_at n ≡ None → NamesForm n
unfolding NamesForm
names_none n e f found = absurd (cc (sym e ∙ found))

past : (n k : ℕ) → k < n → nat_eq n k ≡ false
past n k h = grind arith

is_below : (n k : ℕ) → n < k → nat_lt n k ≡ true
is_below n k h = grind arith

not_below : (n k : ℕ) → k ≤ n → nat_lt n k ≡ false
not_below n k h = grind arith

named_compare : (n : ℕ) → 0x05 ≤ n → n < 0x0A → form_at n ≡ Some (forms.Compare (cmp_at (n - 0x05)))
unfolding form_at
named_compare n low high =
    rw (
      past n 0x00 (omega arith),
      past n 0x01 (omega arith),
      past n 0x02 (omega arith),
      past n 0x03 (omega arith),
      past
          n 0x04 (omega arith),
      is_below n 0x0A (omega arith),
    ) refl

names_compare : (n : ℕ) → 0x05 ≤ n → n < 0x0A → NamesForm n
names_compare n low high =
    names n _ (named_compare n low high)
    (record { opcode = omega (arith, cmp_whole (n - 0x05) (omega arith)); fits = tt })

named_arith : (n : ℕ) → 0x0A ≤ n → n < 0x1D → form_at n ≡ Some (forms.Arith (arith_at (n - 0x0A)))
unfolding form_at
named_arith n low high =
    rw (
      past n 0x00 (omega arith),
      past n 0x01 (omega arith),
      past n 0x02 (omega arith),
      past n 0x03 (omega arith),
      past
          n 0x04 (omega arith),
      not_below n 0x0A (omega arith),
      is_below n 0x1D (omega arith),
    ) refl

names_arith : (n : ℕ) → 0x0A ≤ n → n < 0x1D → NamesForm n
names_arith n low high =
    names n _ (named_arith n low high) (record
    { opcode = omega (arith, arith_whole (n - 0x0A) (omega arith)); fits = tt })

named_small_move : (n : ℕ) → 0x1D ≤ n → n < 0x21 → form_at n ≡ Some (forms.Move (size_at (n - 0x1D)) 16)
unfolding form_at
named_small_move n low high =
    rw (
      past n 0x00 (omega arith),
      past n 0x01 (omega arith),
      past n 0x02 (omega arith),
      past n 0x03 (omega arith),
      past
          n 0x04 (omega arith),
      not_below n 0x0A (omega arith),
      not_below n 0x1D (omega arith),
      is_below n 0x21
          (omega arith),
    ) refl

names_small_move : (n : ℕ) → 0x1D ≤ n → n < 0x21 → NamesForm n
names_small_move n low high =
    let m = small_move (n - 0x1D) (omega arith) in
    names n _ (named_small_move n low high) (record { opcode = omega (arith, m.0); fits = m.1 })

named_wide_move : (n : ℕ) → 0x21 ≤ n → n < 0x25 → form_at n ≡ Some (forms.Move (size_at (n - 0x21)) 32)
unfolding form_at
named_wide_move n low high =
    rw (
      past n 0x00 (omega arith),
      past n 0x01 (omega arith),
      past n 0x02 (omega arith),
      past n 0x03 (omega arith),
      past
          n 0x04 (omega arith),
      not_below n 0x0A (omega arith),
      not_below n 0x1D (omega arith),
      not_below n 0x21
          (omega arith),
      is_below n 0x25 (omega arith),
    ) refl

names_wide_move : (n : ℕ) → 0x21 ≤ n → n < 0x25 → NamesForm n
names_wide_move n low high =
    let m = wide_move (n - 0x21) (omega arith) in
    names n _ (named_wide_move n low high) (record { opcode = omega (arith, m.0); fits = m.1 })

named_compare_imm : (n : ℕ) → 0x2D ≤ n → n < 0x32 → form_at n ≡ Some (forms.CompareImm (cmp_at (n - 0x2D)))
unfolding form_at
named_compare_imm n low high =
    rw (
      past n 0x00 (omega arith),
      past n 0x01 (omega arith),
      past n 0x02 (omega arith),
      past n 0x03 (omega arith),
      past
          n 0x04 (omega arith),
      not_below n 0x0A (omega arith),
      not_below n 0x1D (omega arith),
      not_below n 0x21
          (omega arith),
      not_below n 0x25 (omega arith),
      past n 0x25 (omega arith),
      past n 0x26 (omega arith),
      past n 0x27
          (omega arith),
      past n 0x28 (omega arith),
      past n 0x29 (omega arith),
      past n 0x2A (omega arith),
      past n 0x2B
          (omega arith),
      past n 0x2C (omega arith),
      is_below n 0x32 (omega arith),
    ) refl

names_compare_imm : (n : ℕ) → 0x2D ≤ n → n < 0x32 → NamesForm n
names_compare_imm n low high =
    names n _ (named_compare_imm n low high)
    (record { opcode = omega (arith, cmp_whole (n - 0x2D) (omega arith)); fits = tt })

-- Past the last opcode nothing is named.
named_past : (n : ℕ) → 0x3A ≤ n → form_at n ≡ None
unfolding form_at
named_past n h =
    rw (
      past n 0x00 (omega arith),
      past n 0x01 (omega arith),
      past n 0x02 (omega arith),
      past n 0x03 (omega arith),
      past
          n 0x04 (omega arith),
      not_below n 0x0A (omega arith),
      not_below n 0x1D (omega arith),
      not_below n 0x21
          (omega arith),
      not_below n 0x25 (omega arith),
      past n 0x25 (omega arith),
      past n 0x26 (omega arith),
      past n 0x27
          (omega arith),
      past n 0x28 (omega arith),
      past n 0x29 (omega arith),
      past n 0x2A (omega arith),
      past n 0x2B
          (omega arith),
      past n 0x2C (omega arith),
      not_below n 0x32 (omega arith),
      past n 0x32 (omega arith),
      past n 0x33
          (omega arith),
      past n 0x35 (omega arith),
      past n 0x36 (omega arith),
      past n 0x37 (omega arith),
      past n 0x38
          (omega arith),
      past n 0x39 (omega arith),
    ) refl

one :
    (n : ℕ) (x : Form) → form_at n ≡ Some x → opcode_of x ≡ n → FormFits x → ((m : ℕ) → m < n → NamesForm m) →
    (m : ℕ) → m < n + 1 → NamesForm m
one n x e same fits below = one_more NamesForm n below (names n x e (record { opcode = same; fits = fits }))

range :
    (n k : ℕ) → ((m : ℕ) → n ≤ m → m < k → NamesForm m) → ((m : ℕ) → m < n → NamesForm m) → (m : ℕ) → m < k →
    NamesForm m
range n k above below = joined NamesForm n k below above

gap : (n : ℕ) → form_at n ≡ None → ((m : ℕ) → m < n → NamesForm m) → (m : ℕ) → m < n + 1 → NamesForm m
gap n e below = one_more NamesForm n below (names_none n e)

-- All opcodes below 3A, the last first.
names_all : (n : ℕ) → n < 0x3A → NamesForm n
unfolding form_at
names_all =
    one 0x39 forms.MoveRelative refl refl tt (
    one 0x38 forms.MoveImmNatural refl refl tt (
    one 0x37 forms.MoveImm refl refl tt (
    one 0x36 forms.PopNatural refl refl tt (
    one 0x35 forms.PushNatural refl refl tt (
    gap 0x34 refl (
    one 0x33 (forms.Move sizes.Natural 32) refl refl (inr refl) (
    one 0x32 (forms.Move sizes.Natural 16) refl refl (inl refl) (
    range 0x2D 0x32 names_compare_imm (
    one 0x2C forms.Pop refl refl tt (
    one 0x2B forms.Push refl refl tt (
    one 0x2A forms.StoreSpecial refl refl tt (
    one 0x29 forms.LoadSpecial refl refl tt (
    one 0x28 (forms.Move sizes.Qword 64) refl refl (inr (inr refl)) (
    gap 0x27 refl (
    one 0x26 (forms.MoveSigned 32) refl refl (inr refl) (
    one 0x25 (forms.MoveSigned 16) refl refl (inl refl) (
    range 0x21 0x25 names_wide_move (
    range 0x1D 0x21 names_small_move (
    range 0x0A 0x1D names_arith (
    range 0x05 0x0A names_compare (
    one 0x04 forms.Ret refl refl tt (
    one 0x03 forms.Call refl refl tt (
    one 0x02 forms.Jump8 refl refl tt (
    one 0x01 forms.Jump refl refl tt (
    one 0x00 forms.Break refl refl tt (
    none_below NamesForm))))))))))))))))))))))))))

-- The form of an opcode has that opcode, and a width that it can have.
pub form_whole : (n : ℕ) (f : Form) → form_at n ≡ Some f → IsFormAt n f
unfolding NamesForm
form_whole n f e =
    joined NamesForm 0x3A (n + 1) names_all (λ m low high. names_none m (named_past m low)) n (omega arith) f e
