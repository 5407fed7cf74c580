-- What stands at an offset of a file is read there; and a field that was read stands there.
use Rattle.std.proofs.Common.{◌≡◌, ℕ, ◌+◌, ◌-◌, ◌^◌, ◌<◌, ◌≤◌, Bool, true, false, cond, List, [], ◌∷◌, ◌++◌, length, get_or, take, drop}
use Rattle.std.proofs.Common.{Result, Ok, Err, append_assoc, length-append, length-drop, refl, sym, ap, subst, ◌∙◌, ⊎_elim, arith}
use Rattle.std.specs.Prelude.{nat_le, slice_index}
use Rattle.std.specs.Int.{w32, from_le_bytes, to_le_bytes}
use Rattle.std.proofs.lemmas.Bool.{cases_lt, le-leb, leb-true}
use Rattle.std.proofs.lemmas.List.{drop-drop, drop_at, get_or-drop, get_or-take, get_or_past, length-take, length-take-le, take-append-drop}
use Rattle.std.proofs.lemmas.List.{take_at}
use Rattle.std.proofs.lemmas.Nat.{from_le_bytes-to_le_bytes_4, le_bytes_4}
use Rattle.ebc_base.specs.Steps.{◌>>=◌, passes}
use Rattle.ebc_object.specs.declared.fault.ObjectFault.TheVariants as faults
use Rattle.ebc_object.specs.Readings.{Fault, byte_at, u32_at, bytes_at}

-- ---- what stands there is read

-- The file goes on from an offset as this list.
pub record Stands (file : List ℕ) (at : ℕ) (rest : List ℕ) : Type 0 where
  pub within : at ≤ length file
  pub is : drop at file ≡ rest

pub Stands-next : (file : List ℕ) (at : ℕ) (bytes rest : List ℕ) (next : ℕ) → Stands file at (bytes ++ rest) → at + length bytes ≡ next
    → Stands file next rest
Stands-next file at bytes rest next stands is =
    let size : length (drop at file) ≡ length bytes + length rest = ap length stands.is ∙ length-append bytes rest in
    let left : length (drop at file) ≡ length file - at = length-drop at file in
    record {
      within = omega (arith, stands.within);
      is = ap (λ n. drop n file) (sym is) ∙ (sym (drop-drop (length bytes) at file)
          ∙ (ap (drop (length bytes)) stands.is ∙ drop_at bytes rest (length bytes) refl));
    }

pub field-again : (file : List ℕ) (at n : ℕ) (bytes rest : List ℕ) → Stands file at (bytes ++ rest) → length bytes ≡ n
    → bytes_at file at n ≡ Ok bytes
unfolding bytes_at
field-again file at n bytes rest stands is =
    let next : Stands file (at + n) rest = Stands-next file at bytes rest (at + n) stands (ap (λ m. at + m) is) in
    let fits : nat_le (at + n) (length file) ≡ true = le-leb (at + n) (length file) next.within in
    let here : take n (drop at file) ≡ bytes = ap (take n) stands.is ∙ take_at bytes rest n is in
    rw (fits, here) refl

pub byte-again : (file : List ℕ) (at b : ℕ) (rest : List ℕ) → Stands file at (b ∷ rest) → byte_at file at ≡ Ok b
unfolding byte_at
byte-again file at b rest stands =
    let field : bytes_at file at 1 ≡ Ok (b ∷ []) = field-again file at 1 (b ∷ []) rest stands refl in
    rw field refl

pub u32-again : (file : List ℕ) (at n : ℕ) (rest : List ℕ) → n < 2 ^ 32 → Stands file at (to_le_bytes w32 n ++ rest) → u32_at file at ≡ Ok n
unfolding u32_at
u32-again file at n rest small stands =
    let field : bytes_at file at 4 ≡ Ok (to_le_bytes w32 n) = field-again file at 4 (to_le_bytes w32 n) rest stands refl in
    rw field (ap Ok (from_le_bytes-to_le_bytes_4 n small))

-- ---- what was read stands there

-- The file has these bytes from an offset up to another.
pub record Spells (file : List ℕ) (at : ℕ) (bytes : List ℕ) (next : ℕ) : Type 0 where
  pub within : next ≤ length file
  pub is : drop at file ≡ bytes ++ drop next file

-- Each number of a file is a byte.
pub record AreBytes (file : List ℕ) : Type 0 where
  pub below : (i : ℕ) → get_or file i 0 < 256

pub Spells-join : (file : List ℕ) (at middle next : ℕ) (xs ys : List ℕ) → Spells file at xs middle → Spells file middle ys next
    → Spells file at (xs ++ ys) next
Spells-join file at middle next xs ys first then =
    record {
      within = then.within;
      is = first.is ∙ (ap (λ zs. xs ++ zs) then.is ∙ sym (append_assoc xs ys (drop next file)));
    }

pub Spells-none : (file : List ℕ) (at : ℕ) → at ≤ length file → Spells file at [] at
Spells-none file at within = record { within = within; is = refl }

-- the parts of steps that gave something
pub bind-ok : {A B E : Type 0} (r : Result A E) (f : A → Result B E) (b : B) → (r >>= f) ≡ Ok b → (a : A) × (r ≡ Ok a) × (f a ≡ Ok b)
bind-ok (Ok a) f b is = (a, refl, is)
bind-ok (Err e) f b is = let no : ⊥ = cc in absurd no

pub passes-ok : {E : Type 0} (b : Bool) (e : E) (u : Unit {0}) → passes b e ≡ Ok u → b ≡ true
passes-ok true e u is = refl
passes-ok false e u is = let no : ⊥ = cc in absurd no

pub same_Ok : {A E : Type 0} (x y : A) → (let r : Result A E = Ok x in r) ≡ Ok y → x ≡ y
same_Ok x y is = cc

pub field-read : (file : List ℕ) (at n : ℕ) (bytes : List ℕ) (next : ℕ) → bytes_at file at n ≡ Ok bytes → at + n ≡ next
    → (Spells file at bytes next) × (length bytes ≡ n) × (bytes ≡ take n (drop at file))
unfolding bytes_at
field-read file at n bytes next read is = by_test (nat_le (at + n) (length file)) refl read
  where
    by_test : (b : Bool) → nat_le (at + n) (length file) ≡ b → cond b (let r : Result (List ℕ) Fault = Ok (take n (drop at file)) in r)
        (Err (faults.Short, at)) ≡ Ok bytes → (Spells file at bytes next) × (length bytes ≡ n) × (bytes ≡ take n (drop at file))
    by_test true fits given =
        let same : bytes ≡ take n (drop at file) = sym (same_Ok {E = Fault} (take n (drop at file)) bytes given) in
        let within : at + n ≤ length file = leb-true (at + n) (length file) fits in
        let left : length (drop at file) ≡ length file - at = length-drop at file in (
          record {
            within = omega (arith, within, is);
            is = sym (take-append-drop n (drop at file)) ∙ (ap (λ xs. xs ++ drop n (drop at file)) (sym same)
                ∙ ap (λ xs. bytes ++ xs) (drop-drop n at file ∙ ap (λ m. drop m file) is));
          },
          ap length same ∙ length-take-le n (drop at file) (omega arith),
          same,
        )
    by_test false fits given = let no : ⊥ = cc in absurd no

one : (bs : List ℕ) → length bs ≡ 1 → bs ≡ slice_index bs 0 ∷ []
one [] is = let no : ⊥ = omega arith in absurd no
one (b ∷ []) is = refl
one (b ∷ c ∷ bs) is = let no : ⊥ = omega arith in absurd no

pub byte-read : (file : List ℕ) (at b next : ℕ) → byte_at file at ≡ Ok b → at + 1 ≡ next → Spells file at (b ∷ []) next
unfolding byte_at
byte-read file at b next read is =
    let field = bind-ok (bytes_at file at 1) (λ bytes. Ok (slice_index bytes 0)) b read in
    let here = field-read file at 1 field.0 next field.1 is in
    let first : slice_index field.0 0 ≡ b = same_Ok {E = Fault} (slice_index field.0 0) b field.2 in
    subst (λ bs. Spells file at bs next) (one field.0 here.1 ∙ ap (λ x. x ∷ []) first) here.0

below-part : (file : List ℕ) (at n : ℕ) → AreBytes file → (i : ℕ) → get_or (take n (drop at file)) i 0 < 256
below-part file at n bytes i =
    ⊎_elim
    (λ (below : i < n). let here : get_or (take n (drop at file)) i 0 ≡ get_or file (at + i) 0 = get_or-take n (drop at file) i 0 below
    ∙ get_or-drop at file i 0 in omega (arith, here, bytes.below (at + i)))
    (λ (above : n ≤ i). let here : get_or (take n (drop at file)) i 0 ≡ 0 =
    get_or_past (take n (drop at file)) i 0 (omega (arith, length-take n (drop at file))) in omega (arith, here))
    (cases_lt i n)

small-u32 : (bs : List ℕ) → ((i : ℕ) → get_or bs i 0 < 256) → from_le_bytes w32 bs < 2 ^ 32
small-u32 bs below = omega (arith, below 0, below 1, below 2, below 3)

pub u32-read : (file : List ℕ) (at n next : ℕ) → AreBytes file → u32_at file at ≡ Ok n → at + 4 ≡ next
    → (Spells file at (to_le_bytes w32 n) next) × (n < 2 ^ 32)
unfolding u32_at
u32-read file at n next bytes read is =
    let field = bind-ok (bytes_at file at 4) (λ bs. Ok (from_le_bytes w32 bs)) n read in
    let here = field-read file at 4 field.0 next field.1 is in
    let value : from_le_bytes w32 field.0 ≡ n = same_Ok {E = Fault} (from_le_bytes w32 field.0) n field.2 in
    let P : List ℕ → Type 0 = λ bs. (i : ℕ) → get_or bs i 0 < 256 in
    let below : (i : ℕ) → get_or field.0 i 0 < 256 = subst P (sym here.2) (below-part file at 4 bytes) in (
      subst (λ bs. Spells file at bs next) (sym (le_bytes_4 field.0 n here.1 below (sym value))) here.0,
      subst (λ m. m < 2 ^ 32) value (small-u32 field.0 below),
    )
