-- Numbers at a width.
use Rattle.neutral_machine.proofs.Common.{◌≡◌, ℕ, ◌+◌, ◌*◌, ◌^◌, ◌≤◌, Bool, true, false, if◌then◌else◌, nat_lt, Some, None, refl, arith}
use Rattle.neutral_machine.proofs.Common.{same_Some, ltb-true, IsWidth, word, by_width}
use Rattle.std.specs.Option.{option_map}

-- no address takes more than 64 bits
pub width_word : (w : ℕ) → IsWidth w → 2 ^ (8 * w) ≤ 2 ^ 64
width_word w h = by_width (λ v. 2 ^ (8 * v) ≤ 2 ^ 64) w h (omega arith) (omega arith)

-- a test that fails
pub not_lt : (a b : ℕ) → b ≤ a → nat_lt a b ≡ false
not_lt a b l = go (nat_lt a b) refl
  where
    go : (c : Bool) → nat_lt a b ≡ c → nat_lt a b ≡ false
    go true e = let r = ltb-true a b e in absurd (omega (arith, r, l))
    go false e = e

-- a value under a test that gives one
pub if_some : {A : Type 0} (b : Bool) (x t : A) → (if b then Some x else None) ≡ Some t → (b ≡ true) × (x ≡ t)
if_some true x t e = (refl, same_Some x t e)
if_some false x t e = absurd (cc)

-- the same of what is made of the value
pub if_mapped : {A B : Type 0} (b : Bool) (x : A) (f : A → B) (t : B) → option_map f (if b then Some x else None) ≡ Some t → (b ≡ true)
    × (f x ≡ t)
if_mapped true x f t e = (refl, same_Some (f x) t e)
if_mapped false x f t e = absurd (cc)

-- the pair of a number modulo 2 ^ 64 counts as that of the number
pub word_pair : (w : ℕ) → IsWidth w → (a c b : ℕ) → word (b + (word a * w + word c)) ≡ word (b + (a * w + c))
word_pair w h a c b = by_width (λ v. word (b + (word a * v + word c)) ≡ word (b + (a * v + c))) w h (omega arith) (omega arith)
