-- Bytes that are all ASCII.
use Rattle.std.proofs.Common.{◌≡◌, ℕ, ◌<◌, ◌≤◌, zero, suc, Bool, true, false, List, [], ◌∷◌, refl, sym, arith}
use Rattle.std.proofs.lemmas.Bool.Decides.{nat_tests}
use Rattle.std.specs.Prelude.{MatchBool, slice_index}
use Rattle.std.specs.Str.{IsAscii, IsNotAscii}
use Rattle.asm_text.specs.Lines.{is_ascii}

all_ascii : (text : List ℕ) → IsAscii text → is_ascii text ≡ true
unfolding is_ascii
all_ascii [] h = refl
all_ascii (b ∷ bs) h =
    let first : b < 128 = h 0 in
    let rest : is_ascii bs ≡ true = all_ascii bs (λ i. h (suc i)) in
    grind (arith, nat_tests, first, rest)

one_above : (text : List ℕ) (i : ℕ) → 128 ≤ slice_index text i → is_ascii text ≡ false
unfolding is_ascii
one_above [] i h = absurd (omega (arith, h))
one_above (b ∷ bs) zero h = grind (arith, nat_tests, h)
one_above (b ∷ bs) (suc i) h = let rest : is_ascii bs ≡ false = one_above bs i h in grind (arith, nat_tests, rest)

-- a test of all bytes
pub same_ascii : (b : Bool) (text : List ℕ) → MatchBool b (IsAscii text) (IsNotAscii text) → b ≡ is_ascii text
same_ascii true text h = sym (all_ascii text h)
same_ascii false text h = sym (one_above text h.0 h.1)
