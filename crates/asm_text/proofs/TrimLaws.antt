-- Texts without the spaces around them.
use Rattle.std.proofs.Common.{◌≡◌, ℕ, ◌+◌, ◌-◌, ◌<◌, ◌≤◌, List, [], ◌∷◌, ◌++◌, length, take, drop, get_or, false, not, ◌==◌, refl, sym, ap}
use Rattle.std.proofs.Common.{subst, ◌∙◌, arith}
use Rattle.std.proofs.lemmas.List.{drop_all, take_more}
use Rattle.std.specs.List.{position_or_len}
use Rattle.asm_text.specs.Splits.{keep, trim_back, trim_front}

pub front_at : (text : List ℕ) (i : ℕ) → position_or_len (λ b. not (b == 32)) text ≡ i → trim_front text ≡ drop i text
unfolding trim_front
front_at text i found = rw found refl

pub front_gone : (text : List ℕ) → position_or_len (λ b. not (b == 32)) text ≡ length text → trim_front text ≡ []
unfolding trim_front
front_gone text none = rw none (drop_all (length text) text (omega arith))

-- a space at the end is left out
pub back_blank : (text : List ℕ) → trim_back (text ++ 32 ∷ []) ≡ trim_back text
unfolding trim_back
back_blank [] = refl
back_blank (b ∷ bs) = rw (back_blank bs) refl

keep_on : (b : ℕ) (xs : List ℕ) (c : ℕ) → keep b (xs ++ c ∷ []) ≡ b ∷ xs ++ c ∷ []
keep_on b [] c = refl
keep_on b (x ∷ xs) c = refl

-- what ends in another byte is kept
pub back_other : (text : List ℕ) (c : ℕ) → (c == 32) ≡ false → trim_back (text ++ c ∷ []) ≡ text ++ c ∷ []
unfolding trim_back
back_other [] c other = rw other refl
back_other (b ∷ bs) c other = rw (back_other bs c other) (keep_on b bs c)

-- ---- from the end on

pub back_step : (e : ℕ) (text r : List ℕ) → 0 < e → e ≤ length text → get_or text (e - 1) 0 ≡ 32 → trim_back (take e text) ≡ r
    → trim_back (take (e - 1) text) ≡ r
back_step e text r some within blank so_far =
    let i : ℕ = e - 1 in
    let next : i + 1 ≡ e = omega arith in
    let apart : take e text ≡ take i text ++ 32 ∷ [] = subst (λ k. take k text ≡ take i text ++ 32 ∷ []) next
    (take_more text i 0 (omega arith) ∙ ap (λ b. take i text ++ b ∷ []) blank) in
    sym (back_blank (take i text)) ∙ (ap trim_back (sym apart) ∙ so_far)

pub back_stop : (e : ℕ) (text r : List ℕ) → 0 < e → e ≤ length text → (get_or text (e - 1) 0 == 32) ≡ false → trim_back (take e text) ≡ r
    → take e text ≡ r
back_stop e text r some within other so_far =
    let i : ℕ = e - 1 in
    let next : i + 1 ≡ e = omega arith in
    let b : ℕ = get_or text i 0 in
    let apart : take e text ≡ take i text ++ b ∷ [] = subst (λ k. take k text ≡ take i text ++ b ∷ []) next
    (take_more text i 0 (omega arith)) in
    (apart ∙ sym (back_other (take i text) b other)) ∙ (ap trim_back (sym apart) ∙ so_far)

pub back_none : (e : ℕ) (text r : List ℕ) → e ≡ 0 → trim_back (take e text) ≡ r → [] ≡ r
unfolding trim_back
back_none e text r none so_far = rw none at so_far
