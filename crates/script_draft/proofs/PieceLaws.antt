-- A text is cut where `, ` first stands in it, and its pieces are those that the cuts leave.
use Rattle.script_draft.proofs.Common.{◌≡◌, ℕ, ◌+◌, ◌≤◌, ◌<◌, suc, List, [], ◌∷◌, ◌++◌, length, take, drop, Option, Some, None, Bool, true}
use Rattle.script_draft.proofs.Common.{false, refl, sym, ap, subst, cond, ◌∙◌, arith, inl, inr, option_map, nat_tests, same_Some, codes}
use Rattle.script_draft.proofs.Common.{Bor, all_of, cut, pieces, value_of, ValueText}
use Rattle.std.proofs.{Common.◌==◌, Common.zero, lemmas.Bool.cases_Bool, lemmas.Bool.and_parts}
use Rattle.std.specs.{Option.MatchOption, Str.Pattern.FindsText, Str.Pattern.HasTextAt, Str.Pattern.LacksTextAt}
use Rattle.std.specs.Str.Pattern.{SplitsAroundMatch}
use Rattle.script_draft.specs.Pieces.{is_comma, onto_first}
use Rattle.script_draft.proofs.ListLaws.{all-done, all-on, all-stop, none_left, onto}

are_comma : (b c : ℕ) → is_comma b c ≡ true → (b ≡ 44) × (c ≡ 32)
are_comma b c h = let p = and_parts (b == 44) (c == 32) h in (grind (arith, nat_tests, p.0), grind (arith, nat_tests, p.1))

no_comma : (b c : ℕ) (bs : List ℕ) → LacksTextAt (codes ", ") (b ∷ c ∷ bs) 0 → is_comma b c ≡ false
no_comma b c bs lacks = elim (cases_Bool (is_comma b c)) [
  | inl here ↦ let p = are_comma b c here in absurd (lacks bs (rw (p.0, p.1) refl))
  | inr gone ↦ gone
]

pub cut-none : (s : List ℕ) → ((i : ℕ) → i ≤ length s → LacksTextAt (codes ", ") s i) → cut s ≡ None
unfolding cut
cut-none [] lacks = refl
cut-none (b ∷ []) lacks = refl
cut-none (b ∷ c ∷ bs) lacks =
    let gone : is_comma b c ≡ false = no_comma b c bs (lacks 0 (omega arith)) in
    let rest : cut (c ∷ bs) ≡ None = cut-none (c ∷ bs) (λ i within. lacks (suc i) (omega arith)) in
    rw (gone, rest) refl

-- a list that is too short
too_short : {A : Type 0} (x y : ℕ) (bs cs : List ℕ) → length bs ≤ 1 → bs ≡ x ∷ y ∷ cs → A
too_short x y bs cs short same = let e : length bs ≡ length (x ∷ y ∷ cs) = ap length same in absurd (omega (arith, e))

pub cut-some : (s : List ℕ) (i : ℕ) (after : List ℕ) → ((k : ℕ) → k < i → LacksTextAt (codes ", ") s k) → drop i s ≡ codes ", " ++ after
    → cut s ≡ Some (take i s, after)
unfolding cut
cut-some [] zero after lacks here = too_short 44 32 [] after (omega arith) here
cut-some [] (suc i) after lacks here = too_short 44 32 [] after (omega arith) here
cut-some (b ∷ []) zero after lacks here = too_short 44 32 (b ∷ []) after (omega arith) here
cut-some (b ∷ []) (suc i) after lacks here = let e : drop i [] ≡ [] = none_left [] i (omega arith) in
    too_short 44 32 [] after (omega arith) (sym e ∙ here)
cut-some (b ∷ c ∷ bs) zero after lacks here = let P : List ℕ → Type 0 = λ z. cut z ≡ Some ([], after) in subst P (sym here) refl
cut-some (b ∷ c ∷ bs) (suc i) after lacks here =
    let gone : is_comma b c ≡ false = no_comma b c bs (lacks 0 (omega arith)) in
    let rest : cut (c ∷ bs) ≡ Some (take i (c ∷ bs), after) = cut-some (c ∷ bs) i after (λ k below. lacks (suc k) (omega arith)) here in
    rw (gone, rest) refl

-- what a search for `, ` finds
pub cut-found : (s : List ℕ) (parts : Option (Bor (List ℕ) × Bor (List ℕ)))
    → MatchOption parts (FindsText (codes ", ") s None) (λ p. SplitsAroundMatch (FindsText (codes ", ")) s p.0.now p.1.now)
    → option_map (λ p. (p.0.now, p.1.now)) parts ≡ cut s
cut-found s None lacks = sym (cut-none s lacks)
cut-found s (Some p) found =
    let i = found.0 in
    let here : drop i s ≡ codes ", " ++ p.1.now = found.2.1.split ∙ ap (λ (z : List ℕ). codes ", " ++ z) (sym found.4) in
    let e : cut s ≡ Some (take i s, p.1.now) = cut-some s i p.1.now found.2.0 here in
    let front : Some (p.0.now, p.1.now) ≡ Some (take i s, p.1.now) = ap (λ (z : List ℕ). Some (z, p.1.now)) found.3 in
    front ∙ sym e

-- what a cut leaves
abbrev pub by_cut : List ℕ → Option (List ℕ × List ℕ) → List (List ℕ)
by_cut s None = s ∷ []
by_cut s (Some parts) = parts.0 ∷ pieces parts.1

onto_cut : (b : ℕ) (s : List ℕ) (parts : Option (List ℕ × List ℕ))
    → onto_first b (by_cut s parts) ≡ by_cut (b ∷ s) (option_map (λ p. (b ∷ p.0, p.1)) parts)
onto_cut b s None = refl
onto_cut b s (Some parts) = refl

pub pieces-cut : (s : List ℕ) → pieces s ≡ by_cut s (cut s)
unfolding pieces cut
pieces-cut [] = refl
pieces-cut (b ∷ []) = refl
pieces-cut (b ∷ c ∷ bs) = elim (cases_Bool (is_comma b c)) [
  | inl here ↦ rw here refl
  | inr gone ↦ rw (gone, pieces-cut (c ∷ bs)) (onto_cut b (c ∷ bs) (cut (c ∷ bs)))
]

-- what follows a cut is shorter
shorter-after : (b n : ℕ) (o : Option (List ℕ × List ℕ)) (p : List ℕ × List ℕ) → ((q : List ℕ × List ℕ) → o ≡ Some q → length q.1 < n)
    → option_map (λ q. (b ∷ q.0, q.1)) o ≡ Some p → length p.1 < n + 1
shorter-after b n None p shorter e = cc e
shorter-after b n (Some q) p shorter e =
    let same : q.1 ≡ p.1 = ap (λ (z : List ℕ × List ℕ). z.1) (same_Some _ _ e) in
    let h : length q.1 < n = shorter q refl in
    let l : length q.1 ≡ length p.1 = ap length same in
    omega (arith, h, l)

pub cut-shorter : (s : List ℕ) (p : List ℕ × List ℕ) → cut s ≡ Some p → length p.1 < length s
unfolding cut
cut-shorter [] p e = cc e
cut-shorter (b ∷ []) p e = cc e
cut-shorter (b ∷ c ∷ bs) p e =
    let on : Option (List ℕ × List ℕ) = option_map (λ q. (b ∷ q.0, q.1)) (cut (c ∷ bs)) in
    elim (cases_Bool (is_comma b c)) [
      | inl here ↦
          let f : Some ([], bs) ≡ Some p = subst (λ t. cond t (Some ([], bs)) on ≡ Some p) here e in
          let same : bs ≡ p.1 = ap (λ (z : List ℕ × List ℕ). z.1) (same_Some _ _ f) in
          let l : length bs ≡ length p.1 = ap length same in
          omega (arith, l)
      | inr gone ↦
          let f : on ≡ Some p = subst (λ t. cond t (Some ([], bs)) on ≡ Some p) gone e in
          let h : length p.1 < length (c ∷ bs) + 1 = shorter-after b (length (c ∷ bs)) (cut (c ∷ bs)) p (cut-shorter (c ∷ bs)) f in
          omega (arith, h)
    ]

-- ---- the values of the pieces, one more at a time

module _ (front : List ValueText) (rest first after : List ℕ) (total : Option (List ValueText)) (here : cut rest ≡ Some (first, after))
    (so_far : onto front (all_of value_of (pieces rest)) ≡ total) where
  in_two : pieces rest ≡ first ∷ pieces after
  in_two = pieces-cut rest ∙ ap (by_cut rest) here

  so_far_in_two : onto front (all_of value_of (first ∷ pieces after)) ≡ total
  so_far_in_two = subst (λ (z : List (List ℕ)). onto front (all_of value_of z) ≡ total) in_two so_far

  pub values-on : (v : ValueText) → value_of first ≡ Some v → onto (front ++ v ∷ []) (all_of value_of (pieces after)) ≡ total
  values-on v h = all-on value_of front first (pieces after) total v h so_far_in_two

  pub values-stop : value_of first ≡ None → None ≡ total
  values-stop h = all-stop value_of front first (pieces after) total h so_far_in_two

module _ (front : List ValueText) (rest : List ℕ) (total : Option (List ValueText)) (here : cut rest ≡ None)
    (so_far : onto front (all_of value_of (pieces rest)) ≡ total) where
  in_one : pieces rest ≡ rest ∷ []
  in_one = pieces-cut rest ∙ ap (by_cut rest) here

  so_far_in_one : onto front (all_of value_of (rest ∷ [])) ≡ total
  so_far_in_one = subst (λ (z : List (List ℕ)). onto front (all_of value_of z) ≡ total) in_one so_far

  pub last-done : (v : ValueText) → value_of rest ≡ Some v → Some (front ++ v ∷ []) ≡ total
  last-done v h = all-done value_of (front ++ v ∷ []) total (all-on value_of front rest [] total v h so_far_in_one)

  pub last-stop : value_of rest ≡ None → None ≡ total
  last-stop h = all-stop value_of front rest [] total h so_far_in_one
