-- Numbers within bounds, names and counts are read just where the grammar has them.
use Rattle.std.proofs.Common.{◌≡◌, ℕ, ◌+◌, ◌-◌, ◌%◌, ◌^◌, ◌<◌, ◌≤◌, List, [], ◌∷◌, ◌++◌, length, Option, Some, Bool, true, false, refl, ap}
use Rattle.std.proofs.Common.{subst, ◌∙◌, arith, inl, inr}
use Rattle.std.proofs.lemmas.Bool.Decides.{nat_tests}
use Rattle.std.proofs.lemmas.Bool.{cases_Bool, and_parts}
use Rattle.std.proofs.lemmas.Option.{cond_some, option_and_then_some, same_Some}
use Rattle.std.proofs.lemmas.Fmt.{decimal_by_steps}
use Rattle.std.proofs.lemmas.List.Folds.{list_all-append}
use Rattle.std.specs.Prelude.{nat_le, ◌==◌, ◌&&◌}
use Rattle.std.specs.Fmt.{decimal}
use Rattle.std.specs.List.{list_all}
use Rattle.ebc_base.specs.Names.{is_digit, begins_name, continues_name, is_name, name_of}
use Rattle.note_texts.specs.Numbers.{number_of, number_in, within}
use Rattle.note_texts.specs.CellTexts.{counted_of}
use Rattle.note_texts.specs.Grammar.{IsName, IsNameText, IsNumber, IsNumberIn, IsCounted, ReadsJust}
use Rattle.note_texts.proofs.NumberLaws.{number_exact, number_of-decimal, decimal-number_of}
use Rattle.note_texts.proofs.SplitLaws.{split_cases, lacks, lacks-append, parts_at-mark, parts_at-none}

within_is : (low high m n : ℕ) → within low high m ≡ Some n → (m ≡ n) × (low ≤ n) × (n ≤ high)
within_is low high m n h = grind (arith, nat_tests)

pub number_in-sound : (low high : ℕ) (text : List ℕ) (n : ℕ) → number_in low high text ≡ Some n → IsNumberIn low high text n
number_in-sound low high text n h = option_and_then_some (within low high) (number_of text) n h (λ m found inside.
    let w = within_is low high m n inside in
    let d = decimal-number_of text m found in
    (d.0 ∙ ap decimal w.0, w.1, w.2))

pub number_in-complete : (low high : ℕ) (text : List ℕ) (n : ℕ) → high < 2 ^ 64 → IsNumberIn low high text n
    → number_in low high text ≡ Some n
number_in-complete low high text n small h =
    let a : nat_le low n ≡ true = let l = h.1 in grind (arith, nat_tests) in
    let b : nat_le n high ≡ true = let l = h.2 in grind (arith, nat_tests) in
    rw (h.0, number_of-decimal n (omega arith), a, b) refl

-- ---- names

pub name_of-sound : (text name : List ℕ) → name_of text ≡ Some name → (text ≡ name) × IsName name
name_of-sound text name h =
    let p = cond_some (is_name text) text name h in
    (p.1, subst (λ t. is_name t ≡ true) p.1 p.0)

pub name_of-complete : (name : List ℕ) → IsName name → name_of name ≡ Some name
name_of-complete name h = rw h refl

other : (p : ℕ → Bool) (x mark : ℕ) → p x ≡ true → p mark ≡ false → (x == mark) ≡ false
other p x mark good bad = elim (cases_Bool (x == mark)) [
  | inl same ↦ let e : x ≡ mark = grind (arith, nat_tests) in cc (subst (λ y. p y ≡ true) e good, bad)
  | inr not_same ↦ not_same
]

all_lack : (p : ℕ → Bool) (mark : ℕ) (xs : List ℕ) → p mark ≡ false → list_all p xs ≡ true → lacks mark xs ≡ true
all_lack p mark [] bad h = refl
all_lack p mark (x ∷ xs) bad h =
    let both = and_parts (p x) (list_all p xs) h in
    rw (other p x mark both.0 bad, all_lack p mark xs bad both.1) refl

begins_continues : (x : ℕ) → begins_name x ≡ true → continues_name x ≡ true
begins_continues x h = rw h refl

pub name_lacks : (mark : ℕ) (name : List ℕ) → continues_name mark ≡ false → IsName name → lacks mark name ≡ true
unfolding is_name
name_lacks mark [] bad h = absurd (cc h)
name_lacks mark (x ∷ xs) bad h =
    let p = and_parts (begins_name x) (nat_le (length xs) 62 && list_all continues_name xs) h in
    let q = and_parts (nat_le (length xs) 62) (list_all continues_name xs) p.1 in
    all_lack continues_name mark (x ∷ xs) bad (rw (begins_continues x p.0, q.1) refl)

one_digit : (d : ℕ) → d < 10 → list_all is_digit ((48 + d) ∷ []) ≡ true
one_digit d small =
    let a : nat_le 48 (48 + d) ≡ true = grind (arith, nat_tests) in
    let b : nat_le (48 + d) 57 ≡ true = grind (arith, nat_tests) in
    rw (a, b) refl

decimal_digits : (n : ℕ) → n < 2 ^ 64 → list_all is_digit (decimal n) ≡ true
decimal_digits n fits = decimal_by_steps (λ n ds. list_all is_digit ds ≡ true) one_digit
    (λ n ds big front. list_all-append is_digit ds ((48 + n % 10) ∷ []) ∙ rw (front, one_digit (n % 10) (omega arith)) refl) n fits

pub decimal_lacks : (mark n : ℕ) → is_digit mark ≡ false → n < 2 ^ 64 → lacks mark (decimal n) ≡ true
decimal_lacks mark n bad fits = all_lack is_digit mark (decimal n) bad (decimal_digits n fits)

-- ---- counts

pub counted_of-sound : (text : List ℕ) (t : List ℕ × ℕ) → counted_of text ≡ Some t → IsCounted text t.0 t.1
unfolding counted_of
counted_of-sound text t h = elim (split_cases 42 text) [
  | inl parts ↦
      let g = (rw parts.cut at h) in
      option_and_then_some _ _ t g (λ shape named rest.
      option_and_then_some _ _ t rest (λ count counted e.
      let n = name_of-sound parts.before shape named in
      let c = number_in-sound 1 (2 ^ 64 - 1) parts.after count counted in
      let whole : text ≡ shape ++ 42 ∷ decimal count = parts.whole ∙ (rw (n.0, c.0) refl) in
      subst (λ t. IsCounted text t.0 t.1) (same_Some _ _ e) (n.1, c.1, omega (arith, c.2), inr whole)))
  | inr none ↦
      let g = (rw none.1 at h) in
      option_and_then_some _ _ t g (λ shape named rest.
      let n = name_of-sound text shape named in
      subst (λ t. IsCounted text t.0 t.1) (same_Some _ _ rest) (n.1, omega arith, omega arith, inl (n.0, refl)))
]

pub counted_of-complete : (text shape : List ℕ) (count : ℕ) → IsCounted text shape count → counted_of text ≡ Some (shape, count)
unfolding counted_of
counted_of-complete text shape count h = elim h.3 [
  | inl plain ↦
      let cut = parts_at-none 42 shape (name_lacks 42 shape refl h.0) in
      rw (plain.0, cut, name_of-complete shape h.0, plain.1) refl
  | inr starred ↦
      let cut = parts_at-mark 42 shape (decimal count) (name_lacks 42 shape refl h.0) in
      let number = number_in-complete 1 (2 ^ 64 - 1) (decimal count) count (omega arith) (refl, h.1, omega (arith, h.2)) in
      rw (starred, cut, name_of-complete shape h.0, number) refl
]

pub counted_lacks : (mark : ℕ) (text shape : List ℕ) (count : ℕ) → continues_name mark ≡ false → is_digit mark ≡ false
    → (42 == mark) ≡ false → IsCounted text shape count → lacks mark text ≡ true
counted_lacks mark text shape count outside no_digit no_star h = elim h.3 [
  | inl plain ↦ rw plain.0 (name_lacks mark shape outside h.0)
  | inr starred ↦ rw starred (lacks-append mark shape (42 ∷ decimal count) (name_lacks mark shape outside h.0)
      (rw (no_star, decimal_lacks mark count no_digit h.2) refl))
]

-- ---- what the readers of numbers and names give

pub number_read : (text : List ℕ) (read : Option ℕ) → read ≡ number_of text → ReadsJust read (IsNumber text)
number_read text read h = rw h (number_exact text)

pub name_read : (text : List ℕ) (read : Option (List ℕ)) → read ≡ name_of text → ReadsJust read (IsNameText text)
name_read text read h = rw h (λ name. (name_of-sound text name, λ g. rw g.0 (name_of-complete name g.1)))
