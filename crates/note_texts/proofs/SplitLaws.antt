-- A text is cut just where the first mark stands.
use Rattle.std.proofs.Common.{◌≡◌, ℕ, ◌<◌, List, [], ◌∷◌, ◌++◌, length, Some, None, Bool, true, false, not, ◌&&◌, ◌==◌, refl, ap, ◌∙◌}
use Rattle.std.proofs.Common.{arith, length-append, nat_lt, ◌⊎◌, inl, inr}
use Rattle.std.proofs.lemmas.Bool.Decides.{nat_tests}
use Rattle.std.proofs.lemmas.Bool.{cases_Bool, and_parts}
use Rattle.std.proofs.lemmas.List.Sums.{split_at_first, passes_at_first}
use Rattle.std.proofs.lemmas.List.Folds.{list_all-append}
use Rattle.std.proofs.Math.Seq.{take-append_seam, drop-append-add}
use Rattle.std.specs.List.{position_or_len, before_first, after_first, list_all}
use Rattle.note_texts.specs.Splits.{split_at, parts_at}

-- no byte is the mark
abbrev pub lacks : ℕ → List ℕ → Bool
lacks mark text = list_all (λ b. not (b == mark)) text

pub not_true : (a : Bool) → not a ≡ true → a ≡ false
not_true true h = cc h
not_true false h = refl

pub lacks-append : (mark : ℕ) (xs ys : List ℕ) → lacks mark xs ≡ true → lacks mark ys ≡ true → lacks mark (xs ++ ys) ≡ true
lacks-append mark xs ys a b = list_all-append (λ b. not (b == mark)) xs ys ∙ rw (a, b) refl

position_at : (mark : ℕ) (xs ys : List ℕ) → lacks mark xs ≡ true → position_or_len (λ b. b == mark) (xs ++ mark ∷ ys) ≡ length xs
position_at mark [] ys h = let e : (mark == mark) ≡ true = grind (arith, nat_tests) in rw e refl
position_at mark (x ∷ xs) ys h =
    let p = and_parts (not (x == mark)) (lacks mark xs) h in
    rw (not_true (x == mark) p.0, position_at mark xs ys p.1) (omega arith)

nowhere : (mark : ℕ) (xs : List ℕ) → lacks mark xs ≡ true → position_or_len (λ b. b == mark) xs ≡ length xs
nowhere mark [] h = refl
nowhere mark (x ∷ xs) h =
    let p = and_parts (not (x == mark)) (lacks mark xs) h in
    rw (not_true (x == mark) p.0, nowhere mark xs p.1) (omega arith)

pub split_at-mark : (mark : ℕ) (xs ys : List ℕ) → lacks mark xs ≡ true → split_at mark (xs ++ mark ∷ ys) ≡ Some (xs, ys)
unfolding split_at
split_at-mark mark xs ys h =
    let longer : nat_lt (length xs) (length (xs ++ mark ∷ ys)) ≡ true = grind (arith, nat_tests, length-append) in
    rw (position_at mark xs ys h, longer, take-append_seam xs (mark ∷ ys), drop-append-add xs (mark ∷ ys) 1) refl

pub parts_at-mark : (mark : ℕ) (xs ys : List ℕ) → lacks mark xs ≡ true → parts_at mark (xs ++ mark ∷ ys) ≡ (xs, Some ys)
unfolding parts_at
parts_at-mark mark xs ys h =
    let longer : nat_lt (length xs) (length (xs ++ mark ∷ ys)) ≡ true = grind (arith, nat_tests, length-append) in
    rw (position_at mark xs ys h, longer, take-append_seam xs (mark ∷ ys), drop-append-add xs (mark ∷ ys) 1) refl

pub parts_at-none : (mark : ℕ) (xs : List ℕ) → lacks mark xs ≡ true → parts_at mark xs ≡ (xs, None)
unfolding parts_at
parts_at-none mark xs h =
    let same : nat_lt (length xs) (length xs) ≡ false = grind (arith, nat_tests) in
    rw (nowhere mark xs h, same) refl

-- the two parts of a text round its mark
pub record Parts (mark : ℕ) (text : List ℕ) : Type 0 where
  pub before : List ℕ
  pub after : List ℕ
  pub whole : text ≡ before ++ mark ∷ after
  pub split : split_at mark text ≡ Some (before, after)
  pub cut : parts_at mark text ≡ (before, Some after)

is_mark : (b mark : ℕ) → (b == mark) ≡ true → b ≡ mark
is_mark b mark h = grind (arith, nat_tests)

pub split_cases : (mark : ℕ) (text : List ℕ) → Parts mark text ⊎ ((split_at mark text ≡ None) × (parts_at mark text ≡ (text, None)))
unfolding split_at parts_at
split_cases mark text = elim (cases_Bool (nat_lt (position_or_len (λ b. b == mark) text) (length text))) [
  | inl found ↦
      let within : position_or_len (λ b. b == mark) text < length text = grind (arith, nat_tests) in
      let parts = split_at_first (λ b. b == mark) text 0 within in
      let here = is_mark _ mark (passes_at_first (λ b. b == mark) text 0 within) in
      inl (record {
        before = before_first (λ b. b == mark) text;
        after = after_first (λ b. b == mark) text;
        whole = parts ∙ ap (λ b. before_first (λ b. b == mark) text ++ b ∷ after_first (λ b. b == mark) text) here;
        split = rw found refl;
        cut = rw found refl;
      })
  | inr gone ↦ inr (rw gone refl, rw gone refl)
]
