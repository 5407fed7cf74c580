-- The rows of an object that differ from what they were, one row after the other.
use Rattle.std.specs.Prelude.{not, slice_index, slice_index_or}
use Rattle.std.specs.List.{filter, flat_map, list_all, range_with_len}
use Rattle.std.proofs.Common.{◌≡◌, ℕ, zero, suc, ◌&&◌, ◌+◌, ◌-◌, ◌*◌, ◌/◌, ◌<◌, ◌≤◌, Bool, true, false, cond}
use Rattle.std.proofs.Common.{List, [], ◌∷◌, ◌++◌, length, nat_eq, take}
use Rattle.std.proofs.Common.{refl, sym, ap, ◌∙◌, inl, inr, append_assoc, arith, subst}
use Rattle.std.proofs.lemmas.Bool.{cases_lt}
use Rattle.std.proofs.lemmas.Grind.{flat_map-append}
use Rattle.std.proofs.lemmas.List.{append-nil, length-append, take-append-le}
use Rattle.std.proofs.lemmas.List.Elements.{filter-append}
use Rattle.std.proofs.lemmas.List.Folds.{list_all-append, list_all_at}
use Rattle.std.proofs.lemmas.List.FromFn.{get_or-range_with_len, length-range_with_len}
use Rattle.note_types.specs.declared.notes.Notes.{Notes}
use Rattle.printed_texts.proofs.RangeLaws.{range_more}
use Rattle.run_trace.specs.Changes.{object_lines, row_line_of, row_of, row_place, rows_differ}
use Rattle.step_texts.specs.RowTexts.{more_line, row_line}
use Rattle.step_texts.specs.declared.step.Change.{Change}

-- ---- whether a row differs

turned : (a b : Bool) → not b ≡ not a → a ≡ b
turned true true same = refl
turned true false same = same
turned false true same = same
turned false false same = refl

-- a row with a byte that is another than before differs
pub differ_at : (old new : List ℕ) (k : ℕ) → k < length new
    → true ≡ not (nat_eq (slice_index_or old k 0) (slice_index new k)) → true ≡ rows_differ old new
differ_at old new k less other =
    let count = length-range_with_len 0 (length new) in
    let test : ℕ → Bool = λ j. nat_eq (slice_index_or old j 0) (slice_index new j) in
    let same : 0 + k ≡ k = omega arith in
    ap not (sym (list_all_at test (range_with_len 0 (length new)) k 0 (omega (arith, less, count))
    (ap test (get_or-range_with_len 0 (length new) k 0 less ∙ same) ∙ turned (test k) false other)))

-- so many of its bytes are those that were there before
abbrev pub rows_same : (old new : List ℕ) → ℕ → Bool
rows_same old new k = list_all (λ j. nat_eq (slice_index_or old j 0) (slice_index new j)) (range_with_len 0 k)

pub same_more : (old new : List ℕ) (k : ℕ) → rows_same old new k ≡ true
    → false ≡ not (nat_eq (slice_index_or old k 0) (slice_index new k)) → rows_same old new (k + 1) ≡ true
same_more old new k before same =
    let test : ℕ → Bool = λ j. nat_eq (slice_index_or old j 0) (slice_index new j) in
    let here : test k ≡ true = turned (test k) true same in
    let next : k + 1 ≡ suc k = omega arith in
    let last : 0 + k ≡ k = omega arith in
    ap (λ n. list_all test (range_with_len 0 n)) next
    ∙ ap (list_all test) (range_more 0 k ∙ ap (λ j. range_with_len 0 k ++ j ∷ []) last)
    ∙ list_all-append test (range_with_len 0 k) (k ∷ [])
    ∙ (λ i. before i && (here i && true))

pub same_all : (old new : List ℕ) (k : ℕ) → rows_same old new k ≡ true → k ≡ length new → false ≡ rows_differ old new
same_all old new k same all = ap not (sym same) ∙ ap (λ n. not (rows_same old new n)) all

-- ---- one row after the other

take-short : (n : ℕ) (xs : List ℕ) → length xs ≤ n → take n xs ≡ xs
take-short zero [] less = refl
take-short (suc n) [] less = refl
take-short zero (x ∷ xs) less = absurd (omega (arith, less))
take-short (suc n) (x ∷ xs) less = ap (λ t. x ∷ t) (take-short n xs (omega (arith, less)))

chosen-more : (test : ℕ → Bool) (n : ℕ)
    → filter test (range_with_len 0 (n + 1)) ≡ filter test (range_with_len 0 n) ++ cond (test n) (n ∷ []) []
chosen-more test n =
    let next : n + 1 ≡ suc n = omega arith in
    let last : 0 + n ≡ n = omega arith in
    ap (λ m. filter test (range_with_len 0 m)) next ∙ ap (filter test) (range_more 0 n ∙ ap (λ k. range_with_len 0 n ++ k ∷ []) last)
    ∙ filter-append test (range_with_len 0 n) (n ∷ [])

-- the lines of the first eight rows that a test chooses among so many, behind a text, and how many it chooses
pub record AreChosen (test : ℕ → Bool) (line : ℕ → List ℕ) (n rows : ℕ) (old new : List ℕ) : Type 0 where
  pub count : rows ≡ length (filter test (range_with_len 0 n))
  pub few : rows ≤ n
  pub text : new ≡ old ++ flat_map line (take 8 (filter test (range_with_len 0 n)))

module _ (test : ℕ → Bool) (line : ℕ → List ℕ) where
  pub none-chosen : (old : List ℕ) → AreChosen test line 0 0 old old
  none-chosen old = record { count = refl; few = omega arith; text = sym (append-nil old) }

  pub not-chosen : (n rows : ℕ) (old new : List ℕ) → AreChosen test line n rows old new → test n ≡ false
      → AreChosen test line (n + 1) rows old new
  not-chosen n rows old new are isnt =
      let few = are.few in
      let same : filter test (range_with_len 0 n) ≡ filter test (range_with_len 0 (n + 1))
      = sym (chosen-more test n ∙ ap (λ b. filter test (range_with_len 0 n) ++ cond b (n ∷ []) []) isnt ∙ append-nil _) in
      record {
        count = are.count ∙ ap length same;
        few = omega (arith, few);
        text = are.text ∙ ap (λ ks. old ++ flat_map line (take 8 ks)) same;
      }

  pub told-chosen : (n rows : ℕ) (old new after : List ℕ) → AreChosen test line n rows old new → test n ≡ true → rows < 8
      → after ≡ new ++ line n → AreChosen test line (n + 1) (rows + 1) old after
  told-chosen n rows old new after are is less told =
      let chosen : List ℕ = filter test (range_with_len 0 n) in
      let few = are.few in
      let count = are.count in
      let long = length-append chosen (n ∷ []) in
      let grown : filter test (range_with_len 0 (n + 1)) ≡ chosen ++ n ∷ []
      = chosen-more test n ∙ ap (λ b. chosen ++ cond b (n ∷ []) []) is in
      record {
        count = (let all : rows + 1 ≡ length (chosen ++ n ∷ []) = omega (arith, count, long) in all) ∙ ap length (sym grown);
        few = omega (arith, few);
        text = told ∙ ap (λ t. t ++ line n) (are.text
            ∙ ap (λ ks. old ++ flat_map line ks) (take-short 8 chosen (omega (arith, count, less))))
            ∙ append_assoc old (flat_map line chosen) (line n)
            ∙ ap (λ t. old ++ t) (ap (λ t. flat_map line chosen ++ t) (sym (append-nil (line n)))
            ∙ sym (flat_map-append line chosen (n ∷ [])))
            ∙ ap (λ ks. old ++ flat_map line ks) (sym (take-short 8 (chosen ++ n ∷ []) (omega (arith, count, long, less)))
            ∙ ap (take 8) (sym grown));
      }

  pub more-chosen : (n rows : ℕ) (old new : List ℕ) → AreChosen test line n rows old new → test n ≡ true → 8 ≤ rows
      → AreChosen test line (n + 1) (rows + 1) old new
  more-chosen n rows old new are is least =
      let chosen : List ℕ = filter test (range_with_len 0 n) in
      let few = are.few in
      let count = are.count in
      let long = length-append chosen (n ∷ []) in
      let grown : filter test (range_with_len 0 (n + 1)) ≡ chosen ++ n ∷ []
      = chosen-more test n ∙ ap (λ b. chosen ++ cond b (n ∷ []) []) is in
      record {
        count = (let all : rows + 1 ≡ length (chosen ++ n ∷ []) = omega (arith, count, long) in all) ∙ ap length (sym grown);
        few = omega (arith, few);
        text = are.text ∙ ap (λ ks. old ++ flat_map line ks)
            (sym (take-append-le 8 chosen (n ∷ []) (omega (arith, count, least))) ∙ ap (take 8) (sym grown));
      }

-- whether a row of an object differs
abbrev pub row_differs : (old new : List ℕ) → ℕ → Bool
row_differs old new k = rows_differ (row_of old (16 * k)) (row_of new (16 * k))

-- all rows and the count of those that aren't told are the lines of the object
pub object_is : (notes : Notes) (base object : ℕ) (old new : List ℕ) (n rows more : ℕ) (text told after : List ℕ)
    → AreChosen (row_differs old new) (row_line_of notes base object old new) n rows text told
    → n ≡ (length new + 15) / 16 → more ≡ rows - 8 → after ≡ told ++ more_line more → after ≡ text ++ object_lines notes base object old new
unfolding object_lines
object_is notes base object old new n rows more text told after are all left put =
    let chosen : ℕ → List ℕ = λ m. filter (row_differs old new) (range_with_len 0 m) in
    let lines : ℕ → List ℕ = λ m. flat_map (row_line_of notes base object old new) (take 8 (chosen m)) in
    let rest : ℕ → List ℕ = λ m. more_line (length (chosen m) - 8) in
    put ∙ ap (λ t. t ++ more_line more) are.text ∙ append_assoc text (lines n) (more_line more)
    ∙ ap (λ m. text ++ (lines n ++ more_line m)) (left ∙ ap (λ k. k - 8) are.count)
    ∙ ap (λ m. text ++ (lines m ++ rest m)) all

-- one row more
pub row-step : (notes : Notes) (base object : ℕ) (old new : List ℕ) (k rows next : ℕ) (place : Change) (before row text told after : List ℕ)
    → place ≡ row_place notes base object (16 * k) → before ≡ row_of old (16 * k) → row ≡ row_of new (16 * k)
    → AreChosen (row_differs old new) (row_line_of notes base object old new) k rows text told
    → (rows_differ before row ≡ false → next ≡ rows) → (rows_differ before row ≡ true → next ≡ rows + 1)
    → (rows_differ before row ≡ false → after ≡ told)
    → (rows_differ before row ≡ true → rows < 8 → after ≡ told ++ row_line notes place before row)
    → (rows_differ before row ≡ true → 8 ≤ rows → after ≡ told)
    → AreChosen (row_differs old new) (row_line_of notes base object old new) (k + 1) next text after
row-step notes base object old new k rows next place before row text told after placed was is are count_same count_more same tells more =
    either (rows_differ before row) refl
  where
    test : ℕ → Bool
    test = row_differs old new

    line : ℕ → List ℕ
    line = row_line_of notes base object old new

    asked : rows_differ before row ≡ test k
    asked = λ i. rows_differ (was i) (is i)

    lines : row_line notes place before row ≡ line k
    lines = λ i. row_line notes (placed i) (was i) (is i)

    either : (b : Bool) → rows_differ before row ≡ b → AreChosen test line (k + 1) next text after
    either false isnt =
        subst (λ n. AreChosen test line (k + 1) n text after) (sym (count_same isnt))
        (subst (λ t. AreChosen test line (k + 1) rows text t) (sym (same isnt))
        (not-chosen test line k rows text told are (sym asked ∙ isnt)))
    either true does =
        subst (λ n. AreChosen test line (k + 1) n text after) (sym (count_more does))
        (elim (cases_lt rows 8) as (λ _. AreChosen test line (k + 1) (rows + 1) text after) [
          | inl less ↦
              told-chosen test line k rows text told after are (sym asked ∙ does) less (tells does less ∙ ap (λ t. told ++ t) lines)
          | inr least ↦
              subst (λ t. AreChosen test line (k + 1) (rows + 1) text t) (sym (more does least))
              (more-chosen test line k rows text told are (sym asked ∙ does) least)
        ])
