-- Texts side by side, a line more and at the end.
use Rattle.std.specs.Prelude.{◌||◌, if◌then◌else◌}
use Rattle.std.proofs.Common.{◌≡◌, ℕ, List, ◌∷◌, ◌++◌, Bool, true, false, Some, None, ap, sym, ◌∙◌, append_assoc, append-nil}
use Rattle.std.specs.List.{flat_map, list_any}
use Rattle.asm_text.specs.Splits.{line_cut, lines_of}
use Rattle.ebc_asm.proofs.SourceLaws.{next_lines, next_none}
use Rattle.side_by_side.specs.SideBySide.{line_beside, lines_beside, only32, only64, paired, same_subject, until_beside}

-- ---- a line more

module _ (text next after : List ℕ) (cut : line_cut text ≡ Some (next, after)) where
  lines : lines_of text ≡ next ∷ lines_of after
  lines = next_lines text next after cut

  pub any_here : (a : List ℕ) (whole : Bool) → whole ≡ list_any (same_subject a) (lines_of text) → same_subject a next ≡ true → true ≡ whole
  any_here a whole is same =
      sym (is ∙ (ap (list_any (same_subject a)) lines ∙ ap (λ b. b || list_any (same_subject a) (lines_of after)) same))

  pub any_behind : (a : List ℕ) (whole : Bool) → whole ≡ list_any (same_subject a) (lines_of text) → same_subject a next ≡ false
      → whole ≡ list_any (same_subject a) (lines_of after)
  any_behind a whole is other =
      is ∙ (ap (list_any (same_subject a)) lines ∙ ap (λ b. b || list_any (same_subject a) (lines_of after)) other)

  until_is : (a : List ℕ) (rest : List (List ℕ) → List ℕ) → until_beside a rest (lines_of text)
      ≡ (if same_subject a next then paired a next ++ rest (lines_of after) else only64 next ++ until_beside a rest (lines_of after))
  unfolding until_beside
  until_is a rest = ap (until_beside a rest) lines

  pub until_here : (a : List ℕ) (rest : List (List ℕ) → List ℕ) (old new whole : List ℕ)
      → old ++ until_beside a rest (lines_of text) ≡ whole → same_subject a next ≡ true → new ≡ old ++ paired a next
      → new ++ rest (lines_of after) ≡ whole
  until_here a rest old new whole is same put =
      let test : Bool → List ℕ = λ b. if b then paired a next ++ rest (lines_of after)
      else only64 next ++ until_beside a rest (lines_of after) in
      ap (λ t. t ++ rest (lines_of after)) put
      ∙ (append_assoc old (paired a next) (rest (lines_of after))
      ∙ (ap (λ t. old ++ t) (sym (until_is a rest ∙ ap test same)) ∙ is))

  pub until_behind : (a : List ℕ) (rest : List (List ℕ) → List ℕ) (old new whole : List ℕ)
      → old ++ until_beside a rest (lines_of text) ≡ whole → same_subject a next ≡ false → new ≡ old ++ only64 next
      → new ++ until_beside a rest (lines_of after) ≡ whole
  until_behind a rest old new whole is other put =
      let test : Bool → List ℕ = λ b. if b then paired a next ++ rest (lines_of after)
      else only64 next ++ until_beside a rest (lines_of after) in
      ap (λ t. t ++ until_beside a rest (lines_of after)) put
      ∙ (append_assoc old (only64 next) (until_beside a rest (lines_of after))
      ∙ (ap (λ t. old ++ t) (sym (until_is a rest ∙ ap test other)) ∙ is))

  pub rest_behind : (old new whole : List ℕ) → old ++ flat_map only64 (lines_of text) ≡ whole → new ≡ old ++ only64 next
      → new ++ flat_map only64 (lines_of after) ≡ whole
  rest_behind old new whole is put =
      ap (λ t. t ++ flat_map only64 (lines_of after)) put
      ∙ (append_assoc old (only64 next) (flat_map only64 (lines_of after))
      ∙ (ap (λ ls. old ++ flat_map only64 ls) (sym lines) ∙ is))

  pub line_behind : (other left old new whole : List ℕ) → old ++ lines_beside (lines_of text) (lines_of other) ≡ whole
      → ((rest : List (List ℕ) → List ℕ) → new ++ rest (lines_of left) ≡ old ++ line_beside next rest (lines_of other))
      → new ++ lines_beside (lines_of after) (lines_of left) ≡ whole
  unfolding lines_beside
  line_behind other left old new whole is put =
      put (lines_beside (lines_of after)) ∙ (ap (λ ls. old ++ lines_beside ls (lines_of other)) (sym lines) ∙ is)

-- ---- at the end

module _ (text : List ℕ) (over : line_cut text ≡ None) where
  pub any_none : (a : List ℕ) (whole : Bool) → whole ≡ list_any (same_subject a) (lines_of text) → false ≡ whole
  any_none a whole is = sym (is ∙ ap (list_any (same_subject a)) (next_none text over))

  pub until_none : (a : List ℕ) (rest : List (List ℕ) → List ℕ) (old whole : List ℕ) → old ++ until_beside a rest (lines_of text) ≡ whole
      → old ++ rest (lines_of text) ≡ whole
  unfolding until_beside
  until_none a rest old whole is =
      let none = next_none text over in
      ap (λ ls. old ++ rest ls) none ∙ (ap (λ ls. old ++ until_beside a rest ls) (sym none) ∙ is)

  pub rest_none : (old whole : List ℕ) → old ++ flat_map only64 (lines_of text) ≡ whole → old ≡ whole
  rest_none old whole is = sym (append-nil old) ∙ (ap (λ ls. old ++ flat_map only64 ls) (sym (next_none text over)) ∙ is)

  pub line_none : (other old new whole : List ℕ) → old ++ lines_beside (lines_of text) (lines_of other) ≡ whole
      → new ≡ old ++ flat_map only64 (lines_of other) → new ≡ whole
  unfolding lines_beside
  line_none other old new whole is put =
      put ∙ (ap (λ ls. old ++ lines_beside ls (lines_of other)) (sym (next_none text over)) ∙ is)

-- ---- whether a line has one that is about the same

pub line_found : (a : List ℕ) (rest : List (List ℕ) → List ℕ) (bs : List (List ℕ)) → true ≡ list_any (same_subject a) bs
    → until_beside a rest bs ≡ line_beside a rest bs
unfolding line_beside
line_found a rest bs there = ap (λ b. if b then until_beside a rest bs else only32 a ++ rest bs) there

pub line_alone : (a : List ℕ) (rest : List (List ℕ) → List ℕ) (bs : List (List ℕ)) → false ≡ list_any (same_subject a) bs
    → only32 a ++ rest bs ≡ line_beside a rest bs
unfolding line_beside
line_alone a rest bs none = ap (λ b. if b then until_beside a rest bs else only32 a ++ rest bs) none
