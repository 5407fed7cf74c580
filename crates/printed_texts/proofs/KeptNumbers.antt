-- Lists of what a test keeps of some numbers, one number more.
use Rattle.std.proofs.Common.{◌≡◌, ℕ, ◌+◌, Bool, true, false, not, List, [], ◌∷◌, ◌++◌, filter, map, cond, refl, ap, ◌∙◌}
use Rattle.std.proofs.Common.{arith, add-one}
use Rattle.std.specs.List.{range_with_len}
use Rattle.std.proofs.lemmas.List.{map-append}
use Rattle.std.proofs.lemmas.List.Elements.{filter-append}
use Rattle.note_types.specs.States.{type_of}
use Rattle.note_types.specs.declared.notes.Notes.{Notes}
use Rattle.note_types.specs.declared.shape.Field.{Field}
use Rattle.note_types.specs.declared.state.State.{State}
use Rattle.rules_base.specs.Places.{has_field}
use Rattle.printed_texts.specs.PrintedStates.{is_left_out, register_type_text, told_up_to}
use Rattle.printed_texts.specs.PrintedTypes.{field_name, names_below}
use Rattle.printed_texts.proofs.RangeLaws.{range_more}

one_kept : {X : Type 0} (f : ℕ → X) (j : ℕ) (b : Bool) → map f (cond b (j ∷ []) []) ≡ cond b (f j ∷ []) []
one_kept f j true = refl
one_kept f j false = refl

-- the numbers from a on that a test keeps, one number more
kept_more : {X : Type 0} (f : ℕ → X) (p : ℕ → Bool) (a n j : ℕ) → a + n ≡ j
    → map f (filter p (range_with_len a (n + 1))) ≡ map f (filter p (range_with_len a n)) ++ cond (p j) (f j ∷ []) []
kept_more f p a n j e =
    let front = filter p (range_with_len a n) in
    let last : range_with_len a (n + 1) ≡ range_with_len a n ++ j ∷ [] = ap (range_with_len a) (add-one n)
    ∙ (range_more a n ∙ ap (λ x. range_with_len a n ++ x ∷ []) e) in
    ap (λ xs. map f (filter p xs)) last
    ∙ (ap (map f) (filter-append p (range_with_len a n) (j ∷ []))
    ∙ (map-append f front (filter p (j ∷ [])) ∙ ap (λ xs. map f front ++ xs) (one_kept f j (p j))))

-- no field
pub names_none : (fields : List Field) (set : ℕ) → names_below fields set 0 ≡ []
unfolding names_below
names_none fields set = refl

-- one field more
pub names_more : (fields : List Field) (set n : ℕ)
    → names_below fields set (n + 1) ≡ names_below fields set n ++ cond (has_field set n) (field_name fields n ∷ []) []
unfolding names_below
names_more fields set n = kept_more (field_name fields) (has_field set) 0 n n (omega arith)

-- no register
pub told_none : (notes : Notes) (fields : List Field) (s : State) → map (register_type_text notes fields s) (told_up_to s 0) ≡ []
unfolding told_up_to
told_none notes fields s = refl

-- one register more
pub told_more : (notes : Notes) (fields : List Field) (s : State) (n : ℕ)
    → map (register_type_text notes fields s) (told_up_to s (n + 1)) ≡ map (register_type_text notes fields s) (told_up_to s n)
    ++ cond (not (is_left_out (n + 1) (type_of s (n + 1)))) (register_type_text notes fields s (n + 1) ∷ []) []
unfolding told_up_to
told_more notes fields s n =
    kept_more (register_type_text notes fields s) (λ r. not (is_left_out r (type_of s r))) 1 n (n + 1) (omega arith)
