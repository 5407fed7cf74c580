-- Names of which no two are one: of a list in which a search finds no repeat, and of the distinct names of a list.
use Rattle.protocol_script.proofs.Common.{◌≡◌, ℕ, suc, List, [], ◌∷◌, length, take, get_or, true, false, None, Some, refl, sym, ap, ◌∙◌}
use Rattle.protocol_script.proofs.Common.{⊎_elim, arith, bytes_eq, not, slice_get, AllPairs, list_any, cases_lt, slice_get-get_or}
use Rattle.protocol_script.proofs.Common.{bytes_eq-Decides, first_repeat}
use Rattle.std.proofs.{Common.filter, lemmas.List.get_or-take, lemmas.List.length-take-le, lemmas.List.Elements.All-cons}
use Rattle.std.proofs.lemmas.List.{Elements.All-filter, Elements.filter_passes, Folds.list_any_at}
use Rattle.std.proofs.lemmas.{List.Kept.AllPairs-cons, List.Kept.AllPairs-filter, Option.get_or_from_slice_get}
use Rattle.std.specs.List.{All}
use Rattle.ebc_base.proofs.Lists.{AllPairs_at}
use Rattle.note_draft.specs.{Names.distinct, Repeats.repeats}
use Rattle.note_draft.proofs.RepeatLaws.{repeats-at}
use Rattle.type_notes.proofs.OwnerLaws.{fails-from_none}

-- two names aren't one
abbrev pub AreTwo : List ℕ → List ℕ → Type 0
AreTwo a b = a ≡ b → ⊥

same : (a : List ℕ) → bytes_eq a a ≡ true
same a = (bytes_eq-Decides a a).1 refl

-- names of which no two are one stand at one place each
pub apart_at : (names : List (List ℕ)) → AllPairs AreTwo names → (j k : ℕ) (m n : List ℕ) → slice_get names j ≡ Some m
    → slice_get names k ≡ Some n → m ≡ n → j ≡ k
apart_at names apart j k m n first second e = ⊎_elim
    (λ below. absurd (AllPairs_at AreTwo names j k m n apart first second below e))
    (λ above. ⊎_elim
    (λ below. absurd (AllPairs_at AreTwo names k j n m apart second first below (sym e)))
    (λ past. omega arith)
    (cases_lt k j))
    (cases_lt j k)

-- where a search finds no repeat
pub apart_once : (names : List (List ℕ)) → first_repeat bytes_eq names ≡ None → AllPairs AreTwo names
unfolding first_repeat
apart_once names none i j d low high e =
    let x = get_or names j d in
    let here : x ≡ get_or names j x = sym (get_or_from_slice_get names j x x (slice_get-get_or names j d high)) in
    let new : repeats bytes_eq names j ≡ false = fails-from_none (repeats bytes_eq names) (length names) 0 none j (omega arith)
    (omega arith) in
    let long : length (take j names) ≡ j = length-take-le j names (omega arith) in
    let there : get_or (take j names) i d ≡ x = get_or-take j names i d low ∙ e in
    let seen : list_any (bytes_eq x) (take j names) ≡ true = list_any_at (bytes_eq x) (take j names) i d (omega arith)
    (ap (bytes_eq x) there ∙ same x) in
    let both : false ≡ true = sym new ∙ (repeats-at bytes_eq names j x high here ∙ seen) in
    absurd cc

-- a name that a filter kept is another one
other : (name m : List ℕ) → not (bytes_eq m name) ≡ true → AreTwo name m
other name m kept e =
    let one : not (bytes_eq m name) ≡ false = ap (λ b. not (bytes_eq b name)) (sym e) ∙ ap not (same name) in
    let both : true ≡ false = sym kept ∙ one in
    absurd cc

-- the distinct names of a list
pub apart_distinct : (names : List (List ℕ)) → AllPairs AreTwo (distinct names)
unfolding distinct
apart_distinct [] = λ i j d low high. absurd (omega arith)
apart_distinct (name ∷ names) =
    let kept = λ (m : List ℕ). not (bytes_eq m name) in
    AllPairs-cons AreTwo name (filter kept (distinct names))
    (λ k d h. other name (get_or (filter kept (distinct names)) k d) (filter_passes kept (distinct names) k d h))
    (AllPairs-filter AreTwo kept (distinct names) (apart_distinct names))

-- what holds of each name holds of each of the distinct ones
pub all_distinct : (P : List ℕ → Type 0) (names : List (List ℕ)) → All P names → All P (distinct names)
unfolding distinct
all_distinct P [] all = all
all_distinct P (name ∷ names) all =
    All-cons P name (filter (λ m. not (bytes_eq m name)) (distinct names)) (all 0 name (omega arith))
    (All-filter (λ m. not (bytes_eq m name)) P (distinct names) (all_distinct P names (λ k d h. all (suc k) d (omega arith))))
