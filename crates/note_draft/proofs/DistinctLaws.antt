-- The distinct names of a list, with one name more at its end.
use Rattle.std.proofs.Common.{◌≡◌, ℕ, ◌+◌, ◌≤◌, List, [], ◌∷◌, ◌++◌, filter, length, Bool, true, false, cond, refl, ap, sym, ◌∙◌, arith}
use Rattle.std.specs.Prelude.{bytes_eq, not, ◌||◌, ◌&&◌}
use Rattle.std.specs.List.{count_by, list_any}
use Rattle.std.proofs.lemmas.List.{append-nil}
use Rattle.std.proofs.lemmas.List.Elements.{filter-append}
use Rattle.std.proofs.lemmas.List.Sums.{length-filter, count_by-le-length}
use Rattle.std.proofs.lemmas.Map.Views.{any-filter_same}
use Rattle.std.proofs.lemmas.Slice.Eq.{bytes_eq-Decides}
use Rattle.ebc_base.specs.Tables.{with_name}
use Rattle.note_draft.specs.Names.{distinct}

-- the names that aren't this one
abbrev pub others : List ℕ → List (List ℕ) → List (List ℕ)
others name names = filter (λ other. not (bytes_eq other name)) names

filter-unless : (b : Bool) (name m : List ℕ) (names : List (List ℕ))
    → others name (cond b names (names ++ m ∷ [])) ≡ cond b (others name names) (others name names ++ others name (m ∷ []))
filter-unless true name m names = refl
filter-unless false name m names = filter-append (λ other. not (bytes_eq other name)) names (m ∷ [])

by_tests : (same there : Bool) (name m : List ℕ) (rest : List (List ℕ))
    → name ∷ cond there rest (rest ++ cond (not same) (m ∷ []) []) ≡ cond (same || (not same && there)) (name ∷ rest)
    ((name ∷ rest) ++ m ∷ [])
by_tests true true name m rest = refl
by_tests true false name m rest = ap (λ xs. name ∷ xs) (append-nil rest)
by_tests false true name m rest = refl
by_tests false false name m rest = refl

-- a name that isn't this one is among the others where it is among all
is_other : (name m : List ℕ) (names : List (List ℕ)) → list_any (bytes_eq m) (others name names) ≡
    (not (bytes_eq m name) && list_any (bytes_eq m) names)
is_other name m names = any-filter_same (bytes_eq m) (λ other. not (bytes_eq other name)) (not (bytes_eq m name))
    (λ k same. ap (λ x. not (bytes_eq x name)) (sym ((bytes_eq-Decides m k).0 same))) names

-- one name more
pub distinct-push : (names : List (List ℕ)) (m : List ℕ) → distinct (names ++ m ∷ []) ≡ with_name m (distinct names)
unfolding distinct
distinct-push [] m = refl
distinct-push (name ∷ names) m =
    ap (λ xs. name ∷ others name xs) (distinct-push names m)
    ∙ (ap (λ xs. name ∷ xs) (filter-unless (list_any (bytes_eq m) (distinct names)) name m (distinct names))
    ∙ (by_tests (bytes_eq m name) (list_any (bytes_eq m) (distinct names)) name m (others name (distinct names))
    ∙ ap (λ b. cond (bytes_eq m name || b) (name ∷ others name (distinct names)) ((name ∷ others name (distinct names)) ++ m ∷ []))
    (sym (is_other name m (distinct names)))))

pub length-distinct : (names : List (List ℕ)) → length (distinct names) ≤ length names
unfolding distinct
length-distinct [] = omega arith
length-distinct (name ∷ names) =
    let e : length (others name (distinct names)) ≡ count_by (λ other. not (bytes_eq other name)) (distinct names) =
    length-filter (λ other. not (bytes_eq other name)) (distinct names) in
    let fewer : count_by (λ other. not (bytes_eq other name)) (distinct names) ≤ length (distinct names) =
    count_by-le-length (λ other. not (bytes_eq other name)) (distinct names) in
    let rest : length (distinct names) ≤ length names = length-distinct names in
    omega arith
