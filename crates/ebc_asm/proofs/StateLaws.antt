-- What is kept of names and of fixups while lines are taken: numbers don't change when names are added.
use Rattle.std.proofs.Common.{◌≡◌, ℕ, ◌+◌, List, [], ◌∷◌, ◌++◌, map, Option, Some, None, Bool, true, false, cond, refl, sym, ap, ◌∙◌}
use Rattle.std.proofs.lemmas.List.{append-nil, append_assoc}
use Rattle.std.proofs.lemmas.List.Folds.{list_any-append}
use Rattle.std.specs.Prelude.{⊤, bytes_eq, not, ◌||◌}
use Rattle.std.specs.List.{list_any, position_or_len}
use Rattle.ebc_base.specs.Tables.{is_named, name_number}
use Rattle.asm_text.specs.Lines.{Line}
use Rattle.ebc_asm.specs.Pieces.{Use, if_there, use_of}
use Rattle.ebc_asm.specs.Symbols.{Ends, and_name, and_names, ends_after, fixups_in, fixups_of, global_of, here, used_name}
use Rattle.ebc_asm.proofs.LineLaws.{ends_of, fixups_more}
use Rattle.ebc_asm.proofs.NumberLaws.{is_there}
use Rattle.std.proofs.lemmas.Bool.{or_parts, or_left}

-- ---- numbers

first_still : (b rest : Bool) (n k : ℕ) → (b || rest) ≡ true → (rest ≡ true → n ≡ k) → cond (not b) (1 + n) 0 ≡ cond (not b) (1 + k) 0
first_still true rest n k h g = refl
first_still false rest n k h g = ap (λ i. 1 + i) (g h)

passes_still : {A : Type 0} (p : A → Bool) (xs ys : List A) → list_any p xs ≡ true → position_or_len p (xs ++ ys) ≡ position_or_len p xs
passes_still p [] ys h = cc h
passes_still p (x ∷ xs) ys h = first_still (p x) (list_any p xs) (position_or_len p (xs ++ ys)) (position_or_len p xs) h
    (λ g. passes_still p xs ys g)

-- the number of a name stays as names are added behind
pub number_stays : (name : List ℕ) (names more : List (List ℕ)) → is_named name names ≡ true
    → name_number name (names ++ more) ≡ name_number name names
number_stays name names more h = passes_still (bytes_eq name) names more h

-- ---- names that are added

abbrev pub added_name : Option (List ℕ) → List (List ℕ) → List (List ℕ)
added_name None names = []
added_name (Some name) names = cond (is_named name names) [] (name ∷ [])

added_or_not : (b : Bool) (name : List ℕ) (names : List (List ℕ)) → cond b names (names ++ name ∷ []) ≡ names ++ cond b [] (name ∷ [])
added_or_not true name names = sym (append-nil names)
added_or_not false name names = refl

and_name_is : (o : Option (List ℕ)) (names : List (List ℕ)) → and_name o names ≡ names ++ added_name o names
and_name_is None names = sym (append-nil names)
and_name_is (Some name) names = added_or_not (is_named name names) name names

-- the names that a line adds
abbrev pub added_names : Line → List (List ℕ) → List (List ℕ)
added_names l names =
    added_name l.label names ++ (added_name (global_of l.statement) (and_name l.label names)
    ++ added_name (used_name (use_of l.statement)) (and_name (global_of l.statement) (and_name l.label names)))

thrice : (a b c d x y z : List (List ℕ)) → b ≡ a ++ x → c ≡ b ++ y → d ≡ c ++ z → d ≡ a ++ (x ++ (y ++ z))
thrice a b c d x y z e f g = g ∙ ap (λ t. t ++ z) (f ∙ ap (λ t. t ++ y) e) ∙ append_assoc (a ++ x) y z ∙ append_assoc a x (y ++ z)

pub and_names_is : (l : Line) (names : List (List ℕ)) → and_names l names ≡ names ++ added_names l names
and_names_is l names = thrice names (and_name l.label names) (and_name (global_of l.statement) (and_name l.label names)) (and_names l names)
    (added_name l.label names) (added_name (global_of l.statement) (and_name l.label names))
    (added_name (used_name (use_of l.statement)) (and_name (global_of l.statement) (and_name l.label names))) (and_name_is l.label names)
    (and_name_is (global_of l.statement) (and_name l.label names))
    (and_name_is (used_name (use_of l.statement)) (and_name (global_of l.statement) (and_name l.label names)))

-- ---- fixups

-- The name that is used, if any, is among the names.
abbrev pub KnowsUse : List (List ℕ) → Option Use → Type 0
KnowsUse names None = ⊤
KnowsUse names (Some u) = is_named u.name names ≡ true

-- The names that lines use are among the names.
abbrev pub Knows : List (List ℕ) → List Line → Type 0
Knows names [] = ⊤
Knows names (l ∷ ls) = KnowsUse names (use_of l.statement) × Knows names ls

use_stays : (d : Bool) (n : ℕ) (names more : List (List ℕ)) (u : Option Use) → KnowsUse names u
    → fixups_of d n (names ++ more) u ≡ fixups_of d n names u
use_stays d n names more None h = refl
use_stays d n names more (Some u) h = rw (number_stays u.name names more h) refl

-- fixups stay as names are added behind
pub fixups_stay : (w : Bool) (e : Ends) (names more : List (List ℕ)) (ls : List Line) → Knows names ls
    → fixups_in w e (names ++ more) ls ≡ fixups_in w e names ls
unfolding fixups_in
fixups_stay w e names more [] h = refl
fixups_stay w e names more (l ∷ ls) h = rw (
  use_stays e.in_data (here e) names more (use_of l.statement) h.0,
  fixups_stay w (ends_after e l) names more ls h.1,
) refl

pub named_still : (name : List ℕ) (names more : List (List ℕ)) → is_named name names ≡ true → is_named name (names ++ more) ≡ true
named_still name names more h = rw (list_any-append (bytes_eq name) names more) (or_left (is_named name names) (is_named name more) h)

knows_use_still : (names more : List (List ℕ)) (u : Option Use) → KnowsUse names u → KnowsUse (names ++ more) u
knows_use_still names more None h = tt
knows_use_still names more (Some u) h = named_still u.name names more h

pub knows_still : (names more : List (List ℕ)) (ls : List Line) → Knows names ls → Knows (names ++ more) ls
knows_still names more [] h = tt
knows_still names more (l ∷ ls) h = (knows_use_still names more (use_of l.statement) h.0, knows_still names more ls h.1)

knows_last : (names : List (List ℕ)) (ls : List Line) (l : Line) → Knows names ls → KnowsUse names (use_of l.statement)
    → Knows names (ls ++ l ∷ [])
knows_last names [] l h u = (u, tt)
knows_last names (x ∷ ls) l h u = (h.0, knows_last names ls l h.1 u)

pub used_is_there : (u : Option Use) (names : List (List ℕ)) → KnowsUse (and_name (used_name u) names) u
used_is_there None names = tt
used_is_there (Some u) names = is_there u.name names

-- the fixups of a source with one line more: those before, and that of the line
pub fixups_with : (w : Bool) (e : Ends) (names : List (List ℕ)) (ls : List Line) (l : Line) → Knows names ls
    → fixups_in w e (and_names l names) (ls ++ l ∷ []) ≡ fixups_in w e names ls
    ++ if_there w (ends_of e ls).in_data (fixups_of (ends_of e ls).in_data (here (ends_of e ls)) (and_names l names) (use_of l.statement))
fixups_with w e names ls l h =
    let same : fixups_in w e (and_names l names) ls ≡ fixups_in w e names ls =
    rw (and_names_is l names) (fixups_stay w e names (added_names l names) ls h) in
    fixups_more w e (and_names l names) ls l ∙ ap (λ fs. fs ++ if_there w (ends_of e ls).in_data
    (fixups_of (ends_of e ls).in_data (here (ends_of e ls)) (and_names l names) (use_of l.statement))) same

-- ---- places

-- No name stands twice.
abbrev pub Apart : List (List ℕ) → Type 0
Apart [] = ⊤
Apart (n ∷ ns) = (is_named n ns ≡ false) × Apart ns

pub map_same : {A : Type 0} (f g : List ℕ → A) (p : List ℕ → Bool) (ns : List (List ℕ)) → list_any p ns ≡ false
    → ((m : List ℕ) → p m ≡ false → f m ≡ g m) → map f ns ≡ map g ns
map_same f g p [] h same = refl
map_same f g p (n ∷ ns) h same =
    let q = or_parts (p n) (list_any p ns) h in
    rw (same n q.0, map_same f g p ns q.1 same) refl
