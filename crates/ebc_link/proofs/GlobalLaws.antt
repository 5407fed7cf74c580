-- What symbols define for all, and the places of symbols.
use Rattle.ebc_link.proofs.Common.{◌≡◌, ℕ, suc, ◌+◌, ◌<◌, Bool, not, List, [], ◌∷◌, ◌++◌, length, get_or, map, take, drop}
use Rattle.ebc_link.proofs.Common.{refl, sym, ap, ◌∙◌, arith, append-nil, bytes_eq, slice_get, find, is_some, option_map}
use Rattle.ebc_link.proofs.Common.{map-append, is_named, Symbol, Home, Laid, Definition, definition_in, definitions}
use Rattle.ebc_link.proofs.Common.{definitions_in, definitions_of, is_definition, is_undefined, names_of, symbol_place}
use Rattle.std.specs.Prelude.{filter}
use Rattle.std.proofs.{lemmas.List.take-append-drop, lemmas.List.Concat.flat_map-append, lemmas.List.Elements.filter-append}
use Rattle.ebc_base.specs.{Steps.only_if, Tables.name_number}
use Rattle.ebc_link.specs.Walks.{defined_with}
use Rattle.ebc_link.proofs.LaidLaws.{at_hand, taken}

-- ---- names with a place each

abbrev pub defined_at : List ℕ → ℕ → Definition
defined_at n p = record { name = n; place = p }

abbrev pub place_of_one : Definition → ℕ
place_of_one d = d.place

abbrev pub is_of : List ℕ → Definition → Bool
is_of name d = bytes_eq name d.name

pub names-defined : (ns : List (List ℕ)) (ps : List ℕ) → length ps ≡ length ns → names_of (defined_with ns ps) ≡ ns
names-defined [] ps e = refl
names-defined (n ∷ ns) [] e = absurd (omega (arith, e))
names-defined (n ∷ ns) (p ∷ ps) e = ap (λ ms. n ∷ ms) (names-defined ns ps (omega (arith, e)))

pub defined-push : (ns : List (List ℕ)) (ps : List ℕ) (n : List ℕ) (p : ℕ) → length ps ≡ length ns
    → defined_with (ns ++ n ∷ []) (ps ++ p ∷ []) ≡ defined_with ns ps ++ record { name = n; place = p } ∷ []
defined-push [] [] n p e = refl
defined-push [] (q ∷ ps) n p e = absurd (omega (arith, e))
defined-push (m ∷ ns) [] n p e = absurd (omega (arith, e))
defined-push (m ∷ ns) (q ∷ ps) n p e = ap (λ ds. defined_at m q ∷ ds) (defined-push ns ps n p (omega (arith, e)))

-- the place that stands at the number of a name is that of its definition
pub place-named : (name : List ℕ) (ns : List (List ℕ)) (ps : List ℕ) → length ps ≡ length ns
    → slice_get ps (name_number name ns) ≡ option_map place_of_one (find (is_of name) (defined_with ns ps))
place-named name [] [] e = refl
place-named name [] (p ∷ ps) e = absurd (omega (arith, e))
place-named name (n ∷ ns) [] e = absurd (omega (arith, e))
place-named name (n ∷ ns) (p ∷ ps) e =
    let next : 1 + name_number name ns ≡ suc (name_number name ns) = omega arith in
    rw next (grind (arith, place-named name ns ps (omega (arith, e))))

pub found-named : (name : List ℕ) (ds : List Definition) → is_named name (names_of ds) ≡ is_some (find (is_of name) ds)
found-named name [] = refl
found-named name (d ∷ ds) = grind (arith, found-named name ds)

-- ---- the place of a symbol

pub place-used : (ds : List Definition) (h : Home) (s : Symbol) → s.kind ≡ 0
    → option_map place_of_one (find (is_of s.name) ds) ≡ only_if (not (is_undefined ds s)) (symbol_place ds h s)
place-used ds h s is = rw (is, found-named s.name ds) (grind arith)

-- ---- definitions, one symbol more

definitions-append : (h : Home) (ss ts : List Symbol) → definitions_in h (ss ++ ts) ≡ definitions_in h ss ++ definitions_in h ts
definitions-append h ss ts =
    ap (map (definition_in h)) (filter-append is_definition ss ts)
    ∙ map-append (definition_in h) (filter is_definition ss) (filter is_definition ts)

pub definitions-more : (h : Home) (ss : List Symbol) (i : ℕ) (s : Symbol) → i < length ss → s ≡ get_or ss i s
    → definitions_in h (take (i + 1) ss) ≡ definitions_in h (take i ss) ++ definitions_in h (s ∷ [])
definitions-more h ss i s within is = ap (definitions_in h) (taken ss i s within is) ∙ definitions-append h (take i ss) (s ∷ [])

-- all symbols are those before one, the one and those behind it
pub definitions-split : (h : Home) (ss : List Symbol) (i : ℕ) (s : Symbol) → i < length ss → s ≡ get_or ss i s
    → names_of (definitions_in h ss)
    ≡ names_of (definitions_in h (take i ss)) ++ (names_of (definitions_in h (s ∷ [])) ++ names_of (definitions_in h (drop (i + 1) ss)))
definitions-split h ss i s within is =
    let F : List Symbol → List (List ℕ) = λ ts. names_of (definitions_in h ts) in
    let names : (xs ys : List Symbol) → F (xs ++ ys) ≡ F xs ++ F ys =
    λ xs ys. ap names_of (definitions-append h xs ys)
    ∙ map-append (λ (d : Definition). d.name) (definitions_in h xs) (definitions_in h ys) in
    let parts : ss ≡ take i ss ++ (s ∷ drop (i + 1) ss) =
    sym (take-append-drop i ss) ∙ ap (λ ts. take i ss ++ ts) (at_hand ss i s within is) in
    ap F parts ∙ (names (take i ss) (s ∷ drop (i + 1) ss) ∙ ap (λ ns. F (take i ss) ++ ns) (names (s ∷ []) (drop (i + 1) ss)))

-- and one object more
pub objects-more : (ls : List Laid) (i : ℕ) (l : Laid) → take (i + 1) ls ≡ take i ls ++ l ∷ []
    → definitions (take (i + 1) ls) ≡ definitions (take i ls) ++ definitions_of l
unfolding definitions
objects-more ls i l is = rw (is, flat_map-append definitions_of (take i ls) (l ∷ []), append-nil (definitions_of l)) refl

pub objects-split : (ls rest : List Laid) (i : ℕ) (l : Laid) → drop i ls ≡ l ∷ rest
    → names_of (definitions ls) ≡ names_of (definitions (take i ls)) ++ (names_of (definitions_of l) ++ names_of (definitions rest))
unfolding definitions
objects-split ls rest i l is =
    let name = λ (d : Definition). d.name in
    let parts : ls ≡ take i ls ++ (l ∷ rest) = sym (take-append-drop i ls) ∙ ap (λ ts. take i ls ++ ts) is in
    ap (λ ms. names_of (definitions ms)) parts
    ∙ (ap names_of (flat_map-append definitions_of (take i ls) (l ∷ rest))
    ∙ (map-append name (definitions (take i ls)) (definitions (l ∷ rest))
    ∙ ap (λ ns. names_of (definitions (take i ls)) ++ ns) (map-append name (definitions_of l) (definitions rest))))
