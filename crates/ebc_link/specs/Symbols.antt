-- Meaning: the places of symbols: those that an object defines, and those that another makes global. docs/LINKING.md, "Symbols".
use Rattle.std.specs.Prelude.{ℕ, Bool, not, ◌&&◌, List, [], ◌∷◌, ◌++◌, map, filter, Option, Some, None, nat_eq, bytes_eq}
use Rattle.std.specs.Prelude.{if◌then◌else◌}
use Rattle.std.specs.List.{find, flat_map}
use Rattle.std.specs.Option.{option_map, option_map_or, option_or}
use Rattle.ebc_base.specs.Tables.{is_named}
use Rattle.ebc_object.specs.declared.object.Symbol.{Symbol}
use Rattle.ebc_link.specs.declared.layout.Home.{Home}
use Rattle.ebc_link.specs.Layout.{Laid, place_in}

-- A name that all objects see, and its place.
pub record Definition : Type 0 where
  pub name : List ℕ
  pub place : ℕ

-- whether a symbol defines a name that all objects see
abbrev pub is_definition : Symbol → Bool
is_definition s = nat_eq s.global 1 && not (nat_eq s.kind 0)

abbrev pub definition_in : Home → Symbol → Definition
definition_in h s = record { name = s.name; place = place_in h s.kind s.offset }

-- what symbols define for all, by where their object stands
abbrev pub definitions_in : Home → List Symbol → List Definition
definitions_in h symbols = map (definition_in h) (filter is_definition symbols)

abbrev pub definitions_of : Laid → List Definition
definitions_of l = definitions_in l.home l.object.symbols

-- what objects define for all, in the order of the objects and of each object's symbols
unfoldable pub definitions : List Laid → List Definition
definitions ls = flat_map definitions_of ls

-- the names of definitions
abbrev pub names_of : List Definition → List (List ℕ)
names_of ds = map (λ (d : Definition). d.name) ds

-- the first of some names that stands there again, behind others
unfoldable pub first_again : List (List ℕ) → List (List ℕ) → Option (List ℕ)
first_again before [] = None
first_again before (n ∷ ns) = if is_named n before then Some n else first_again (before ++ n ∷ []) ns

-- what the first object has that has something
unfoldable pub first_in : {A : Type 0} → (Laid → Option A) → List Laid → Option A
first_in found [] = None
first_in found (l ∷ ls) = option_or (found l) (first_in found ls)

-- whether neither its object nor another defines a symbol's name
abbrev pub is_undefined : List Definition → Symbol → Bool
is_undefined ds s = nat_eq s.kind 0 && not (is_named s.name (names_of ds))

-- the name of the first symbol of an object that is undefined
abbrev pub undefined_in : List Definition → Laid → Option (List ℕ)
undefined_in ds l = option_map (λ (s : Symbol). s.name) (find (is_undefined ds) l.object.symbols)

-- the place of the definition of a name
abbrev pub defined_place : List Definition → List ℕ → ℕ
defined_place ds name = option_map_or (λ (d : Definition). d.place) (find (λ (d : Definition). bytes_eq name d.name) ds) 0

-- the place of a symbol, for the object that has it
abbrev pub symbol_place : List Definition → Home → Symbol → ℕ
symbol_place ds h s = if nat_eq s.kind 0 then defined_place ds s.name else place_in h s.kind s.offset

-- the places of an object's symbols, by their numbers
unfoldable pub places_of : List Definition → Laid → List ℕ
places_of ds l = map (symbol_place ds l.home) l.object.symbols
