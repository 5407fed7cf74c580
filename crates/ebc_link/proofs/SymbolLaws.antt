-- Each symbol stands at the place that fixups take for it.
use Rattle.ebc_link.proofs.Common.{zero, suc, arith, ◌≡◌, ℕ, ◌<◌, Bool, true, false, cond, List, [], ◌∷◌, length, get_or, Option, Some}
use Rattle.ebc_link.proofs.Common.{None, refl, sym, ap, ◌∙◌, nat_eq, Contains, find, is_some, option_map, option_map_or, eqb-false}
use Rattle.ebc_link.proofs.Common.{eqb-true, get_or-map, is_named, Fixup, Symbol, Laid, place_in, Definition, definition_in, definitions}
use Rattle.ebc_link.proofs.Common.{definitions_of, first_in, is_definition, is_undefined, names_of, places_of, symbol_place, undefined_in}
use Rattle.ebc_link.proofs.Common.{target_of, StandsAt, other, own}
use Rattle.std.specs.Prelude.{filter}
use Rattle.ebc_base.proofs.TableLaws.{same_name}
use Rattle.ebc_link.specs.Symbols.{defined_place}
use Rattle.ebc_link.proofs.{FoundLaws.find_some, FoundLaws.first_nowhere, GlobalLaws.found-named, GlobalLaws.is_of, ThereLaws.nowhere}
use Rattle.ebc_link.proofs.{ThereLaws.was_joined, ThereLaws.was_kept, ThereLaws.was_mapped}

-- what a search doesn't find isn't there
pub find_nowhere : {X : Type 0} → (p : X → Bool) (xs : List X) (x : X) → find p xs ≡ None → Contains xs x → p x ≡ false
find_nowhere p [] x e there = nowhere _ x there
find_nowhere p (y ∷ ys) x e (zero, within, is) = grind arith
find_nowhere p (y ∷ ys) x e (suc k, within, is) = find_nowhere p ys x (grind arith) (k, omega (arith, within), is)

pub none_mapped : {X Y : Type 0} → (f : X → Y) (o : Option X) → option_map f o ≡ None → o ≡ None
none_mapped f None e = refl
none_mapped f (Some x) e = absurd cc

-- a definition of a name is found, and gives its place
found_place : (ls : List Laid) (name : List ℕ) (o : Option Definition) → find (is_of name) (definitions ls) ≡ o → is_some o ≡ true
    → (m : Laid) × (t : Symbol) × Contains ls m × Contains m.object.symbols t × (is_definition t ≡ true) × (t.name ≡ name)
    × (option_map_or (λ (d : Definition). d.place) o 0 ≡ place_in m.home t.kind t.offset)
unfolding definitions
found_place ls name None e some = absurd cc
found_place ls name (Some d) e some =
    let there = find_some (is_of name) (definitions ls) d e in
    let object = was_joined definitions_of ls d there.0 in
    let m : Laid = object.0 in
    let symbol = was_mapped (definition_in m.home) (filter is_definition m.object.symbols) d object.2 in
    let t : Symbol = symbol.0 in
    let defines = was_kept is_definition m.object.symbols t symbol.1 in (
      m,
      t,
      object.1,
      defines.0,
      defines.1,
      ap (λ (e : Definition). e.name) symbol.2 ∙ sym (same_name name d.name there.1),
      sym (ap (λ (e : Definition). e.place) symbol.2),
    )

-- the place of a symbol is its own, or that of the definition of its name
pub stands_at : (ls : List Laid) (l : Laid) (s : Symbol) → Contains ls l → Contains l.object.symbols s
    → first_in (undefined_in (definitions ls)) ls ≡ None → StandsAt ls l s (symbol_place (definitions ls) l.home s)
stands_at ls l s there has none = by_kind (nat_eq s.kind 0) refl
  where
    by_kind : (b : Bool) → nat_eq s.kind 0 ≡ b
        → StandsAt ls l s (cond b (defined_place (definitions ls) s.name) (place_in l.home s.kind s.offset))
    by_kind false e = own (eqb-false s.kind 0 e) refl
    by_kind true e =
        let here : undefined_in (definitions ls) l ≡ None = first_nowhere (undefined_in (definitions ls)) ls l none there in
        let no_other : is_undefined (definitions ls) s ≡ false =
        find_nowhere (is_undefined (definitions ls)) l.object.symbols s
        (none_mapped (λ (t : Symbol). t.name) (find (is_undefined (definitions ls)) l.object.symbols) here) has in
        let named : is_named s.name (names_of (definitions ls)) ≡ true =
        grind arith in
        let found = found_place ls s.name (find (is_of s.name) (definitions ls)) refl (sym (found-named s.name (definitions ls)) ∙ named) in
        other (eqb-true s.kind 0 e) found.0 found.1 found.2 found.3 found.4 found.5 found.6

-- the symbol of a fixup, and its place
pub target_is : (ds : List Definition) (l : Laid) (f : Fixup) (s : Symbol) → f.symbol < length l.object.symbols
    → s ≡ get_or l.object.symbols f.symbol s → target_of (places_of ds l) f ≡ symbol_place ds l.home s
unfolding places_of
target_is ds l f s within is =
    get_or-map (symbol_place ds l.home) l.object.symbols f.symbol s 0 within ∙ ap (symbol_place ds l.home) (sym is)
