-- For proofs: what linking keeps while it goes over objects, and what its parts ask for. No caller sees it.
use Rattle.std.specs.Prelude.{◌≡◌, ℕ, ◌+◌, ◌^◌, ◌<◌, ◌≤◌, List, [], ◌∷◌, length, map, All, Result, Ok, Err}
use Rattle.ebc_base.specs.Steps.{◌>>=◌}
use Rattle.ebc_object.specs.Objects.{IsObject, most, width}
use Rattle.ebc_object.specs.declared.object.Fixup.{Fixup}
use Rattle.ebc_object.specs.declared.object.Object.{Object}
use Rattle.ebc_object.specs.declared.object.Symbol.{Symbol}
use Rattle.ebc_link.specs.declared.globals.Globals.{Globals}
use Rattle.ebc_link.specs.declared.layout.Home.{Home}
use Rattle.ebc_link.specs.declared.piece.Piece.{Piece}
use Rattle.ebc_link.specs.declared.resolved.Resolved.{Resolved}
use Rattle.ebc_link.specs.declared.end.LinkEnd.{LinkEnd}
use Rattle.ebc_link.specs.declared.layout.Bounds.{Bounds}
use Rattle.ebc_link.specs.Layout.{Laid, code_end, code_start, contents_end, contents_start, homes_of, laid_with, start_of}
use Rattle.ebc_link.specs.Symbols.{Definition, definitions, first_again, first_in, names_of, places_of, undefined_in}
use Rattle.ebc_link.specs.Links.{Fails, Fault, Twice, Undefined, unless_some}

-- Code and data of an object begin at 2^30 or below.
pub record IsLow (h : Home) : Type 0 where
  pub code : h.code ≤ 2 ^ 30
  pub contents : h.contents ≤ 2 ^ 30

-- A symbol's offset is in a section of at most 1 MiB.
abbrev pub HasSmallOffset : Symbol → Type 0
HasSmallOffset s = s.offset ≤ most

abbrev pub HasLowOffset : Fixup → Type 0
HasLowOffset f = f.offset ≤ most

-- A fixup is by one of so many symbols, and its offset is in a section of at most 1 MiB.
abbrev pub IsFixupOf : ℕ → Fixup → Type 0
IsFixupOf symbols f = (f.symbol < symbols) × (f.offset ≤ most)

-- The bytes of a fixup are among the n of its section, if it is this one.
abbrev pub IsWithin : ℕ → ℕ → Fixup → Type 0
IsWithin section n f = f.section ≡ section → f.offset + width f.kind ≤ n

-- The code of objects ends here, and their data begin and end here.
pub record IsBounds (os : List Object) (b : Bounds) : Type 0 where
  pub code_ends : b.code_end ≡ code_end code_start os
  pub contents_begin : b.contents_start ≡ contents_start os
  pub contents_end_there : b.contents_end ≡ contents_end (contents_start os) os
  pub code_small : b.code_end ≤ 2 ^ 29
  pub start_small : b.contents_start ≤ 2 ^ 29 + 0x1000
  pub end_small : b.contents_end ≤ 2 ^ 30

-- ---- definitions

-- names with a place each
abbrev pub defined_with : List (List ℕ) → List ℕ → List Definition
defined_with (n ∷ ns) (p ∷ ps) = record { name = n; place = p } ∷ defined_with ns ps
defined_with ns ps = []

abbrev pub defined : Globals → List Definition
defined g = defined_with g.names g.places.items

-- Each name has a place.
abbrev pub IsPaired : Globals → Type 0
IsPaired g = length g.places.items ≡ length g.names

-- ---- objects and what is known of them

abbrev pub laid_of : Piece → Laid
laid_of p = record { object = p.object.now; home = p.home }

-- An object, with a place for each symbol.
pub record IsPiece (p : Piece) : Type 0 where
  pub object : IsObject p.object.now
  pub low : IsLow p.home
  pub places : length p.places.now ≡ length p.object.now.symbols

abbrev pub laid_in : Resolved → List Laid
laid_in r = laid_with r.objects.now r.homes.items

abbrev pub defined_in : Resolved → List Definition
defined_in r = defined r.globals

-- Objects, each with a home and with the places of its symbols.
pub record IsResolved (r : Resolved) : Type 0 where
  pub objects : All IsObject r.objects.now
  pub few : length r.objects.now ≤ 256
  pub homes : length r.homes.items ≡ length r.objects.now
  pub count : length r.places.items ≡ length r.objects.now
  pub low : All IsLow r.homes.items
  pub stands : r.homes.items ≡ homes_of r.objects.now
  pub places : r.places.items ≡ map (places_of (defined_in r)) (laid_in r)

-- The bytes of objects begin behind an end, each behind those before.
abbrev pub ArePacked : ℕ → (Laid → List ℕ) → ℕ → List Laid → Type 0
ArePacked section bytes end [] = Unit {0}
ArePacked section bytes end (l ∷ ls) =
    (end ≤ start_of l.home section) × ArePacked section bytes (start_of l.home section + length (bytes l)) ls

-- ---- what a function tells

-- whether a name is defined again, and then whether one is undefined
abbrev pub resolution : List Laid → Result (Unit {0}) Fault
resolution ls = do
  _ ← unless_some Twice (first_again [] (names_of (definitions ls)))
  unless_some Undefined (first_in (undefined_in (definitions ls)) ls)

-- a function goes on where nothing fails, and ends by the fault otherwise
abbrev pub Checks : {X : Type 0} → Result X LinkEnd → Result (Unit {0}) Fault → Type 0
Checks (Ok x) reading = reading ≡ Ok tt
Checks (Err e) reading = Fails e reading
