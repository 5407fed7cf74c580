-- For proofs: the labels of sources, and the places of their symbols in a linked image. docs/LABELS.md, "A label".
use Rattle.std.specs.Prelude.{ℕ, ◌+◌, Bool, not, List, [], ◌∷◌, ◌++◌, length, map, filter, nat_eq}
use Rattle.ebc_object.specs.declared.object.Object.{Object}
use Rattle.ebc_object.specs.declared.object.Symbol.{Symbol}
use Rattle.ebc_link.specs.declared.layout.Home.{Home}
use Rattle.ebc_link.specs.Layout.{Laid, laid_objects, place_in}
use Rattle.label_places.specs.declared.label.Label.{Label}
use Rattle.label_places.specs.declared.label.ObjectSpan.{ObjectSpan}

-- whether a symbol is a label: its object defines it
abbrev pub is_label : Symbol → Bool
is_label s = not (nat_eq s.kind 0)

-- the label that a symbol of an object is: the object's number, its section, and where the linker lays it
abbrev pub label_in : ℕ → Home → Symbol → Label
label_in object h s =
    record { name = s.name; position = record { object = object; section = s.kind; place = place_in h s.kind s.offset } }

-- the labels among the symbols of an object
abbrev pub labels_in : ℕ → Home → List Symbol → List Label
labels_in object h symbols = map (label_in object h) (filter is_label symbols)

-- the labels of objects, of which the first has this number, in the order of the objects and of each object's symbols
unfoldable pub labels_from : ℕ → List Laid → List Label
labels_from object [] = []
labels_from object (l ∷ ls) = labels_in object l.home l.object.symbols ++ labels_from (object + 1) ls

unfoldable pub labels_of : List Object → List Label
labels_of objects = labels_from 0 (laid_objects objects)

-- where the sections of an object stand
abbrev pub span_of : Laid → ObjectSpan
span_of l =
    record {
      code = l.home.code;
      code_end = l.home.code + length l.object.code;
      contents_end = l.home.contents + length l.object.contents;
    }

unfoldable pub spans_of : List Object → List ObjectSpan
spans_of objects = map span_of (laid_objects objects)
