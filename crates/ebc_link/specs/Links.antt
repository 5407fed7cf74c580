-- Meaning: what objects are linked to: an image, or the first fault. docs/LINKING.md, "Faults".
use Rattle.std.specs.Prelude.{◌≡◌, ℕ, ◌%◌, Bool, ◌&&◌, List, [], length, Option, Some, None, Result, Ok, Err, nat_eq, nat_le, nat_lt}
use Rattle.std.specs.Prelude.{bytes_eq}
use Rattle.std.specs.List.{find}
use Rattle.std.specs.Option.{option_map}
use Rattle.ebc_base.specs.Steps.{◌>>=◌, passes, or_else}
use Rattle.ebc_object.specs.declared.object.Object.{Object}
use Rattle.ebc_object.specs.declared.object.Symbol.{Symbol}
use Rattle.pe_image.specs.Conditions.{most}
use Rattle.pe_image.specs.Files.{file_sections, next_place}
use Rattle.pe_image.specs.Linked.{linked_sections}
use Rattle.pe_image.specs.declared.image.Image.{Image}
use Rattle.ebc_link.specs.declared.plan.LinkPlan.{LinkPlan}
use Rattle.ebc_link.specs.declared.end.LinkEnd.{LinkEnd}
use Rattle.ebc_link.specs.declared.end.LinkEnd.TheVariants as ends
use Rattle.ebc_link.specs.Layout.{Laid, code_start, contents_start, place_in, laid_objects, text_from, contents_from}
use Rattle.ebc_link.specs.Symbols.{Definition, definitions, first_again, first_in, is_definition, names_of, undefined_in}
use Rattle.ebc_link.specs.Fixups.{code_of, contents_of, far_in, relocs_of}

-- Why objects aren't linked.
pub data Fault : Type 0 where
  Twice : List ℕ → Fault
  Undefined : List ℕ → Fault
  Far : ℕ → Fault
  Entry : Fault
  Size : Fault

-- nothing where there is nothing of a kind, and otherwise the fault
abbrev pub unless_some : {A : Type 0} → (A → Fault) → Option A → Result (Unit {0}) Fault
unless_some fault None = Ok tt
unless_some fault (Some x) = Err (fault x)

-- ---- the entry

-- whether a symbol is a definition of a name in the code, at an even offset below the length of its object's code
abbrev pub is_entry : List ℕ → ℕ → Symbol → Bool
is_entry name size s =
    is_definition s && (bytes_eq s.name name && (nat_eq s.kind 1 && (nat_eq (s.offset % 2) 0 && nat_lt s.offset size)))

abbrev pub entry_in : List ℕ → Laid → Option ℕ
entry_in name l = option_map (λ (s : Symbol). place_in l.home 1 s.offset) (find (is_entry name (length l.object.code)) l.object.symbols)

-- ---- the image

-- an image of the size at which its sections end
abbrev pub sized : Image → Image
sized image = record image { size = next_place (file_sections image) 0x1000 }

-- the image of objects by what they define
unfoldable pub linked_image : LinkPlan → List Definition → List Laid → ℕ → ℕ → Image
linked_image plan ds ls contents entry =
    sized (record {
      base = plan.base;
      entry = entry;
      size = 0;
      subsystem = plan.subsystem;
      sections =
          linked_sections (text_from (code_of plan.base ds) code_start ls) (contents_from (contents_of plan.base ds) contents ls);
      relocs = relocs_of ls;
    })

-- the image of objects that stand somewhere, with data from a place on, or the first fault
unfoldable pub links_laid : LinkPlan → List Laid → ℕ → Result Image Fault
links_laid plan ls contents = do
  _ ← unless_some Twice (first_again [] (names_of (definitions ls)))
  _ ← unless_some Undefined (first_in (undefined_in (definitions ls)) ls)
  _ ← unless_some Far (first_in (far_in (definitions ls)) ls)
  entry ← or_else Entry (first_in (entry_in plan.entry) ls)
  _ ← passes (nat_le (linked_image plan (definitions ls) ls contents entry).size most) Size
  Ok (linked_image plan (definitions ls) ls contents entry)

-- the image that objects are linked to, or the first fault
unfoldable pub links : List Object → LinkPlan → Result Image Fault
links objects plan = links_laid plan (laid_objects objects) (contents_start objects)

-- ---- what a function tells

-- what a refusal says of a reading: nothing where memory ran out
abbrev pub Fails : {X : Type 0} → LinkEnd → Result X Fault → Type 0
Fails ends.NoMemory reading = Unit {0}
Fails (ends.Undefined name) reading = reading ≡ Err (Undefined name)
Fails (ends.Twice name) reading = reading ≡ Err (Twice name)
Fails (ends.Far place) reading = reading ≡ Err (Far place)
Fails ends.Entry reading = reading ≡ Err Entry
Fails ends.Size reading = reading ≡ Err Size

-- what a function returned is what a reading gives, unless memory ran out
abbrev pub Gives : {X : Type 0} → Result X LinkEnd → Result X Fault → Type 0
Gives (Ok x) reading = reading ≡ Ok x
Gives (Err e) reading = Fails e reading
