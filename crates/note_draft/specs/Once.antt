-- Meaning: what notes name or place twice, and the names that they give where nothing is. docs/NOTES.md says what stands
-- once.
use Rattle.std.specs.Prelude.{ℕ, List, [], map, Bool, Option, Some, None, Result, Ok, bytes_eq, nat_eq}
use Rattle.std.specs.List.{position}
use Rattle.note_types.specs.declared.fault.TomlFault.{TomlFault}
use Rattle.ebc_base.specs.Steps.{◌>>=◌}
use Rattle.note_texts.specs.declared.cell.FieldText.{FieldText}
use Rattle.note_texts.specs.declared.slot.RegisterText.{RegisterText}
use Rattle.note_draft.specs.declared.draft.FunctionDraft.{FunctionDraft}
use Rattle.note_draft.specs.declared.draft.NotesDraft.{NotesDraft}
use Rattle.note_draft.specs.declared.draft.PointDraft.{PointDraft}
use Rattle.note_draft.specs.declared.draft.ShapeDraft.{ShapeDraft}
use Rattle.note_draft.specs.declared.draft.SignatureDraft.{SignatureDraft}
use Rattle.note_draft.specs.declared.finding.Finding.{Finding}
use Rattle.note_draft.specs.declared.finding.Key.TheVariants as key
use Rattle.note_draft.specs.declared.finding.Refusal.TheVariants.{Twice}
use Rattle.note_draft.specs.declared.finding.TableList.{TableList}
use Rattle.note_draft.specs.declared.finding.TableList.TheVariants as list
use Rattle.note_draft.specs.declared.once.CallNames.{CallNames}
use Rattle.note_draft.specs.declared.repeats.Numbering.{Numbering}
use Rattle.note_draft.specs.declared.repeats.Numbering.TheVariants.{Table, Repeat}
use Rattle.note_draft.specs.declared.tables.NameTables.{NameTables}
use Rattle.note_draft.specs.Findings.{at, refused, sooner}
use Rattle.note_draft.specs.Names.{distinct}
use Rattle.note_draft.specs.Repeats.{first_repeat, has_repeat}

-- ---- names that were numbered

-- the number of the table whose name repeats, if one does
abbrev pub repeat_in : Numbering → Option ℕ
repeat_in (Table names) = None
repeat_in (Repeat i) = Some i

-- the names where none repeats
abbrev pub names_in : Numbering → List (List ℕ)
names_in (Table names) = names
names_in (Repeat i) = []

-- the names of a list, unless one repeats or something else in the list does
abbrev pub numbered : TableList → Numbering → Option Finding → Result (List (List ℕ)) TomlFault
numbered list numbering other =
    refused Twice (sooner (at list key.Name (repeat_in numbering)) other) >>= λ _. Ok (names_in numbering)

-- ---- the first repeat in each list

-- the place that repeats, among these
abbrev pub repeated_place_in : TableList → List ℕ → Option Finding
repeated_place_in list places = at list key.Place (first_repeat nat_eq places)

-- whether two fields have one name
abbrev pub same_name : FieldText → FieldText → Bool
same_name f g = bytes_eq f.name g.name

-- whether a point gives one register in both
abbrev pub same_register : RegisterText → RegisterText → Bool
same_register r q = nat_eq r.register q.register

-- whether two fields of a shape have one name
abbrev pub repeats_field : ShapeDraft → Bool
repeats_field s = has_repeat same_name s.fields

-- whether a point gives a register twice
abbrev pub repeats_register : PointDraft → Bool
repeats_register p = has_repeat same_register p.regs

unfoldable pub repeated_in_shapes : List ShapeDraft → Option Finding
repeated_in_shapes shapes =
    sooner (at list.Shape key.Name (first_repeat bytes_eq (map (λ s. s.name) shapes)))
    (at list.Shape key.Fields (position repeats_field shapes))

unfoldable pub repeated_in_functions : List FunctionDraft → Option Finding
repeated_in_functions functions =
    sooner (at list.Function key.Name (first_repeat bytes_eq (map (λ f. f.name) functions)))
    (repeated_place_in list.Function (map (λ f. f.place) functions))

unfoldable pub repeated_in_points : List PointDraft → Option Finding
repeated_in_points points =
    sooner (repeated_place_in list.Point (map (λ p. p.place) points))
    (at list.Point key.Regs (position repeats_register points))

unfoldable pub repeated_in_signatures : List SignatureDraft → Option Finding
repeated_in_signatures signatures = at list.Signature key.Name (first_repeat bytes_eq (map (λ s. s.name) signatures))

-- ---- the names in each list, unless something stands there twice

abbrev pub shape_names : List ShapeDraft → Result (List (List ℕ)) TomlFault
shape_names shapes = refused Twice (repeated_in_shapes shapes) >>= λ _. Ok (map (λ s. s.name) shapes)

abbrev pub function_names : List FunctionDraft → Result (List (List ℕ)) TomlFault
function_names functions = refused Twice (repeated_in_functions functions) >>= λ _. Ok (map (λ f. f.name) functions)

abbrev pub signature_names : List SignatureDraft → Result (List (List ℕ)) TomlFault
signature_names signatures = refused Twice (repeated_in_signatures signatures) >>= λ _. Ok (map (λ s. s.name) signatures)

-- the names of the shapes, unless one of them, a field of a shape or the place of a static object or a thunk cell stands
-- there twice
unfoldable pub names_of_data : NotesDraft → Result (List (List ℕ)) TomlFault
names_of_data d = do
  shapes ← shape_names d.shape
  _ ← refused Twice (repeated_place_in list.Static (map (λ o. o.place) d.statics))
  _ ← refused Twice (repeated_place_in list.Thunk (map (λ o. o.place) d.thunk))
  Ok shapes

-- the names of the functions, unless one of them, the place of a function or a point or a register of a point stands there
-- twice
unfoldable pub names_of_code : NotesDraft → Result (List (List ℕ)) TomlFault
names_of_code d = do
  functions ← function_names d.function
  _ ← refused Twice (repeated_in_points d.point)
  Ok functions

-- the methods that signatures name, in the order in which they first do
abbrev pub method_names : List SignatureDraft → List (List ℕ)
method_names signatures = distinct (map (λ s. s.method) signatures)

-- the names of the signatures and their methods, unless a name of a signature or the place of a site stands there twice
unfoldable pub names_of_calls : NotesDraft → Result CallNames TomlFault
names_of_calls d = do
  signatures ← signature_names d.signature
  _ ← refused Twice (repeated_place_in list.Site (map (λ s. s.place) d.site))
  Ok (record { signature = signatures; method = method_names d.signature })

-- the names that notes give, unless a name, a place or a register stands there twice
unfoldable pub once : NotesDraft → Result NameTables TomlFault
once d = do
  shapes ← names_of_data d
  functions ← names_of_code d
  calls ← names_of_calls d
  Ok (record { shape = shapes; function = functions; signature = calls.signature; method = calls.method })
