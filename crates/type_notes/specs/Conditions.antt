-- Meaning: the conditions on notes whose texts and names are right, in the order in which they are tried, and the key at
-- which the first that fails is named. docs/NOTES.md lists them.
use Rattle.std.specs.Prelude.{ℕ, ◌+◌, ◌-◌, ◌*◌, List, [], ◌∷◌, map, length, filter, Option, Some, None, Result, Bool, true, false, not}
use Rattle.std.specs.Prelude.{◌&&◌, ◌||◌, nat_lt, nat_le, take, bytes_eq, if◌then◌else◌}
use Rattle.std.specs.List.{find, list_all, position, range_with_len, sum_by}
use Rattle.note_texts.specs.declared.cell.FieldText.{FieldText}
use Rattle.note_texts.specs.declared.slot.ItemText.{ItemText}
use Rattle.note_texts.specs.declared.slot.ItemText.TheVariants.{Slot, Locals}
use Rattle.note_texts.specs.declared.slot.ParamText.{ParamText}
use Rattle.note_texts.specs.declared.want.WantParamText.{WantParamText}
use Rattle.note_types.specs.declared.fault.TomlFault.{TomlFault}
use Rattle.note_types.specs.Limits.{code_limit, stack_limit}
use Rattle.note_types.specs.declared.cell.SlotKind.{SlotKind}
use Rattle.note_types.specs.declared.cell.SlotKind.TheVariants.{N}
use Rattle.note_draft.specs.declared.draft.FunctionDraft.{FunctionDraft}
use Rattle.note_draft.specs.declared.draft.NotesDraft.{NotesDraft}
use Rattle.note_draft.specs.declared.draft.PointDraft.{PointDraft}
use Rattle.note_draft.specs.declared.draft.SignatureDraft.{SignatureDraft}
use Rattle.note_draft.specs.declared.finding.Finding.{Finding}
use Rattle.note_draft.specs.declared.finding.Key.TheVariants as key
use Rattle.note_draft.specs.declared.finding.Refusal.TheVariants as refusals
use Rattle.note_draft.specs.declared.finding.TableList.TheVariants as list
use Rattle.note_draft.specs.declared.tables.NameTables.{NameTables}
use Rattle.ebc_base.specs.Steps.{◌>>=◌}
use Rattle.note_draft.specs.Findings.{at, refused, sooner, ◌otherwise◌}
use Rattle.type_notes.specs.PointLocals.{PointLocals, point_locals, locals_fields}
use Rattle.type_notes.specs.Locals.{is_field}
use Rattle.type_notes.specs.Owners.{first_stray}
use Rattle.note_draft.specs.Repeats.{first_descent}
use Rattle.type_notes.specs.TypeKinds.{has_fields, has_thunk, is_handed_back, is_handed_in, is_kept, is_kept_want, is_passed, is_returned}

-- ---- 1. functions, points and sites ascend by place

abbrev pub disordered : NotesDraft → Option Finding
disordered d =
    at list.Function key.Place (first_descent (map (λ f. f.place) d.function)) otherwise
    at list.Point key.Place (first_descent (map (λ p. p.place) d.point)) otherwise
    at list.Site key.Place (first_descent (map (λ s. s.place) d.site))

-- ---- 2. a point lies in a function

abbrev pub stray : NotesDraft → Option Finding
stray d = at list.Point key.Place (first_stray d.function d.point)

-- ---- 3. a natural slot holds a type that a move of natural size keeps

abbrev pub is_natural_slot : SlotKind → Bool
is_natural_slot N = true
is_natural_slot _ = false

abbrev pub keeps_param : ParamText → Bool
keeps_param p = not (is_natural_slot p.kind) || is_kept p.ty

abbrev pub keeps_want : WantParamText → Bool
keeps_want p = not (is_natural_slot p.kind) || is_kept_want p.want

abbrev pub keeps_params : FunctionDraft → Bool
keeps_params f = list_all keeps_param f.params

abbrev pub keeps_wants : SignatureDraft → Bool
keeps_wants s = list_all keeps_want s.params

abbrev pub unkept : NotesDraft → Option Finding
unkept d =
    at list.Function key.Params (position (λ f. not (keeps_params f)) d.function) otherwise
    at list.Signature key.Params (position (λ s. not (keeps_wants s)) d.signature)

-- ---- 4. what the firmware hands to a function that it enters, and what it gets back

-- whether the firmware enters a function: it is the entry function, or marked `enter`
abbrev pub is_entered : List ℕ → FunctionDraft → Bool
is_entered entry f = f.enter || bytes_eq f.name entry

abbrev pub takes_handed_in : FunctionDraft → Bool
takes_handed_in f = list_all (λ p. is_handed_in p.ty) f.params

abbrev pub takes_unhanded : List ℕ → FunctionDraft → Bool
takes_unhanded entry f = is_entered entry f && not (takes_handed_in f)

abbrev pub gives_unhanded : List ℕ → FunctionDraft → Bool
gives_unhanded entry f = is_entered entry f && not (is_handed_back f.result)

abbrev pub unhanded : NotesDraft → Option Finding
unhanded d =
    sooner (at list.Function key.Params (position (takes_unhanded d.entry) d.function))
    (at list.Function key.Result (position (gives_unhanded d.entry) d.function))

-- ---- 5. no parameter says anything of the caller's frame; 6. no result says anything of a frame or thunk cell

abbrev pub passes_params : FunctionDraft → Bool
passes_params f = list_all (λ p. is_passed p.ty) f.params

abbrev pub unpassed : NotesDraft → Option Finding
unpassed d = at list.Function key.Params (position (λ f. not (passes_params f)) d.function)

abbrev pub unreturned : NotesDraft → Option Finding
unreturned d = at list.Function key.Result (position (λ f. not (is_returned f.result)) d.function)

-- ---- 7. what a point names are fields of its function's locals

abbrev pub has_item_fields : List FieldText → ItemText → Bool
has_item_fields fields (Slot kind ty) = has_fields fields ty
has_item_fields fields Locals = true

abbrev pub regs_are_local : PointLocals → PointDraft → Bool
regs_are_local locals p = list_all (λ r. has_fields locals.fields r.ty) p.regs

abbrev pub stack_is_local : PointLocals → PointDraft → Bool
stack_is_local locals p = list_all (has_item_fields locals.fields) p.stack

abbrev pub written_is_local : PointLocals → PointDraft → Bool
written_is_local locals p = list_all (is_field locals.fields) p.written

-- the first point that fails, by what points may name
unfoldable pub first_point : NameTables → NotesDraft → (PointLocals → PointDraft → Bool) → Option ℕ
first_point t d passes = position (λ p. not (passes (point_locals t d p.place) p)) d.point

abbrev pub unfielded : NameTables → NotesDraft → Option Finding
unfielded t d =
    sooner (at list.Point key.Regs (first_point t d regs_are_local))
    (sooner (at list.Point key.Stack (first_point t d stack_is_local))
    (at list.Point key.Written (first_point t d written_is_local)))

-- ---- 8. a thunk that is named is one of the notes'

abbrev pub has_item_thunk : ℕ → ItemText → Bool
has_item_thunk thunks (Slot kind ty) = has_thunk thunks ty
has_item_thunk thunks Locals = true

abbrev pub params_have_thunks : ℕ → FunctionDraft → Bool
params_have_thunks thunks f = list_all (λ p. has_thunk thunks p.ty) f.params

abbrev pub regs_have_thunks : ℕ → PointDraft → Bool
regs_have_thunks thunks p = list_all (λ r. has_thunk thunks r.ty) p.regs

abbrev pub stack_has_thunks : ℕ → PointDraft → Bool
stack_has_thunks thunks p = list_all (has_item_thunk thunks) p.stack

unfoldable pub thunkless_points : ℕ → List PointDraft → Option Finding
thunkless_points thunks points =
    sooner (at list.Point key.Regs (position (λ p. not (regs_have_thunks thunks p)) points))
    (at list.Point key.Stack (position (λ p. not (stack_has_thunks thunks p)) points))

abbrev pub thunkless : NotesDraft → Option Finding
thunkless d =
    at list.Function key.Params (position (λ f. not (params_have_thunks (length d.thunk) f)) d.function) otherwise
    thunkless_points (length d.thunk) d.point

-- ---- 9. a stack holds the locals at most once, and only where the function has them

abbrev pub is_locals : ItemText → Bool
is_locals Locals = true
is_locals (Slot kind ty) = false

-- how often a stack holds the locals
abbrev pub locals_count : PointDraft → ℕ
locals_count p = length (filter is_locals p.stack)

abbrev pub holds_locals : PointLocals → PointDraft → Bool
holds_locals locals p = nat_le (locals_count p) (if locals.has_locals then 1 else 0)

abbrev pub mislocated : NameTables → NotesDraft → Option Finding
mislocated t d = at list.Point key.Stack (first_point t d holds_locals)

-- ---- 10. the locals have at most 64 fields

abbrev pub has_many_locals : NameTables → NotesDraft → FunctionDraft → Bool
has_many_locals t d f = nat_lt 64 (length (locals_fields t d f.locals))

abbrev pub overfull : NameTables → NotesDraft → Option Finding
overfull t d = at list.Function key.Locals (position (has_many_locals t d) d.function)

-- ---- 11. the functions' code has at most 256 KiB, and the stack at most 1 MiB where a pointer has 8 bytes

-- how many bytes of code a function has
abbrev pub code_size : FunctionDraft → ℕ
code_size f = f.end - f.place

-- how many bytes of code these functions have
abbrev pub code_of : List FunctionDraft → ℕ
code_of functions = sum_by code_size functions

-- the least i for which the code of the first i + 1 functions passes the limit
unfoldable pub first_past : ℕ → List FunctionDraft → Option ℕ
first_past limit functions = find (λ i. nat_lt limit (code_of (take (i + 1) functions))) (range_with_len 0 (length functions))

-- the bytes of stack that a function that the firmware enters takes where a pointer has 8 bytes: its parameters, its
-- return cell and its need
abbrev pub frame_size : FunctionDraft → ℕ
frame_size f = 8 * length f.params + 16 + (8 * f.need.n + f.need.c)

-- whether nine such frames pass the limit
abbrev pub overflows : List ℕ → FunctionDraft → Bool
overflows entry f = is_entered entry f && nat_lt stack_limit (9 * frame_size f)

abbrev pub too_large : NotesDraft → Option Finding
too_large d =
    at list.Function key.End (first_past (code_limit d.version) d.function) otherwise
    at list.Function key.Need (position (overflows d.entry) d.function)

-- the key at which the first of the conditions from the third on that isn't met is named
unfoldable pub unmet : NameTables → NotesDraft → Option Finding
unmet t d =
    unkept d otherwise
    unhanded d otherwise
    unpassed d otherwise
    unreturned d otherwise
    unfielded t d otherwise
    thunkless d otherwise
    mislocated t d otherwise
    overfull t d otherwise
    too_large d

-- nothing where all conditions are met, and otherwise the fault at the first that isn't
unfoldable pub conditions : NameTables → NotesDraft → Result (Unit {0}) TomlFault
conditions t d = do
  _ ← refused refusals.Range (disordered d)
  _ ← refused refusals.Range (stray d)
  refused refusals.Range (unmet t d)
