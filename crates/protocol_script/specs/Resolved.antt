-- Meaning: Drafts with the numbers of what they name, or the first name that isn't there, by the path of its key.
-- docs/SCRIPTS.md, "What the reader refuses".
use Rattle.std.specs.Prelude.{ℕ, List, ◌++◌, map, codes, Option, Some, None, Result, Ok, option_map, option_and_then, slice_get}
use Rattle.std.specs.List.{flat_map}
use Rattle.note_types.specs.declared.fault.TomlFault.{TomlFault}
use Rattle.note_types.specs.declared.fault.TomlFault.TheVariants.{Name}
use Rattle.note_types.specs.declared.notes.Notes.{Notes}
use Rattle.note_types.specs.declared.notes.Static.{Static}
use Rattle.note_types.specs.declared.script.Callback.{Callback}
use Rattle.note_types.specs.declared.script.CellValue.{CellValue}
use Rattle.note_types.specs.declared.script.Notify.{Notify}
use Rattle.note_types.specs.declared.script.OutValue.{OutValue}
use Rattle.note_types.specs.declared.script.Script.{Script}
use Rattle.note_types.specs.declared.script.ScriptCall.{ScriptCall}
use Rattle.note_types.specs.declared.script.ScriptObject.{ScriptObject}
use Rattle.note_types.specs.declared.script.WriteValue.{WriteValue}
use Rattle.note_types.specs.declared.seen.Seen.{Seen}
use Rattle.note_types.specs.declared.shape.Field.{Field}
use Rattle.note_types.specs.declared.value.Value.{Value}
use Rattle.note_types.specs.declared.value.Value.TheVariants as value
use Rattle.ebc_base.specs.Steps.{◌>>=◌, or_else}
use Rattle.note_texts.specs.Keys.{row_prefix}
use Rattle.host_model.specs.Objects.{shape_of}
use Rattle.host_model.specs.ScriptValues.{given, lent}
use Rattle.script_draft.specs.Lists.{all_of, each_of}
use Rattle.script_draft.specs.declared.draft.CallDraft.{CallDraft}
use Rattle.script_draft.specs.declared.draft.NotifyDraft.{NotifyDraft}
use Rattle.script_draft.specs.declared.draft.ObjectDraft.{ObjectDraft}
use Rattle.script_draft.specs.declared.draft.ScriptDraft.{ScriptDraft}
use Rattle.script_draft.specs.declared.parts.CallbackText.{CallbackText}
use Rattle.script_draft.specs.declared.parts.CellValueText.{CellValueText}
use Rattle.script_draft.specs.declared.parts.OutText.{OutText}
use Rattle.script_draft.specs.declared.parts.WriteText.{WriteText}
use Rattle.script_draft.specs.declared.value.ArgumentText.{ArgumentText}
use Rattle.script_draft.specs.declared.value.ArgumentText.TheVariants as argument
use Rattle.script_draft.specs.declared.value.ValueText.{ValueText}
use Rattle.script_draft.specs.declared.value.ValueText.TheVariants as text
use Rattle.protocol_script.specs.Numbers.{field_number, function_number, method_number, shape_number, signature_number}
use Rattle.protocol_script.specs.declared.resolve.Reply.{Reply}

-- ---- texts

unfoldable pub resolved_value : Notes → ValueText → Option Value
resolved_value notes (text.Int n) = Some (value.Int n)
resolved_value notes (text.Size n c) = Some (value.Size n c)
resolved_value notes (text.Ptr object instance) = Some (value.Ptr object instance)
resolved_value notes text.Null = Some value.Null
resolved_value notes (text.StatusOk code) = Some (value.StatusOk code)
resolved_value notes (text.StatusError code) = Some (value.StatusError code)
resolved_value notes (text.Handle k) = Some (value.Handle k)
resolved_value notes (text.Entry name) = option_map (λ f. value.Entry f) (function_number notes name)
resolved_value notes (text.Method name) = option_map (λ m. value.Method m) (method_number notes name)
resolved_value notes text.Any = Some value.Any

unfoldable pub resolved_argument : Notes → ArgumentText → Option Seen
resolved_argument notes argument.Out = Some (given value.Out)
resolved_argument notes (argument.Lent v) = option_map lent (resolved_value notes v)
resolved_argument notes (argument.Given v) = option_map given (resolved_value notes v)

-- what a cell of an object holds, where the object's shape has these fields
unfoldable pub resolved_cell : Notes → List Field → CellValueText → Option CellValue
resolved_cell notes fields c =
    option_and_then (λ field. option_map (λ v. record { instance = c.instance; field = field; value = v }) (resolved_value notes c.value))
    (field_number fields c.field)

unfoldable pub resolved_callback : Notes → CallbackText → Option Callback
resolved_callback notes b =
    option_and_then (λ function. option_map (λ values. record { function = function; values = values })
    (all_of (resolved_value notes) b.values))
    (function_number notes b.function)

unfoldable pub resolved_out : Notes → OutText → Option OutValue
resolved_out notes o = option_map (λ v. record { argument = o.argument; value = v }) (resolved_value notes o.value)

-- the field that a `write` names, in the shape of its object; it isn't sought where no such object is there, or where the
-- object's shape isn't
abbrev pub field_in : Notes → Option ℕ → List ℕ → Option ℕ
field_in notes None name = Some 0
field_in notes (Some shape) name = field_number (shape_of notes shape).fields name

-- what a cell of an object gets, where the typed objects have these shapes
unfoldable pub resolved_write : Notes → List (Option ℕ) → WriteText → Option WriteValue
resolved_write notes shapes w =
    option_and_then (λ field. option_map (λ v. record { object = w.object; instance = w.instance; field = field; value = v })
    (resolved_value notes w.value))
    (field_in notes (option_and_then (λ shape. shape) (slice_get shapes w.object)) w.field)

-- ---- tables

-- a table of the list `object` or `make`, by the path before its keys
unfoldable pub resolved_object : Notes → List ℕ → ObjectDraft → Result ScriptObject TomlFault
resolved_object notes prefix o = do
  shape ← or_else (Name (prefix ++ codes "shape")) (shape_number notes o.shape)
  cells ← or_else (Name (prefix ++ codes "cells")) (all_of (resolved_cell notes (shape_of notes shape).fields) o.cells)
  Ok (record { shape = shape; count = o.count; cells = cells })

-- the tables of the list at a path
unfoldable pub resolved_objects : Notes → List ℕ → List ObjectDraft → Result (List ScriptObject) TomlFault
resolved_objects notes path objects = each_of (λ i o. resolved_object notes (row_prefix path i) o) 0 objects

-- what the firmware leaves and gives where it replies
unfoldable pub resolved_reply : Notes → List (Option ℕ) → List ℕ → CallDraft → Result Reply TomlFault
resolved_reply notes shapes prefix c = do
  out ← or_else (Name (prefix ++ codes "out")) (all_of (resolved_out notes) c.out)
  write ← or_else (Name (prefix ++ codes "write")) (all_of (resolved_write notes shapes) c.write)
  result ← or_else (Name (prefix ++ codes "result")) (resolved_value notes c.result)
  Ok (record { out = out; write = write; result = result })

-- a table of the list `call`, by the path before its keys, where the typed objects have these shapes
unfoldable pub resolved_call : Notes → List (Option ℕ) → List ℕ → CallDraft → Result ScriptCall TomlFault
resolved_call notes shapes prefix c = do
  signature ← or_else (Name (prefix ++ codes "signature")) (signature_number notes c.signature)
  args ← or_else (Name (prefix ++ codes "args")) (all_of (resolved_argument notes) c.args)
  enter ← or_else (Name (prefix ++ codes "enter")) (all_of (resolved_callback notes) c.enter)
  make ← resolved_objects notes (prefix ++ codes "make") c.make
  reply ← resolved_reply notes shapes prefix c
  Ok (record {
    signature = signature;
    args = args;
    enter = enter;
    make = make;
    out = reply.out;
    write = reply.write;
    result = reply.result;
  })

unfoldable pub resolved_calls : Notes → List (Option ℕ) → List CallDraft → Result (List ScriptCall) TomlFault
resolved_calls notes shapes calls = each_of (λ i c. resolved_call notes shapes (row_prefix (codes "call") i) c) 0 calls

-- a table of the list `notify`, by the path before its keys
unfoldable pub resolved_notify : Notes → List ℕ → NotifyDraft → Result Notify TomlFault
resolved_notify notes prefix n = do
  function ← or_else (Name (prefix ++ codes "function")) (function_number notes n.function)
  args ← or_else (Name (prefix ++ codes "args")) (all_of (resolved_value notes) n.args)
  Ok (record { at = n.at; function = function; args = args })

-- the tables of the list `notify`
unfoldable pub resolved_notifications : Notes → List NotifyDraft → Result (List Notify) TomlFault
resolved_notifications notes notifications = each_of (λ i n. resolved_notify notes (row_prefix (codes "notify") i) n) 0 notifications

-- ---- the whole

-- the shapes of these tables of objects, each where it is there
abbrev pub draft_shapes : Notes → List ObjectDraft → List (Option ℕ)
draft_shapes notes objects = map (λ (o : ObjectDraft). shape_number notes o.shape) objects

-- the shapes of all typed objects of a run: the static objects, the script's at the start, and those that its calls make
unfoldable pub typed_shapes : Notes → ScriptDraft → List (Option ℕ)
typed_shapes notes d =
    map (λ (o : Static). Some o.shape) notes.statics ++ (draft_shapes notes d.object
    ++ flat_map (λ (c : CallDraft). draft_shapes notes c.make) d.call)

-- the whole text
unfoldable pub resolved : Notes → ScriptDraft → Result Script TomlFault
resolved notes d = do
  args ← or_else (Name (codes "args")) (all_of (resolved_value notes) d.args)
  object ← resolved_objects notes (codes "object") d.object
  call ← resolved_calls notes (typed_shapes notes d) d.call
  notify ← resolved_notifications notes d.notify
  Ok (record { version = d.version; args = args; object = object; call = call; notify = notify })
