-- The names that several proofs of this crate cite, passed on from one place. Declares nothing.
pub use Rattle.std.specs.List.{list_all, list_any, sum_by, AllPairs, flat_map, position, position_or_len}
pub use Rattle.std.specs.Option.{option_map_or}
pub use Rattle.std.proofs.Common.{◌≡◌, ℕ, ◌+◌, ◌≤◌, ◌<◌, zero, suc, List, [], ◌∷◌, length, Option, Some, None, Bool, true, false, refl, sym}
pub use Rattle.std.proofs.Common.{ap, subst, ◌∙◌, arith, ⊎_elim, slice_get, ◌||◌, ◌&&◌, not, ◌^◌, Result, Ok, Err, ◌++◌, take, drop, get_or}
pub use Rattle.std.proofs.Common.{inl, inr, nat_le, bytes_eq, IfOk, codes, map, ltb-true, nat_lt, option_and_then, option_map}
pub use Rattle.std.proofs.lemmas.Bool.{cases_lt, cases_Bool, and_parts, Decides.nat_tests}
pub use Rattle.std.proofs.lemmas.{List.map-append, List.length-map, Option.same_Some, Option.slice_get-get_or}
pub use Rattle.std.proofs.lemmas.{Option.slice_get-map, Result.err_from_is_err_and, Slice.Eq.bytes_eq-Decides}
pub use Rattle.ebc_base.proofs.{Given.ok_then, Given.ok_next, Lists.within_some}
pub use Rattle.note_types.specs.Records.{Each, IsNotes}
pub use Rattle.note_types.specs.declared.{fault.NotesEnd.NotesEnd, fault.TomlFault.TomlFault, notes.FnNote.FnNote, notes.Notes.Notes}
pub use Rattle.note_types.specs.declared.{notes.Static.Static, script.CellValue.CellValue, script.Notify.Notify, script.Script.Script}
pub use Rattle.note_types.specs.declared.script.{ScriptCall.ScriptCall, ScriptObject.ScriptObject, WriteValue.WriteValue}
pub use Rattle.note_types.specs.declared.{seen.Seen.Seen, shape.Field.Field, value.Value.Value}
pub use Rattle.note_types.proofs.RecordLaws.{each_none, each_more}
pub use Rattle.note_texts.specs.{Grammar.IsName, Keys.row_prefix, Outcome.Fails}
pub use Rattle.note_texts.proofs.Loop.{with_front}
pub use Rattle.host_model.specs.{HostPlans.field_of, Objects.objects_of, Objects.script_object, Objects.shape_of, Objects.static_object}
pub use Rattle.host_model.specs.{Objects.no_shape, ScriptValues.given, Scripts.is_needed, Scripts.have_room, Scripts.room_of}
pub use Rattle.host_model.specs.Scripts.{IsWritten, all_made}
pub use Rattle.host_model.specs.declared.object.TypedObject.{TypedObject}
pub use Rattle.script_draft.specs.declared.{draft.CallDraft.CallDraft, draft.ScriptDraft.ScriptDraft, value.ValueText.ValueText}
pub use Rattle.script_draft.proofs.{DraftLaws.ok_step, DraftLaws.same_Ok, ListLaws.pass-on, ListLaws.pass-stop, ListLaws.pass-done}
pub use Rattle.script_draft.proofs.ListLaws.{onto, with_front-none, each-on, each-stop, each-done}
pub use Rattle.protocol_script.specs.{Conditions.call_args, Conditions.notify_at, Conditions.table_passes, Contents.is_settled}
pub use Rattle.protocol_script.specs.{Limits.IsLoad, Limits.object_limit, Numbers.narrow, PrintedLaw.HasNames, Resolved.draft_shapes}
unfoldable pub use Rattle.host_model.specs.Objects.{placed_objects, made_objects}
unfoldable pub use Rattle.note_draft.specs.{Drafts.draft_of, Repeats.first_repeat}
unfoldable pub use Rattle.script_draft.specs.Lists.{all_pass, all_of, each_of}
unfoldable pub use Rattle.protocol_script.specs.Resolved.{resolved, resolved_argument, resolved_call, resolved_calls}
unfoldable pub use Rattle.protocol_script.specs.Resolved.{resolved_notifications, resolved_notify, resolved_object, resolved_objects}
unfoldable pub use Rattle.protocol_script.specs.Conditions.{call_passes, calls_pass, notify_ascends}
unfoldable pub use Rattle.protocol_script.specs.{Conditions.tables_pass, Contents.all_settled, Contents.is_filled, Limits.call_limit}
unfoldable pub use Rattle.protocol_script.specs.{Limits.calls_limit, Limits.objects_limit, Numbers.function_number, Numbers.method_number}
unfoldable pub use Rattle.protocol_script.specs.{Resolved.resolved_value, ShapeTests.fits_at, ShapeTests.is_shape}
