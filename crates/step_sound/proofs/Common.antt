-- The names that several proofs of this crate cite, passed on from one place. Declares nothing.
pub use Rattle.std.specs.{List.find, List.sum_by, List.Contains, List.position, Option.option_map_or}
pub use Rattle.std.proofs.Common.{◌≡◌, ℕ, zero, suc, ◌+◌, ◌-◌, ◌<◌, ◌≤◌, length, Some, Ok, Err, sym, ap, ◌∙◌, subst, arith, ◌⊎◌, ◌%◌, Bool}
pub use Rattle.std.proofs.Common.{true, false, if◌then◌else◌, nat_lt, nat_le, List, [], ◌∷◌, refl, inl, inr, ⊎_elim, slice_get, leb-true}
pub use Rattle.std.proofs.Common.{ltb-true, Option, option_map, nat_eq, ◌&&◌, map, None, option_and_then, subst₂, eq-eqb, true≢false, ap₂}
pub use Rattle.std.proofs.Common.{◌^◌, lt-ltb, IfOk, pos, not, ◌++◌, eqb-true, ◌*◌, ne_eqb, get_or, mod-eq_of_lt}
pub use Rattle.std.proofs.lemmas.Option.{same_Some, none-some, slice_get_within, slice_get-map, slice_get-get_or, get_or_from_slice_get}
pub use Rattle.std.proofs.lemmas.{Bool.cases_lt, Bool.and_parts, Bool.and_from, Nat.row_fits}
pub use Rattle.ebc_base.proofs.Lists.{within_some, slice_get-append_left, length-map, contains-any}
pub use Rattle.ebc_width.specs.Width.{IsWidth}
pub use Rattle.ebc_width.proofs.ByteLaws.{little_endian-below}
pub use Rattle.natural_index.specs.declared.Index.{Index}
pub use Rattle.ebc_insn.specs.Spelling.{spelling}
pub use Rattle.ebc_insn.specs.declared.Insn.{Insn}
pub use Rattle.pe_image.specs.Mapped.{image_byte, AreBytes}
pub use Rattle.pe_image.specs.declared.image.Image.{Image}
pub use Rattle.note_types.specs.{Cells.cell_size, Concrete.Concrete, Shapes.size_at, Shapes.start_at, States.type_of}
pub use Rattle.note_types.specs.declared.{cell.Cell.Cell, ending.Ending.Ending, notes.FnNote.FnNote, notes.Notes.Notes, notes.Static.Static}
pub use Rattle.note_types.specs.declared.{notes.Thunk.Thunk, shape.Field.Field, shape.Shape.Shape, spot.Spot.Spot, state.State.State}
pub use Rattle.ebc_machine.specs.declared.StepEnd.{StepEnd}
pub use Rattle.host_model.specs.{HostPlans.host_turn, Objects.no_shape, Objects.shape_of, Objects.static_object, Objects.script_object}
pub use Rattle.host_model.specs.Placements.{Placement, IsPlacement, image_range, object_bytes}
pub use Rattle.host_model.specs.Progress.{NativeCall, NoCall, Asked, one_thunk, one_instruction}
pub use Rattle.host_model.specs.{RunState.RunState, Scripts.room_of, Values.Neutral, Values.word, Values.Addresses, Values.At}
pub use Rattle.host_model.specs.{Values.ObjectOf, Values.FieldOf, Values.number, Values.null, World.World}
pub use Rattle.host_model.specs.declared.object.TypedObject.{TypedObject}
pub use Rattle.rules_flow.specs.Successors.{falls}
pub use Rattle.rules_flow.specs.declared.successors.Successors.{Successors}
pub use Rattle.rules_image.specs.Images.{IsUnrelocated, extent, depends, field_place, IsStatic, IsLinked, CellHolds, HasContentBy}
pub use Rattle.rules_image.proofs.Decoding.{spelled_at}
pub use Rattle.neutral_machine.specs.Config.{FunctionFrame, Frame, Function, Host, HostFrame, Config, call_under_way, with_call}
pub use Rattle.neutral_machine.specs.NeutralImage.{or_none, site_at, static_cell_place, static_value, static_address, loaded_value}
pub use Rattle.neutral_machine.specs.{Layout.addresses, Memory.Memory, Memory.memory_of, Memory.cell_field, NeutralHost.thunk_function}
pub use Rattle.neutral_machine.specs.{NeutralHost.next_thunk, NeutralRun.instruction_from, NeutralRun.instruction_left, NeutralRuns.is_gate}
pub use Rattle.neutral_machine.specs.{Outcomes.Outcome, Outcomes.Gives, Outcomes.Raises, Outcomes.Stuck, Rows.Site, Rows.NeutralEnd}
pub use Rattle.neutral_machine.specs.{Rows.Next, Rows.Native, Rows.MakeThunk, Rows.NeutralRow, Stands.Stands, WorldFits.WorldFits}
pub use Rattle.width_checker.specs.Rows.{is_flow}
pub use Rattle.instruction_laws.specs.Premises.{IsRunOf, IsInsnOf}
pub use Rattle.instruction_laws.proofs.Worlds.{world_meets}
pub use Rattle.invariant_laws.specs.{Accepts.Accepts, Holds.RunsAt, Holds.TopHolds, Holds.GateHolds, Holds.SpotHolds, Holds.Holds}
pub use Rattle.invariant_laws.specs.{Hosted.RunWorld, LaterLaws.StatesFitBelow, Live.live_memory, Sound.FramesKeep, Waiting.States}
pub use Rattle.typing_laws.specs.OneRule.{EndsSound, WorldTyped, here_of, StandsTyped}
pub use Rattle.typing_laws.proofs.{FlowTable.one_rule, Rooms.room_fits}
pub use Rattle.step_sound.specs.{PlaceStates.StatesHold, ReadWorld.IsReadWorld, StepLaw.IsRunAt, StepLaw.StepGoesWell}
unfoldable pub use Rattle.ebc_width.specs.Bytes.{window, little_endian}
unfoldable pub use Rattle.pe_image.specs.Mapped.{mapped, named_place}
unfoldable pub use Rattle.ebc_decode.specs.Reading.{read}
unfoldable pub use Rattle.ebc_machine.specs.Step.{machine_step}
unfoldable pub use Rattle.host_model.specs.{HostPlans.is_due, HostPlans.field_at, Objects.placed_objects, Objects.made_objects}
unfoldable pub use Rattle.rules_data.specs.Data.{after_data}
unfoldable pub use Rattle.rules_flow.specs.Flow.{after_flow}
unfoldable pub use Rattle.neutral_machine.specs.{NeutralHost.thunk_made, NeutralHost.neutral_host_step, NeutralImage.instruction_at}
unfoldable pub use Rattle.neutral_machine.specs.{NeutralImage.static_cells, Rows.executed}
unfoldable pub use Rattle.width_checker.specs.Rows.{row_of}
