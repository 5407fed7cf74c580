-- The image of the driver of docs/NOTES.md is typed under its notes, with its script.
use Rattle.twin_run.proofs.Common.{⊤, ◌≡◌, true, refl, none-some, little_endian, put, holds, state_below, function_at, laid, computed}
use Rattle.twin_run.proofs.Common.{compared, row_of, instruction_at, Notes, Typed, driver_image, IsTypedWorld, reloc_at}
use Rattle.natural_index.specs.Index.{fields_of}
use Rattle.ebc_width.specs.Bytes.{window}
use Rattle.ebc_insn.specs.Spelling.{field_bytes, bytes_of}
use Rattle.ebc_decode.specs.Reading.{form_at, is_reserved, has_left_index, size1_at, size2_at, field_at as reading_field_at, insn_at}
use Rattle.ebc_decode.specs.Reading.{parts_at, read}
use Rattle.note_types.specs.BelowTests.{same_type, is_below, registers_up_to, items_below}
use Rattle.note_types.specs.Known.{local_fields}
use Rattle.pe_image.specs.Mapped.{named_place}
use Rattle.rules_base.specs.Places.{locals_size, cell_of, parameter_at, stack_at, field_place, place_at, field_number_at}
use Rattle.rules_base.specs.{Access.load_at, Access.target_at, Change.with_type, Change.with_store, Change.with_fact, Change.changed}
use Rattle.rules_base.specs.{Destinations.destination, Outcomes.sooner, Sums.gcd, Sums.shared, Sums.sum_row, Sums.sum, Sums.difference}
use Rattle.rules_base.specs.{Sums.product, Things.static_at, Things.thunk_at, Things.thing_at, Values.register_type, Values.operand_value}
use Rattle.rules_data.specs.Data.{left_operand, arith_row, compare_row, compare_imm_row, move_value, move_row, signed_value}
use Rattle.rules_data.specs.Data.{move_signed_row, move_imm_row, move_index_row, move_relative_row, store_special_row, data_change}
use Rattle.rules_data.specs.{Arithmetic.wide_row, Arithmetic.computed_type, Compares.compares, Data.after_data}
use Rattle.rules_flow.specs.Calls.{callee_at, is_lower, call_to, call_row, callee_method, site_at, signature_at, native_call}
use Rattle.rules_flow.specs.{Arguments.arguments, Arguments.native_arguments, Arguments.all_lent_out, Calls.call_native_row}
use Rattle.rules_flow.specs.{Calls.may_return, Calls.return_row, Calls.break_row, Flow.after_flow, Found.number_at, Frames.items_size}
use Rattle.rules_flow.specs.Frames.{has_room, push_row, pop_row, left_after, with_left, frame_row}
use Rattle.rules_flow.specs.{Jumps.target_of, Jumps.point_at, Jumps.jump_row, Jumps.jump8_row, Narrowing.narrow}
use Rattle.twin_run.proofs.DriverImage.{driver_bytes, driver_functions, driver_image_meets, driver_shapes, driver_thunks}
use Rattle.twin_run.proofs.{DriverNotes.driver_named, DriverNotes.driver_notes_meet, DriverScript.driver_script_meets, TypedTest.code_test}
use Rattle.twin_run.proofs.TypedTest.{image_test, functions_test, code_typed}

abbrev notes : Notes
notes = driver_named.notes

unfoldable pub rows_compute : ⊤
unfolding laid fields_of little_endian put window holds field_bytes bytes_of form_at is_reserved has_left_index size1_at size2_at
    reading_field_at insn_at parts_at read same_type is_below registers_up_to items_below state_below local_fields function_at load_at
    target_at with_type with_store with_fact changed destination sooner locals_size field_number_at cell_of parameter_at stack_at
    field_place
    place_at gcd shared sum_row sum difference product static_at thunk_at thing_at register_type operand_value wide_row computed_type
    compares left_operand arith_row compare_row compare_imm_row move_value move_row signed_value move_signed_row move_imm_row move_index_row
    move_relative_row store_special_row data_change after_data named_place arguments native_arguments all_lent_out callee_at is_lower
    call_to call_row callee_method site_at signature_at native_call call_native_row may_return return_row break_row after_flow number_at
    items_size has_room push_row pop_row left_after with_left frame_row target_of point_at jump_row jump8_row narrow computed compared
    reloc_at row_of instruction_at
rows_compute = tt

driver_passes : image_test driver_image notes 64 ≡ true
unfolding rows_compute code_test functions_test
driver_passes = refl

driver_typed : Typed driver_image notes
driver_typed = record {
  tables = record {
    shapes = driver_shapes;
    functions = driver_functions;
    statics = λ k x s g h. absurd (none-some x g);
    thunks = driver_thunks;
  };
  code = code_typed driver_image notes driver_bytes refl 64 driver_passes;
}

pub driver_world : IsTypedWorld driver_image driver_named
driver_world = record {
  well_formed = driver_image_meets;
  bytes = driver_bytes;
  size = refl;
  notes = driver_notes_meet;
  script = driver_script_meets;
  typed = driver_typed;
}
