-- What a row unfolds to compute a whole run: every definition of a run that isn't an abbreviation.
use Rattle.neutral_machine.proofs.Common.{little_endian, put, holds, computed, compared, loaded, stored, with_register, filling}
use Rattle.neutral_machine.proofs.Common.{reply_stores, argument_refused, call_plan, enter_plan, all_named_right, reply_fits, reply_plan}
use Rattle.neutral_machine.proofs.Common.{is_due, notify_plan, host_plan, written_number, host_view, located_past, located_on_stack}
use Rattle.neutral_machine.proofs.Common.{fits_cell, value_at, writes_there, all_lent, lent_there, param_slots, neutral_host_step}
use Rattle.neutral_machine.proofs.Common.{neutral_reading, neutral_result, neutral_start, placed_objects, made_objects, combined}
use Rattle.neutral_machine.proofs.Common.{kept_natural, sign_extended, instance_of, compared_as, most_bytes, object_at, script_ranges}
use Rattle.neutral_machine.proofs.Common.{placed_ranges, own_placement, pointer_from, reading_of, same_value, fits, fits_each}
use Rattle.neutral_machine.proofs.Common.{written_value, sum_at, address, loaded_at, raised_by, lowered_by, stored_by}
use Rattle.std.specs.Prelude.{⊤}
use Rattle.natural_index.specs.Index.{fields_of}
use Rattle.ebc_width.specs.Bytes.{window}
use Rattle.ebc_insn.specs.Spelling.{field_bytes, bytes_of}
use Rattle.ebc_decode.specs.Reading.{form_at, is_reserved, has_left_index, size1_at, size2_at, field_at, insn_at, parts_at, read}
use Rattle.note_types.specs.{BelowTests.same_type, Concrete.rest_from, Concrete.at_ip, Concrete.with_flags}
use Rattle.host_model.specs.HostSteps.{spot_of, asking_at, writes_mapped, result_of, after_stores, with_object, with_objects, with_slots}
use Rattle.host_model.specs.HostSteps.{inside, performed, host_step, thunk_view, thunk_made}
use Rattle.host_model.specs.Runs.{after_instruction, instruction_step, running_step, run_step, run_after}
use Rattle.host_model.specs.{HostPlans.field_at as plan_field_at, HostPlans.site_of, Placements.bases_from, Readings.argument_read}
use Rattle.host_model.specs.{Readings.arguments_read, Readings.slots_from, Start.bare_machine, Start.start_machine, Start.run_start}
use Rattle.neutral_machine.specs.NeutralHost.{asking_at as neutral_host_asking_at, result_of as neutral_host_result_of}
use Rattle.neutral_machine.specs.NeutralHost.{host_view as neutral_host_host_view, after_stores as neutral_host_after_stores}
use Rattle.neutral_machine.specs.NeutralHost.{with_objects as neutral_host_with_objects, performed as neutral_host_performed}
use Rattle.neutral_machine.specs.NeutralHost.{thunk_made as neutral_host_thunk_made}
use Rattle.neutral_machine.specs.NeutralReadings.{neutral_argument, neutral_arguments, neutral_slots}
use Rattle.neutral_machine.specs.NeutralRuns.{start_cells, neutral_step, neutral_run}
use Rattle.neutral_machine.specs.Operands.{loaded_by, value as neutral_value, with_register as neutral_with_register}
use Rattle.neutral_machine.specs.Operands.{written as neutral_written}
use Rattle.neutral_machine.specs.Rows.{goes as neutral_goes, arith_row as neutral_arith_row, compare_row as neutral_compare_row}
use Rattle.neutral_machine.specs.Rows.{compare_imm_row as neutral_compare_imm_row, stack_row, move_row as neutral_move_row}
use Rattle.neutral_machine.specs.Rows.{move_signed_row as neutral_move_signed_row, address_of_place, move_imm_row as neutral_move_imm_row}
use Rattle.neutral_machine.specs.Rows.{move_imm_natural_row as neutral_move_imm_natural_row, move_relative_row as neutral_move_relative_row}
use Rattle.neutral_machine.specs.Rows.{store_special_row as neutral_store_special_row, push_row as neutral_push_row, push_natural_row}
use Rattle.neutral_machine.specs.Rows.{popped as neutral_popped, pop_row as neutral_pop_row, pop_natural_row}
use Rattle.neutral_machine.specs.Rows.{target_at as neutral_target_at, jump_row as neutral_jump_row, jump8_row as neutral_jump8_row}
use Rattle.neutral_machine.specs.Rows.{called as neutral_called, call_row as neutral_call_row, call_native_row as neutral_call_native_row}
use Rattle.neutral_machine.specs.Rows.{return_row as neutral_return_row, break_row as neutral_break_row, executed as neutral_executed}
use Rattle.neutral_machine.specs.{Locations.stored_at, NeutralImage.instruction_at, NeutralImage.static_cells}
use Rattle.neutral_machine.specs.NeutralRun.{neutral_instruction}
use Rattle.ebc_machine.specs.Flow.{target_number, target_at, jump_row, jump8_row, called, call_row, call_native_row, return_row, break_row}
use Rattle.ebc_machine.specs.Moves.{move_row, move_signed_row, move_imm_row, move_imm_natural_row, move_relative_row, load_special_row}
use Rattle.ebc_machine.specs.Moves.{store_special_row}
use Rattle.ebc_machine.specs.{Data.arith_row, Data.compare_row, Data.compare_imm_row, Fetch.fetched}
use Rattle.ebc_machine.specs.{Operands.stored_at as machine_stored_at, Operands.value, Operands.written, Results.goes, Stack.pushed}
use Rattle.ebc_machine.specs.{Stack.push_row, Stack.popped, Stack.pop_row, Step.executed, Step.instruction_done, Step.machine_step}
use Rattle.pe_image.specs.Mapped.{laid, moved, mapped, named_place}

unfoldable pub runs_compute : ⊤
unfolding fields_of little_endian put window holds field_bytes bytes_of form_at is_reserved has_left_index size1_at size2_at field_at
    insn_at parts_at read computed compared same_type loaded stored rest_from with_register at_ip with_flags plan_field_at filling
    reply_stores site_of argument_refused call_plan enter_plan all_named_right reply_fits reply_plan is_due notify_plan host_plan
    spot_of written_number
    asking_at writes_mapped result_of host_view after_stores with_object with_objects with_slots inside performed host_step thunk_view
    thunk_made located_past located_on_stack fits_cell value_at stored_at neutral_host_asking_at writes_there all_lent lent_there
    neutral_host_result_of neutral_host_host_view neutral_host_after_stores neutral_host_with_objects param_slots neutral_host_performed
    neutral_host_step neutral_host_thunk_made neutral_reading neutral_result neutral_argument neutral_arguments neutral_slots start_cells
    neutral_start neutral_step neutral_run placed_objects made_objects combined kept_natural sign_extended instance_of
    compared_as most_bytes object_at script_ranges placed_ranges bases_from own_placement pointer_from reading_of argument_read
    arguments_read slots_from same_value fits fits_each bare_machine start_machine run_start written_value arith_row compare_row
    compare_imm_row fetched target_number target_at jump_row jump8_row called call_row call_native_row return_row break_row move_row
    move_signed_row move_imm_row move_imm_natural_row move_relative_row load_special_row store_special_row sum_at address loaded_at
    machine_stored_at value written goes raised_by lowered_by pushed push_row popped pop_row executed instruction_done machine_step
    loaded_by stored_by neutral_value neutral_with_register neutral_written neutral_goes neutral_arith_row neutral_compare_row
    neutral_compare_imm_row stack_row neutral_move_row neutral_move_signed_row address_of_place neutral_move_imm_row
    neutral_move_imm_natural_row neutral_move_relative_row neutral_store_special_row neutral_push_row push_natural_row neutral_popped
    neutral_pop_row pop_natural_row neutral_target_at neutral_jump_row neutral_jump8_row neutral_called neutral_call_row
    neutral_call_native_row neutral_return_row neutral_break_row neutral_executed laid moved mapped named_place instruction_at static_cells
    neutral_instruction after_instruction instruction_step running_step run_step run_after
runs_compute = tt
