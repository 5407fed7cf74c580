-- The names that several proofs of this crate cite, passed on from one place. Declares nothing.
pub use Rattle.std.proofs.Common.{ap, Err, inl, inr, map, not, Ok, pos, suc, sym, [], ℕ, ◌%◌, ◌+◌, ◌-◌, ◌/◌, ◌<◌, ◌^◌, ◌∙◌, ◌∷◌, ◌≡◌, ◌≤◌}
pub use Rattle.std.proofs.Common.{append_assoc, filter, get_or, length, nat_eq, nat_le, nat_lt, negsuc, Option, Result, slice_get, ⊎_elim}
pub use Rattle.std.proofs.Common.{arith, Bool, codes, cond, false, List, None, refl, Some, subst, take, true, zero, ◌&&◌, ◌++◌, ◌==◌, ◌||◌}
pub use Rattle.std.proofs.Common.{ℤ}
pub use Rattle.std.proofs.lemmas.Bool.{and_parts, cases_lt, cond_both, eq-eqb, eqb-true, le-leb, le-ltb, lt-ltb, ltb-true}
pub use Rattle.std.proofs.lemmas.List.{get_or-map, get_or-take, length-map, length-take-le}
pub use Rattle.std.proofs.lemmas.List.Folds.{find_at, flat_map-map, list_all-append, list_any_at, list_any_none}
pub use Rattle.std.proofs.lemmas.List.FromFn.{fill_by_all, get_or-range_with_len, length-range_with_len}
pub use Rattle.std.proofs.lemmas.List.Kept.{AllPairs-from_increasing, IsStrictlyIncreasing-filter}
pub use Rattle.std.proofs.lemmas.List.Sums.{length-filter, position_or_len_is, sum_by-cons}
pub use Rattle.std.proofs.lemmas.Option.{get_or_from_slice_get, none-some, same_Some, slice_get-get_or, slice_get-map, slice_get_within}
pub use Rattle.std.proofs.{lemmas.Bool.Decides.nat_tests, lemmas.Str.Ascii.IsAscii-cons, lemmas.Str.Ascii.IsAscii-nil}
pub use Rattle.std.proofs.{lemmas.Fmt.decimal_by_steps, lemmas.Nat.Bits.bit_at-lt, lemmas.Str.IsAscii-append, lemmas.Str.IsUtf8-from_ascii}
pub use Rattle.std.proofs.{lemmas.Nat.Bits.same_from_bits_below, lemmas.Slice.Eq.bytes_eq-Decides, lemmas.Str.is_utf8-from_IsUtf8}
pub use Rattle.std.specs.List.{All, AllByRecursion, AllPairs, find, flat_map, list_all, list_any, position, position_or_len, range_with_len}
pub use Rattle.std.specs.Prelude.{bytes_eq, count_by, IfOk, IfSome, if◌then◌else◌, is_none, is_some, option_and_then, option_map}
pub use Rattle.std.specs.{Fmt.decimal, Fmt.signed_decimal, Int.bit_at, List.Sorted.IsStrictlyIncreasing, Option.option_map_or, Str.IsAscii}
pub use Rattle.ebc_base.proofs.Given.{ok_next, ok_some, ok_then, ok_weaken, some_of_map}
pub use Rattle.ebc_base.proofs.{Lists.within_some, TableLaws.position_or_len-map}
pub use Rattle.ebc_base.specs.{Names.continues_name, Names.name_of, Steps.passes, Steps.◌>>=◌, Tables.is_named, Tables.name_number}
pub use Rattle.note_draft.proofs.RepeatLaws.{first_descent-none, first_repeat-none, repeats-at}
pub use Rattle.note_draft.specs.Drafts.{draft_keys, greatest_32, greatest_64, last_place}
pub use Rattle.note_draft.specs.Known.{knows_cell, knows_item, knows_regs, knows_stack, knows_type}
pub use Rattle.note_draft.specs.Known.{unknown_in_functions, unknown_in_points, unknown_in_shapes, unknown_in_statics, unknown_in_thunks}
pub use Rattle.note_draft.specs.Once.{function_names, repeats_field, repeats_register, same_name, same_register, shape_names}
pub use Rattle.note_draft.specs.{declared.draft.FunctionDraft.FunctionDraft, declared.reading.DraftLists.DraftLists, Findings.◌otherwise◌}
pub use Rattle.note_draft.specs.{declared.draft.NotesDraft.NotesDraft, declared.tables.NameTables.NameTables, Findings.refused}
pub use Rattle.note_draft.specs.{declared.draft.PointDraft.PointDraft, declared.draft.ShapeDraft.ShapeDraft, Repeats.repeats}
pub use Rattle.note_draft.specs.{declared.finding.Finding.Finding, declared.reading.DataLists.DataLists}
pub use Rattle.note_draft.specs.{declared.reading.CallLists.CallLists, declared.reading.CodeLists.CodeLists}
pub use Rattle.note_texts.proofs.{NumberRanges.name_of-complete, SlotLaws.field_read, SlotLaws.item_read, SlotLaws.register_read}
pub use Rattle.note_texts.specs.Grammar.{IsCellText, IsCounted, IsName, mark_of}
pub use Rattle.note_texts.specs.TypeGrammar.{AreNames, grants_text, IsIntText, IsOffsetText, IsTypeText, pair_text, range_text}
pub use Rattle.note_texts.specs.declared.slot.ItemText.TheVariants.{Locals, Slot}
pub use Rattle.note_texts.specs.{declared.cell.CellText.CellText, declared.slot.ItemText.ItemText, Keys.row_prefix, SlotGrammar.kind_text}
pub use Rattle.note_texts.specs.{declared.cell.FieldText.FieldText, declared.slot.RegisterText.RegisterText, declared.ty.TypeText.TypeText}
pub use Rattle.note_texts.specs.{Keys.text_of, Lists.count, Lists.count_beside, Lists.has_text, Lists.row_of, Lists.table_of}
pub use Rattle.note_types.proofs.RecordLaws.{each_none, slots_and_locals}
pub use Rattle.note_types.specs.Known.{AreFields, CellNames, fields_of, is_locals, is_slot, IsKnown, IsState}
pub use Rattle.note_types.specs.{declared.cell.Cell.Cell, FieldSets.HasField, Limits.point_limit, Records.IsNotes, Records.IsPointNote}
pub use Rattle.note_types.specs.{declared.cell.SlotKind.SlotKind, declared.fault.TomlFault.TomlFault, declared.notes.FnNote.FnNote}
pub use Rattle.note_types.specs.{declared.items.Item.Item, declared.shape.Shape.Shape, declared.state.Fact.Fact, declared.state.State.State}
pub use Rattle.note_types.specs.{declared.notes.Notes.Notes, declared.notes.Point.Point, declared.shape.Field.Field, declared.types.Ty.Ty}
pub use Rattle.note_types.specs.{Records.Each, States.type_of, Types.IsNear, Types.IsUnits}
pub use Rattle.point_laws.specs.PointTables.{draft_in, strings, tables_of}
pub use Rattle.point_laws.specs.PointTables.{item_draft, members_in, members_of, point_draft, point_members, points_members, register_draft}
pub use Rattle.point_laws.specs.PrintedPoints.{IsReading, with_printed}
pub use Rattle.point_laws.specs.PrintedPoints.{PrintedPointsAreAccepted, PrintedPointsAreRead, PrintedPointsAreTables, PrintedPointsStand}
pub use Rattle.printed_texts.proofs.PrintedTypeLaws.{below_are, has, type_spelled}
pub use Rattle.printed_texts.specs.PrintedStates.{array_line, in_quotes, is_left_out, item_text, item_texts, register_type_text}
pub use Rattle.printed_texts.specs.PrintedStates.{register_texts, comma_list}
pub use Rattle.printed_texts.specs.PrintedTypes.{field_name, field_names, method_name, shape_name}
pub use Rattle.printed_texts.specs.NamedTypes.{HaveNames}
pub use Rattle.protocol_script.proofs.ReadLaws.{read_names}
pub use Rattle.protocol_script.specs.PrintedLaw.{HasNames}
pub use Rattle.rules_base.specs.Places.{has_field}
pub use Rattle.toml.proofs.Blanks.{skip_newline, skip_within}
pub use Rattle.toml.proofs.{ReadLines.AllPrinted, ReadLines.run, ReadValues.item_join, ReadValues.item_join-none, ReadValues.item_join-push}
pub use Rattle.toml.proofs.{ReadLines.line_turn, Turns.document_some, Turns.lines_end, Turns.lines_more, Turns.lines_refused}
pub use Rattle.toml.specs.Data.{array, Data, item, Items, table}
pub use Rattle.toml.specs.Data.{get_member, integer, items_depth, items_have_valid_dates, member, Members, no_items, no_members, push_item}
pub use Rattle.toml.specs.Tables.{array_table, close, Document, Expression, key_value, no_nodes, node, Nodes, open_array, value}
pub use Rattle.toml.specs.{Parse.line, Text.breaks_lines, Text.IsItemsText, Text.IsLineText, Text.IsValueText}
pub use Rattle.toml_parser.proofs.LexicalLemmas.{skip_from-nil}
pub use Rattle.toml_parser.specs.Lexical.{skip_blank}
pub use Rattle.toml_writer.specs.Text.{is_control}
pub use Rattle.type_notes.proofs.ListBounds.{each_fails, each_first, each_map, each_read, each_rest}
pub use Rattle.type_notes.proofs.{FieldSetLaws.field_set-fields, NamesFound.nothing_refused, ResolvedTypes.field_set-below}
pub use Rattle.type_notes.proofs.{NamesFound.none_sooner, NotesLaws.known_names-are, NotesLaws.notes_of-notes, OwnerLaws.fails-from_none}
pub use Rattle.type_notes.proofs.{OrderLemmas.neither, OrderLemmas.nothing-at, Outcomes.ok_given, Outcomes.ok_passes, Outcomes.some_if}
pub use Rattle.type_notes.specs.Conditions.{disordered, holds_locals, regs_are_local, stack_is_local}
pub use Rattle.type_notes.specs.Conditions.{has_item_fields, has_item_thunk, regs_have_thunks, stack_has_thunks, stray, written_is_local}
pub use Rattle.type_notes.specs.Locals.{is_field, SomeNames}
pub use Rattle.type_notes.specs.PointLocals.{locals_in, PointLocals, shape_fields}
pub use Rattle.type_notes.specs.{Owners.has_place, Resolved.given_or_left_out, Resolved.left_out, TypeKinds.has_fields, TypeKinds.has_thunk}
pub use mathlib.Core.List.{map-id}
unfoldable pub use Rattle.ebc_base.specs.Names.{is_name}
unfoldable pub use Rattle.note_draft.specs.Drafts.{call_lists, code_lists, data_lists, draft_lists, function_of, point_made, signatures_at}
unfoldable pub use Rattle.note_draft.specs.Drafts.{draft_of, point_of, shape_of, site_of, static_of, thunk_of}
unfoldable pub use Rattle.note_draft.specs.Once.{names_of_calls, names_of_code, names_of_data, once, repeated_in_points, repeated_in_shapes}
unfoldable pub use Rattle.note_draft.specs.Repeats.{first_descent, first_repeat, has_repeat}
unfoldable pub use Rattle.note_draft.specs.{Findings.at, Findings.sooner, Known.known, Known.unknown}
unfoldable pub use Rattle.note_texts.specs.Keys.{document, number_at, only_keys, pair_at, text_at}
unfoldable pub use Rattle.note_texts.specs.Lists.{array_at, each, list_at, rows_of, tables_at, texts_at, texts_beside_at, texts_of}
unfoldable pub use Rattle.note_texts.specs.{CellTexts.field_of, SlotTexts.item_of, SlotTexts.register_of}
unfoldable pub use Rattle.note_types.specs.{Known.local_fields, Records.function_at}
unfoldable pub use Rattle.printed_texts.specs.PrintedStates.{fields_at, point_text, told_up_to}
unfoldable pub use Rattle.printed_texts.specs.{NamedTypes.named_cell, NamedTypes.named_type, PrintedTypes.names_below}
unfoldable pub use Rattle.printed_texts.specs.{PrintedTypes.type_text}
unfoldable pub use Rattle.toml.specs.{Parse.lines, Parse.parse_document, Tables.define}
unfoldable pub use Rattle.toml_writer.specs.Text.{key_text}
unfoldable pub use Rattle.type_notes.specs.Conditions.{first_point, thunkless_points, unmet}
unfoldable pub use Rattle.type_notes.specs.Resolved.{register_type, resolved, resolved_cell, resolved_item, resolved_thunk, resolved_type}
unfoldable pub use Rattle.type_notes.specs.Resolved.{resolved_field, resolved_function, resolved_locals, resolved_point, resolved_shape}
unfoldable pub use Rattle.type_notes.specs.Resolved.{state_of}
unfoldable pub use Rattle.type_notes.specs.{Locals.field_number, Owners.first_stray, PointLocals.locals_fields, PointLocals.point_locals}
unfoldable pub use Rattle.type_notes.specs.{Locals.field_set, Notes.known_names, Notes.notes_in, Notes.notes_of, Owners.owner_of}
