-- The names that several proofs of this crate cite, passed on from one place. Declares nothing.
pub use Rattle.std.proofs.Common.{ap, [], ℕ, ℤ, ◌∙◌, ◌∷◌, ◌≡◌, ◌≤◌, ◌⊎◌}
pub use Rattle.std.proofs.Common.{append-nil, append_assoc, Bool, length-append, length-drop, length-take-le, Option, option_map, replicate}
pub use Rattle.std.proofs.Common.{arith, cond, drop, false, get_or, length, List, None, Ok, refl, Result, Some, subst, subst₂, take, ⊎_elim}
pub use Rattle.std.proofs.Common.{Err, inl, inr, map, not, pos, suc, sym, true, zero, ◌%◌, ◌&&◌, ◌*◌, ◌++◌, ◌+◌, ◌-◌, ◌/◌, ◌<◌, ◌^◌, ◌||◌}
pub use Rattle.std.proofs.lemmas.Bool.{and_from, and_parts, and_right, cases_Bool, cases_lt, cases_order, cond_both, false_from_ne_true}
pub use Rattle.std.proofs.lemmas.Bool.{eq-eqb, eqb-true, le-leb, or_cases, or_from, or_left, or_parts, or_right}
pub use Rattle.std.proofs.lemmas.List.{ext_get_or, get_or-drop, get_or-take, get_or_past, length-map, map-append}
pub use Rattle.std.proofs.lemmas.List.{get_or-append-add, get_or-append_right, get_or_append_left, get_or_default, length-replicate}
pub use Rattle.std.proofs.lemmas.List.Elements.{All-contains, All-head, All-tail, All-weaker, recursion_from_All}
pub use Rattle.std.proofs.lemmas.List.Elements.{All-contains_itself, All-from_recursion, Contains-append_left, Contains-append_right}
pub use Rattle.std.proofs.lemmas.List.Folds.{Any-from_list_any, list_all-append, list_any-append}
pub use Rattle.std.proofs.lemmas.Option.{cond_some, get_or_from_slice_get, same_Some, slice_get-get_or, slice_get_within}
pub use Rattle.std.proofs.{lemmas.Bool.Decides.nat_tests, lemmas.List.Kept.AllPairs-cons, lemmas.Map.Made.Contains-tail, Math.Nat.pow-suc}
pub use Rattle.std.proofs.{lemmas.Grind.flat_map-append, lemmas.Int.ints, Math.Nat.div-div-eq-div-mul}
pub use Rattle.std.specs.List.{AllByRecursion, Any, cons_option, Contains, filter, filter_map, find, flat_map, list_all, list_any}
pub use Rattle.std.specs.Prelude.{All, IfOk, ⊤, ◌*ℤ◌, ◌+ℤ◌, ◌==◌, ◌↔◌}
pub use Rattle.std.specs.Prelude.{AllPairs, bytes_eq, codes, IfSome, if◌then◌else◌, is_some, nat_eq, nat_le, nat_lt, slice_get, slice_index}
pub use Rattle.std.specs.{Int.to_le_bytes, Int.w64, Option.option_and_then, Option.option_map_or, Option.option_or, Option.unwrap_or}
pub use Rattle.asm_text.proofs.Clean.{clean_append, clean_hex, clean_lacks}
pub use Rattle.asm_text.proofs.Fitting.{any_ok, insn_fits, kept_both, kept_made}
pub use Rattle.asm_text.proofs.{CleanLaws.text_good, Digits.hex_read, LabelLaws.label_read, ListLaws.reads_listed, Pieces.until_first}
pub use Rattle.asm_text.specs.Mnemonics.{bits_at, call_form, FormFits, jump_end, jump_form, move_form, signed_form}
pub use Rattle.asm_text.specs.Mnemonics.{compare_form, compare_imm_form, move_imm_form, move_imm_letters, move_letters, relative_letter}
pub use Rattle.asm_text.specs.Splits.{is_empty, trim, without_comment, word_part}
pub use Rattle.asm_text.specs.Statements.{directed, instruction, name, starts_point, Statement}
pub use Rattle.asm_text.specs.{declared.directive.Directive.Directive, declared.fault.AsmFault.AsmFault, declared.listing.Listed.Listed}
pub use Rattle.asm_text.specs.{declared.form.Form.Form, Instructions.InsnFits, Instructions.TakesName, Lines.label_of, Writing.listed_line}
pub use Rattle.asm_text.specs.{Faults.both, Lines.Line, Lines.parted, Lines.statement_in, Names.label_text, Writing.ListedFits}
pub use Rattle.ebc_asm.proofs.FixupLaws.{are_fixups, AreFit, AreFixups}
pub use Rattle.ebc_asm.proofs.{FitLaws.line_fits, FitLaws.LineFits, LineLaws.ends_in, LineSteps.kept_in, StateLaws.Apart, StateLaws.Knows}
pub use Rattle.ebc_asm.proofs.{LineLaws.code_ends, LineLaws.data_ends, NumberLaws.is_there, NumberLaws.same_bytes, PlaceLaws.other_way}
pub use Rattle.ebc_asm.proofs.{LineSteps.apart_in, LineSteps.known_in, PlaceLaws.get_name, StateLaws.KnowsUse, TakeLaws.behind_ok}
pub use Rattle.ebc_asm.specs.Pieces.{bytes_of, data_after, distance_kind, if_there, immediate_size, insn_use, is_distance, use_of}
pub use Rattle.ebc_asm.specs.Sources.{global_is_defined, is_defined, is_instruction, label_is_new}
pub use Rattle.ebc_asm.specs.Symbols.{and_names, ends_after, fixups_of, global_of, is_labelled, is_some_name, makes_global, section_kind}
pub use Rattle.ebc_asm.specs.Symbols.{Ends, fixup_of, flag, from_of, here, Place, start, symbol_of}
pub use Rattle.ebc_base.proofs.{Lists.all_append, Lists.found_within, TableLaws.same_name}
pub use Rattle.ebc_base.specs.{Steps.or_else, Steps.◌>>=◌, Tables.is_named, Tables.name_number, Tables.with_name}
pub use Rattle.ebc_decode.proofs.Laws.{read_length, read_spells, read_well_formed}
pub use Rattle.ebc_decode.proofs.{Again.read_again, Numbers.IsBytes, Numbers.IsBytes-drop, Numbers.signed_fits, Numbers.signed_whole}
pub use Rattle.ebc_decode.specs.declared.DecodeFault.{DecodeFault}
pub use Rattle.ebc_disasm.proofs.{Firsts.pairs_head, Fits.label_fits, Lines.next_lines}
pub use Rattle.ebc_disasm.specs.Listings.{byte_at, if_whole, is_inside, is_of_immediate, takes_label, with_label, without_immediate}
pub use Rattle.ebc_disasm.specs.Listings.{heading, lies_on}
pub use Rattle.ebc_insn.specs.Spelling.{code_of, FitsInt, int_raw, optional_field, spelling, Spells, TargetFits, WellFormed}
pub use Rattle.ebc_insn.specs.{declared.Cond.Cond, declared.Extra.TheVariants.Imm, declared.Insn.Insn, declared.Operand.Operand}
pub use Rattle.ebc_insn.specs.{declared.Size.Size}
pub use Rattle.ebc_link.proofs.FoundLaws.{first_of_all, further}
pub use Rattle.ebc_link.proofs.StandLaws.{IsInside, laid_inside, object_of_laid, Stands, stands}
pub use Rattle.ebc_link.proofs.{BytesLaws.laid_linked, ThereLaws.head_or_later, ThereLaws.joined, ThereLaws.kept, ThereLaws.nowhere}
pub use Rattle.ebc_link.specs.Fixups.{contents_of, far_in, place_of, target_of}
pub use Rattle.ebc_link.specs.Layout.{code_start, contents_from, Laid, laid_with, place_in, text_from}
pub use Rattle.ebc_link.specs.Symbols.{defined_place, Definition, definition_in, definitions_of, is_definition, is_undefined, symbol_place}
pub use Rattle.ebc_link.specs.Symbols.{names_of, undefined_in}
pub use Rattle.ebc_link.specs.{declared.plan.LinkPlan.LinkPlan, Linked.Holds.address, Linked.Holds.bytes, Linked.Holds.words, Linked.Linked}
pub use Rattle.ebc_link.specs.{Linked.fills, Linked.Holds, Linked.IsEntry, Linked.other, Linked.own, Links.entry_in, Links.is_entry}
pub use Rattle.ebc_link.specs.{Linked.IsAddress, Linked.IsFilled, Linked.IsOutside, Linked.number_at, Linked.own_bytes, Linked.StandsAt}
pub use Rattle.ebc_object.specs.Objects.{IsFixup, IsObject, most, section_bytes, width}
pub use Rattle.ebc_object.specs.{declared.object.Fixup.Fixup, declared.object.Object.Object, declared.object.Symbol.Symbol}
pub use Rattle.ebc_width.proofs.ByteLaws.{get_or-window, little_endian-below, little_endian-zeros, overlaid-apart, overlaid-within}
pub use Rattle.ebc_width.proofs.ByteLaws.{length-window, window-append}
pub use Rattle.ebc_width.proofs.Numbers.{get_or-to_le_bytes}
pub use Rattle.ebc_width.specs.Width.{distance_of, signed_at}
pub use Rattle.link_laws.specs.Loads.{IsDecoded, IsNumberBy, IsRead, IsResolved, line_place, LinkedLoads, NameStands, with_immediate}
pub use Rattle.link_laws.specs.{Fixes.LinkedIsOne, Laws.IsListable, Laws.ListsAgain}
pub use Rattle.natural_index.specs.declared.Index.{Index}
pub use Rattle.pe_image.proofs.Pages.{pairs_tail}
pub use Rattle.pe_image.specs.Linked.{Has, IsLinked, section_if, text_sections}
pub use Rattle.pe_image.specs.{declared.image.Image.Image, declared.image.Section.Section, Files.one_unless, Files.zeros, Mapped.moved_byte}
pub use Rattle.pe_image.specs.{Files.rounded, Images.IsBelow, Mapped.AreBytes, Mapped.has_place, Mapped.is_of}
unfoldable pub use Rattle.asm_text.proofs.Clean.{clean}
unfoldable pub use Rattle.asm_text.specs.Instructions.{insn_in, insn_of}
unfoldable pub use Rattle.asm_text.specs.{Lines.line_in, Numbers.hex_text, Splits.lacks, Splits.line_cut, Splits.lines_of, Splits.until}
unfoldable pub use Rattle.asm_text.specs.{Mnemonics.form_of, Mnemonics.stem_of, Numbers.digits_from, Splits.trim_front, Writing.listed_text}
unfoldable pub use Rattle.asm_text.specs.{Mnemonics.other_form, Mnemonics.stem_form, Statements.directive_of, Statements.statement_of}
unfoldable pub use Rattle.ebc_asm.proofs.LineLaws.{ends_of}
unfoldable pub use Rattle.ebc_asm.specs.Sources.{behind, line_behind, lines_behind, object_in, object_of}
unfoldable pub use Rattle.ebc_asm.specs.{Pieces.ends_in_data, Pieces.section_of, Symbols.fixups_in, Symbols.names_with}
unfoldable pub use Rattle.ebc_base.specs.Names.{is_name}
unfoldable pub use Rattle.ebc_decode.specs.Reading.{read}
unfoldable pub use Rattle.ebc_disasm.specs.Listings.{in_section, is_whole, label_before, label_lines, lines_from, listing_of, section_lines}
unfoldable pub use Rattle.ebc_disasm.specs.Listings.{insn_at, is_cut, item_at, labels, named, place_at, text_of, word_at}
unfoldable pub use Rattle.ebc_insn.specs.Spelling.{field_bytes}
unfoldable pub use Rattle.ebc_link.specs.Fixups.{bytes_for, is_near, relocs_of, value_of}
unfoldable pub use Rattle.ebc_link.specs.Layout.{code_end, contents_end, contents_start, homes_from, homes_of, laid_objects, section_from}
unfoldable pub use Rattle.ebc_link.specs.Links.{linked_image, links, links_laid}
unfoldable pub use Rattle.ebc_link.specs.Symbols.{definitions, first_again, first_in, places_of}
unfoldable pub use Rattle.ebc_width.specs.Bytes.{little_endian, overlaid, window}
unfoldable pub use Rattle.pe_image.specs.Files.{file_of, file_sections, next_place, reloc_section, reloc_sections}
unfoldable pub use Rattle.pe_image.specs.{Linked.linked_sections, Mapped.laid, Mapped.mapped, Mapped.moved, Mapped.named_place}
