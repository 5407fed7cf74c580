-- What a row unfolds to compute the object of a source: every definition on the way that isn't an abbreviation.
use Rattle.std.specs.Prelude.{⊤}
use Rattle.natural_index.specs.Index.{fields_of}
use Rattle.ebc_insn.specs.Spelling.{bytes_of, field_bytes}
use Rattle.ebc_base.specs.Names.{is_name}
use Rattle.asm_text.specs.Numbers.{decimal_value, digits_from, hex_value, is_numeral, number_value, plain_value}
use Rattle.asm_text.specs.Splits.{cut, halves, lacks, lines_of, pieces, sole, trim_back, trim_front, until}
use Rattle.asm_text.specs.Indexes.{index, least_tag, smallest_of}
use Rattle.asm_text.specs.Operands.{bare, extra, left, near_target, operand_of, right, value}
use Rattle.asm_text.specs.Mnemonics.{form_of, other_form, stem_form, stem_of}
use Rattle.asm_text.specs.Instructions.{insn_in, insn_of}
use Rattle.asm_text.specs.Statements.{directive_of, each_number, numbers_of, statement_of}
use Rattle.asm_text.specs.Lines.{is_ascii, line_in}
use Rattle.ebc_asm.specs.Pieces.{ends_in_data, section_of}
use Rattle.ebc_asm.specs.Symbols.{fixups_in, names_with, place_of}
use Rattle.ebc_asm.specs.Sources.{behind, line_behind, lines_behind, object_in, object_of}

unfoldable pub sources_compute : ⊤
unfolding fields_of bytes_of field_bytes is_name decimal_value digits_from hex_value is_numeral number_value plain_value cut halves lacks
    lines_of pieces sole trim_back trim_front until index least_tag smallest_of bare extra left near_target operand_of right value form_of
    stem_form other_form stem_of insn_in insn_of directive_of each_number numbers_of statement_of is_ascii line_in ends_in_data section_of
    fixups_in names_with place_of behind line_behind lines_behind object_in object_of
sources_compute = tt
