-- Meaning: what the code writes of its texts, and the lines of a listing: docs/ASSEMBLY.md, "Listings".
use Rattle.std.specs.Prelude.{◌≡◌, ⊤, ℕ, ◌^◌, ◌<◌, List, [], ◌∷◌, ◌++◌, Option, Some, None, option_map, if◌then◌else◌, codes, ◌-◌, Ok}
use Rattle.std.specs.Fmt.{decimal, signed_decimal}
use Rattle.ebc_insn.specs.declared.Insn.{Insn}
use Rattle.ebc_insn.specs.Spelling.{WellFormed}
use Rattle.asm_text.specs.declared.texts.IndexText.{IndexText}
use Rattle.asm_text.specs.declared.texts.IndexText.TheVariants as indexes
use Rattle.asm_text.specs.declared.texts.Beside.{Beside}
use Rattle.asm_text.specs.declared.texts.Beside.TheVariants as besides
use Rattle.asm_text.specs.declared.texts.OperandText.{OperandText}
use Rattle.asm_text.specs.declared.texts.Slot.{Slot}
use Rattle.asm_text.specs.declared.texts.Slot.TheVariants as slots
use Rattle.asm_text.specs.declared.texts.OperandTexts.{OperandTexts}
use Rattle.asm_text.specs.declared.texts.OperandTexts.TheVariants as operands
use Rattle.asm_text.specs.declared.texts.InsnText.{InsnText}
use Rattle.asm_text.specs.declared.listing.Listed.{Listed}
use Rattle.asm_text.specs.declared.listing.Listed.TheVariants as listed
use Rattle.asm_text.specs.Numbers.{hex_text}
use Rattle.asm_text.specs.Names.{label_text}
use Rattle.asm_text.specs.Indexes.{pair_text, raw_text}
use Rattle.asm_text.specs.Operands.{special_text}
use Rattle.asm_text.specs.Instructions.{NameFits, insn_in, insn_text, line_of, pair}
use Rattle.asm_text.specs.Statements as statements
use Rattle.asm_text.specs.Lines.{Line, line_in, unlabelled}
use Rattle.ebc_width.specs.Width.{signed_at}

-- ---- operands

abbrev pub index_shown : IndexText → List ℕ
index_shown (indexes.Pair neg n c) = pair_text neg n c
index_shown (indexes.Word n) = raw_text 16 n
index_shown (indexes.Dword n) = raw_text 32 n
index_shown (indexes.Qword n) = raw_text 64 n

abbrev pub beside_shown : Beside → List ℕ
beside_shown besides.Nothing = []
beside_shown (besides.Imm v) = 32 ∷ signed_decimal v
beside_shown (besides.Idx i) = index_shown i

abbrev pub operand_shown : OperandText → List ℕ
operand_shown o =
    if o.indirect then 64 ∷ 82 ∷ (decimal o.reg ++ beside_shown o.beside) else 82 ∷ (decimal o.reg ++ beside_shown o.beside)

abbrev pub slot_shown : Slot → List ℕ
slot_shown (slots.Operand o) = operand_shown o
slot_shown (slots.Number v) = signed_decimal v
slot_shown (slots.Code n) = decimal n
slot_shown (slots.Label place) = label_text place
slot_shown (slots.Index i) = index_shown i
slot_shown slots.Flags = special_text 0
slot_shown slots.Pointer = special_text 1

abbrev pub operands_shown : OperandTexts → Option (List ℕ)
operands_shown operands.Nothing = None
operands_shown (operands.One s) = Some (slot_shown s)
operands_shown (operands.Two s t) = Some (pair (slot_shown s) (slot_shown t))

abbrev pub insn_shown : InsnText → List ℕ
insn_shown t = line_of (t.form, operands_shown t.operands)

-- ---- the lines of a listing

-- the label in place of an immediate
abbrev pub place_name : Option ℕ → Option (List ℕ)
place_name place = option_map label_text place

-- a line of a listing, without its line feed
unfoldable pub listed_text : Listed → List ℕ
listed_text listed.Code = codes ".code"
listed_text listed.Data = codes ".data"
listed_text (listed.Label place) = label_text place ++ codes ":"
listed_text (listed.Global place) = codes ".global " ++ label_text place
listed_text (listed.Place place) = codes ".dq " ++ label_text place
listed_text (listed.Word n) = codes ".dw 0x" ++ hex_text 4 n
listed_text (listed.Byte n) = codes ".db 0x" ++ hex_text 2 n
listed_text (listed.Instruction i place) = insn_text i (place_name place)

-- What may stand in a listing: well-formed instructions, with a label where one can stand.
abbrev pub ListedFits : Listed → Type 0
ListedFits (listed.Instruction i place) = WellFormed i × NameFits i (place_name place)
ListedFits (listed.Label place) = place < 2 ^ 32
ListedFits (listed.Global place) = place < 2 ^ 32
ListedFits (listed.Place place) = place < 2 ^ 32
ListedFits (listed.Word n) = n < 2 ^ 16
ListedFits (listed.Byte n) = n < 2 ^ 8
ListedFits l = ⊤

-- what a line of a listing says
abbrev pub listed_line : Listed → Line
listed_line listed.Code = unlabelled (Some statements.Code)
listed_line listed.Data = unlabelled (Some statements.Data)
listed_line (listed.Label place) = record { label = Some (label_text place); statement = None }
listed_line (listed.Global place) = unlabelled (Some (statements.Global (label_text place)))
listed_line (listed.Place place) = unlabelled (Some (statements.Place (label_text place)))
listed_line (listed.Word n) = unlabelled (Some (statements.Numbers 16 (signed_at 16 n ∷ [])))
listed_line (listed.Byte n) = unlabelled (Some (statements.Numbers 8 (signed_at 8 n ∷ [])))
listed_line (listed.Instruction i place) = unlabelled (Some (statements.Instruction i (place_name place)))

-- A line of a listing is read as what it says.
abbrev pub ReadsListed : Type 0
ReadsListed = (l : Listed) → ListedFits l → line_in (listed_text l) ≡ Ok (listed_line l)

-- The text of an instruction, with a name in place of its immediate or without, is read as that instruction and that name.
abbrev pub ReadsWritten : Type 0
ReadsWritten = (i : Insn) (name : Option (List ℕ)) → WellFormed i → NameFits i name → insn_in (insn_text i name) ≡ Ok (i, name)
