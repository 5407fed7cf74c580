-- For proofs: the rows of the instructions on data as relations: an instruction meets its row in a state, and goes on at a
-- place with a state; or the first of the rules by which the row's parts fail is named. docs/RULES.md, "The first rule", has
-- the words.
use Rattle.std.specs.Prelude.{◌≡◌, ℕ, Bool, Option, None, slice_get, ℤ, is_none}
use Rattle.ebc_base.specs.Steps.{or_else}
use Rattle.natural_index.specs.declared.Index.{Index}
use Rattle.ebc_insn.specs.declared.ArithOp.{ArithOp}
use Rattle.ebc_insn.specs.declared.CmpOp.{CmpOp}
use Rattle.ebc_insn.specs.declared.Extra.{Extra}
use Rattle.ebc_insn.specs.declared.Insn.{Insn}
use Rattle.ebc_insn.specs.declared.Insn.TheVariants.{Compare, Arith, Move, MoveSigned, MoveImm}
use Rattle.ebc_insn.specs.declared.Operand.{Operand}
use Rattle.ebc_insn.specs.declared.Size.{Size}
use Rattle.note_types.specs.declared.notes.FnNote.{FnNote}
use Rattle.note_types.specs.declared.notes.Notes.{Notes}
use Rattle.note_types.specs.declared.rule.RuleName.{RuleName}
use Rattle.note_types.specs.declared.rule.RuleName.TheVariants as rule
use Rattle.note_types.specs.declared.state.State.{State}
use Rattle.rules_base.specs.declared.access.Access.TheVariants as access
use Rattle.rules_base.specs.declared.change.Change.{Change}
use Rattle.rules_base.specs.declared.here.Here.{Here}
use Rattle.rules_base.specs.Change.{changed}
use Rattle.rules_base.specs.Destinations.{destination, put}
use Rattle.rules_base.specs.FirstRule.{IsFirst, Part, afterwards, alone, broken, only_where, seen, together, under}
use Rattle.rules_base.specs.Operands.{index_distance, nowhere}
use Rattle.rules_base.specs.Values.{form_access, operand_value, register_type}
use Rattle.rules_data.specs.declared.rows.Held.{Held}
use Rattle.rules_data.specs.Arithmetic.{computed_type, divisor_known}
use Rattle.rules_data.specs.Compares.{compares}
use Rattle.rules_data.specs.Data.{flag, held, left_value, move_access, move_value, plain_row, signed_value}
use Rattle.rules_data.specs.Moves.{immediate}

-- ---- the parts of the rows that have several

-- operand 1 that is read and written: its value and the place of the result
unfoldable pub left_part : Notes → FnNote → State → Bool → Operand → Part Held
left_part notes f s wide op =
    seen held (together (alone (left_value notes f s (form_access wide) op nowhere))
    (alone (destination notes f s (form_access wide) op nowhere)))

-- arithmetic: the store and the condition on the divisor need all values
unfoldable pub arith_part : Notes → FnNote → State → ArithOp → Bool → Operand → Operand → Extra → Part Change
arith_part notes f s op wide left right extra =
    afterwards (together (left_part notes f s wide left) (alone (operand_value notes f s (form_access wide) right extra)))
    (λ p. under (alone (put p.0.to (computed_type notes.shape op wide p.0.ty p.1.ty))) (broken rule.Divide (divisor_known op p.1.ty)))

-- CMP: whether they compare needs both values
unfoldable pub compare_part : Notes → FnNote → State → CmpOp → Bool → ℕ → Operand → Extra → Part Change
compare_part notes f s op wide left right extra =
    afterwards (together (alone (register_type s left)) (alone (operand_value notes f s (form_access wide) right extra)))
    (λ p. alone (flag None (compares op wide p.0 p.1.ty)))

-- moves: the store needs the place and the value, and so does the condition that a loaded thunk is made
unfoldable pub move_part : Notes → FnNote → State → Size → Operand → Operand → Option Index → Option Index → Part Change
move_part notes f s size left right lidx ridx =
    afterwards (together (alone (destination notes f s (move_access size) left (index_distance lidx)))
    (alone (move_value notes f s size right ridx)))
    (λ p. under (alone (put p.0 p.1.ty)) (broken rule.Thunk p.1.made))

-- MOVsn
unfoldable pub move_signed_part : Notes → FnNote → State → Operand → Operand → Option Index → Extra → Part Change
move_signed_part notes f s left right lidx extra =
    afterwards (together (alone (destination notes f s access.Signed left (index_distance lidx)))
    (alone (signed_value notes f s right extra)))
    (λ p. alone (put p.0 p.1.ty))

-- MOVI
unfoldable pub move_imm_part : Notes → FnNote → Here → State → Size → ℕ → Operand → Option Index → ℤ → Part Change
move_imm_part notes f here s size bits left lidx imm =
    afterwards (together (alone (immediate notes here.reloc size bits left.indirect imm))
    (alone (destination notes f s (move_access size) left (index_distance lidx))))
    (λ p. alone (put p.1 p.0))

-- ---- all instructions on data

-- an instruction that isn't relocated; in the other rows one rule at most can fail
abbrev pub plain_part : Notes → FnNote → Here → State → Insn → Part Change
plain_part notes f here s (Compare op wide left right extra) = compare_part notes f s op wide left right extra
plain_part notes f here s (Arith op wide left right extra) = arith_part notes f s op wide left right extra
plain_part notes f here s (Move size bits left right lidx ridx) = move_part notes f s size left right lidx ridx
plain_part notes f here s (MoveSigned bits left right lidx extra) = move_signed_part notes f s left right lidx extra
plain_part notes f here s i = alone (plain_row notes f here s i)

-- an instruction: MOVI alone may be relocated
abbrev pub data_part : Notes → FnNote → Here → State → Insn → Part Change
data_part notes f here s (MoveImm size bits left lidx imm) = move_imm_part notes f here s size bits left lidx imm
data_part notes f here s i = only_where (is_none here.reloc) rule.Relocation (plain_part notes f here s i)

-- what an instruction changes
unfoldable pub change_part : Notes → Here → State → Insn → Part Change
change_part notes here s i = afterwards (alone (or_else rule.Function (slice_get notes.function here.func)))
    (λ f. data_part notes f here s i)

-- the instruction meets its row in a state, and goes on at a place with a state
abbrev pub Rule : Notes → Here → State → Insn → ℕ → State → Type 0
Rule notes here s i next post = (next ≡ here.next) × (change : Change) × (change_part notes here s i).gives change
    × (post ≡ changed s change)

-- the first of the rules by which its row fails
abbrev pub FirstRule : Notes → Here → State → Insn → RuleName → Type 0
FirstRule notes here s i r = IsFirst (change_part notes here s i).fails r
