-- For proofs: operands that are a register itself.
use Rattle.std.specs.Prelude.{ℕ, Bool, not, ◌&&◌, nat_eq}
use Rattle.ebc_insn.specs.declared.Operand.{Operand}

-- the operand is a register itself
abbrev pub is_register_itself : ℕ → Operand → Bool
is_register_itself r op = not op.indirect && nat_eq op.reg r

-- it is R7 itself
abbrev pub is_r7 : Operand → Bool
is_r7 op = is_register_itself 7 op
