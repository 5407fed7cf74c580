-- For proofs: which forms of instruction a part of the step is for. docs/MACHINE.md, "Moves" and "The stack".
use Rattle.std.specs.Prelude.{⊤}
use Rattle.ebc_insn.specs.declared.Insn.{Insn}
use Rattle.ebc_insn.specs.declared.Insn.TheVariants as insns

-- An instruction moves, or loads or stores a special register.
abbrev pub IsMove : Insn → Type 0
IsMove (insns.Move size bits left right lidx ridx) = ⊤
IsMove (insns.MoveSigned bits left right lidx extra) = ⊤
IsMove (insns.MoveImm size bits left lidx imm) = ⊤
IsMove (insns.MoveImmNatural bits left lidx idx) = ⊤
IsMove (insns.MoveRelative bits left lidx imm) = ⊤
IsMove (insns.LoadSpecial from) = ⊤
IsMove (insns.StoreSpecial to special) = ⊤
IsMove i = ⊥

-- An instruction pushes or pops.
abbrev pub IsPushOrPop : Insn → Type 0
IsPushOrPop (insns.Push wide op extra) = ⊤
IsPushOrPop (insns.Pop wide op extra) = ⊤
IsPushOrPop (insns.PushNatural op extra) = ⊤
IsPushOrPop (insns.PopNatural op extra) = ⊤
IsPushOrPop i = ⊥
