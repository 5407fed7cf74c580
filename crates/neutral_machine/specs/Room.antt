-- For proofs: how far an instruction makes the stack grow, and that there is room for it. docs/SIMULATION.md, "What the laws
-- say".
use Rattle.std.specs.Prelude.{ℕ, ◌+◌, ◌≤◌, true, false, List, [], ◌∷◌, Option, Some, None, is_none, nat_eq, not, ◌&&◌, if◌then◌else◌}
use Rattle.natural_index.specs.declared.Index.{Index}
use Rattle.ebc_insn.specs.declared.Operand.{Operand}
use Rattle.ebc_insn.specs.declared.Insn.{Insn}
use Rattle.ebc_insn.specs.declared.Insn.TheVariants as insns
use Rattle.note_types.specs.Shapes.{size_at}
use Rattle.note_types.specs.declared.shape.Shape.{Shape}
use Rattle.neutral_machine.specs.Config.{Config, Frame, Function, Host, locals_among}
use Rattle.neutral_machine.specs.Layout.{total}
use Rattle.host_model.specs.Placements.{slot_bytes, return_cell, stack_bytes}
use Rattle.host_model.specs.World.{World, frame_locals}
use Rattle.neutral_machine.specs.Operands.{plainly}
use Rattle.neutral_machine.specs.Rows.{is_stack_pointer, form_kind}

-- the bytes of a shape that may be left out
abbrev pub size_if : ℕ → Option Shape → ℕ
size_if w None = 0
size_if w (Some s) = size_at w s

-- the bytes of the function's locals, where they aren't there yet
abbrev pub locals_growth : ℕ → World → List Frame → ℕ
locals_growth w world [] = 0
locals_growth w world (Host h ∷ fs) = 0
locals_growth w world (Function f ∷ fs) = if is_none (locals_among f.items) then size_if w (frame_locals world.notes f.func) else 0

-- R0 moved down makes the locals
abbrev pub index_growth : ℕ → World → Config → Option Index → ℕ
index_growth w world a None = 0
index_growth w world a (Some i) = if i.neg && not (nat_eq i.units 0 && nat_eq i.bytes 0) then locals_growth w world a.frames else 0

abbrev pub move_growth : ℕ → World → Config → Operand → Option Index → ℕ
move_growth w world a left ridx = if is_stack_pointer (plainly left) then index_growth w world a ridx else 0

-- the bytes that an instruction puts on the stack: a slot, a return cell, the locals
abbrev pub growth : ℕ → World → Config → Insn → ℕ
growth w world a (insns.Push wide op extra) = slot_bytes w (form_kind wide)
growth w world a (insns.PushNatural op extra) = w
growth w world a (insns.Call far false relative op extra) = return_cell
growth w world a (insns.Call far true relative op extra) = 0
growth w world a (insns.Move size bits left right lidx ridx) = move_growth w world a left ridx
growth w world a i = 0

-- the stack has room for it
abbrev pub HasRoom : ℕ → World → Config → Insn → Type 0
HasRoom w world a i = growth w world a i + total w a.frames ≤ stack_bytes w world.notes
