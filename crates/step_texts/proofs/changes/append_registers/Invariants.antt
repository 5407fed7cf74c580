use Rattle.std.proofs.Common.{◌≡◌, ◌++◌}
use Rattle.step_texts.specs.StepTexts.{lines_below}
use Rattle.step_texts.proofs.changes.append_registers.Given as goal

abbrev pub invariant-loop-register : goal.invariant-loop-register
invariant-loop-register l = l.out.items ≡ l.fn.out.items ++ lines_below l.notes l.registers l.register
