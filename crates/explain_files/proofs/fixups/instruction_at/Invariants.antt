use Rattle.std.specs.Prelude.{◌≤◌, length}
use Rattle.explain_files.proofs.fixups.instruction_at.Given as goal

-- what is decoded next begins in the code or at its end
abbrev pub invariant-loop : goal.invariant-loop
invariant-loop l = l.at ≤ length l.fn.code
