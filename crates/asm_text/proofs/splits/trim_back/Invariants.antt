use Rattle.std.proofs.Common.{◌≡◌, ◌+◌, ◌≤◌, length, take}
use Rattle.asm_text.specs.Splits.{trim_back}
use Rattle.asm_text.proofs.splits.trim_back.Given as goal

abbrev pub invariant-loop : goal.invariant-loop
invariant-loop l = (trim_back (take l.kept l.text) ≡ trim_back l.text) × (l.kept + l.counter ≤ length l.text)
