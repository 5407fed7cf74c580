use Rattle.std.proofs.Common.{◌≡◌, ◌+◌, ◌*◌, ◌≤◌, length}
use Rattle.asm_text.proofs.PieceLaws.{checked}
use Rattle.asm_text.proofs.statements.are_numbers.Given as goal

abbrev pub invariant-loop : goal.invariant-loop
invariant-loop l = (checked l.bits l.rest ≡ checked l.bits l.text) × (length l.rest + 2 * l.counter ≤ length l.text)
