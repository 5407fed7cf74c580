use Rattle.std.proofs.Common.{◌≡◌, ◌+◌, ◌*◌, ◌≤◌, ◌++◌, length}
use Rattle.asm_text.proofs.PieceLaws.{Reads, listed}
use Rattle.asm_text.proofs.statements.Numbers.append_to.Given as goal

abbrev pub invariant-loop : goal.invariant-loop
invariant-loop l =
    Reads l.self.bits l.rest × (l.out.items ++ listed l.self.bits l.rest ≡ l.fn.out.items ++ listed l.self.bits l.self.text.now)
    × (length l.rest + 2 * l.counter ≤ length l.self.text.now)
