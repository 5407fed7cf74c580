use Rattle.std.proofs.Common.{◌≡◌, ◌++◌, length}
use Rattle.ebc_asm.specs.Held.{symbols_of}
use Rattle.ebc_asm.proofs.symbols.symbols.Given as goal

abbrev pub invariant-loop-name : goal.invariant-loop-name
invariant-loop-name l =
    (l.symbols.items ++ symbols_of l.name-iterator.rest.items l.rest.rest.items ≡ symbols_of l.fn.names.items l.fn.places.items)
    × (length l.rest.rest.items ≡ length l.name-iterator.rest.items)
