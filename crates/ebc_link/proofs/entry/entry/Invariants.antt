use Rattle.ebc_link.proofs.Common.{◌≡◌, drop, find, is_entry}
use Rattle.ebc_link.proofs.entry.entry.Given as goal

abbrev pub invariant-loop-symbol : goal.invariant-loop-symbol
invariant-loop-symbol l = find (is_entry l.name l.size) (drop l.symbol-index l.symbols) ≡ find (is_entry l.name l.size) l.symbols
