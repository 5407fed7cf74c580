use Rattle.ebc_link.proofs.Common.{◌≡◌, ◌++◌, drop, flat_map, relocs_in, laid_in}
use Rattle.ebc_link.proofs.resolved.Resolved.append_relocs.Given as goal

abbrev pub invariant-loop-number : goal.invariant-loop-number
invariant-loop-number l =
    l.relocs.items ++ flat_map (relocs_in l.section) (drop l.number (laid_in l.self))
    ≡ l.fn.relocs.items ++ flat_map (relocs_in l.section) (laid_in l.self)
