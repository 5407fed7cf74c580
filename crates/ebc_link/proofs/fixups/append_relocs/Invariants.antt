use Rattle.ebc_link.proofs.Common.{◌≡◌, ◌++◌, map, take, filter, is_address, place_of}
use Rattle.ebc_link.proofs.fixups.append_relocs.Given as goal

abbrev pub invariant-loop-fixup : goal.invariant-loop-fixup
invariant-loop-fixup l =
    l.relocs.items ≡ l.fn.relocs.items ++ map (place_of l.home) (filter (is_address l.section) (take l.fixup-index l.fixups))
