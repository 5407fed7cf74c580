use Rattle.std.proofs.Common.{◌≡◌, map, take}
use Rattle.type_notes.proofs.resolve.resolve_all.Given as goal

abbrev pub invariant-loop-item : goal.invariant-loop-item
invariant-loop-item g l = l.values.items ≡ map (g.T.Resolve.resolved l.names) (take l.item-index l.items)
