use Rattle.native_host.proofs.Common.{◌≡◌, map, take, size_at}
use Rattle.native_host.proofs.starting.sizes_of.Given as goal

abbrev pub invariant-loop-shape : goal.invariant-loop-shape
invariant-loop-shape g l = l.sizes.items ≡ map (size_at g.row.W) (take l.shape-index l.notes.shape)
