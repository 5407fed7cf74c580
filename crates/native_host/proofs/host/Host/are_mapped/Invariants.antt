use Rattle.native_host.proofs.Common.{◌≡◌, drop, ranges, placement_of, are_mapped}
use Rattle.native_host.proofs.host.Host.are_mapped.Given as goal

abbrev pub invariant-loop-write : goal.invariant-loop-write
invariant-loop-write g l =
    are_mapped g.row.W l.notes (placement_of l.self.places) l.self.made.items (ranges l.mem) (drop l.write-index l.writes)
    ≡ are_mapped g.row.W l.notes (placement_of l.self.places) l.self.made.items (ranges l.mem) l.writes
