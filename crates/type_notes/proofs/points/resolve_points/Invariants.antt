use Rattle.std.proofs.Common.{◌≡◌, map, take}
use Rattle.type_notes.specs.Resolved.{resolved_point}
use Rattle.type_notes.proofs.points.resolve_points.Given as goal

abbrev pub invariant-loop-item : goal.invariant-loop-item
invariant-loop-item l = l.points.items ≡ map (resolved_point l.names l.draft) (take l.item l.drafts)
