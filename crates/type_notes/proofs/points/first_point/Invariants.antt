use Rattle.std.specs.Prelude.{not}
use Rattle.type_notes.proofs.SearchLaws.{NoneBelow}
use Rattle.type_notes.specs.PointLocals.{point_locals}
use Rattle.type_notes.proofs.points.first_point.Given as goal

abbrev pub invariant-loop-item : goal.invariant-loop-item
invariant-loop-item g l = NoneBelow (λ p. not (g.C.PointCheck.passes (point_locals l.names l.draft p.place) p)) l.points l.item
