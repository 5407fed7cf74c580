use Rattle.type_notes.proofs.OwnerLaws.{AreFound}
use Rattle.type_notes.proofs.owners.find_owners.Given as goal

abbrev pub invariant-loop-number : goal.invariant-loop-number
invariant-loop-number l = AreFound l.functions l.points l.number l.from l.owners.items
