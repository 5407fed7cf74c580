use Rattle.type_notes.specs.Owners.{EndBy}
use Rattle.type_notes.proofs.owners.owner_from.Given as goal

abbrev pub invariant-loop-number : goal.invariant-loop-number
invariant-loop-number l = EndBy l.functions l.number l.place
