use Rattle.note_types.specs.Places.{AreFirsts}
use Rattle.note_types.proofs.placed_list.first_numbers.Given as goal

abbrev pub invariant-loop-number : goal.invariant-loop-number
invariant-loop-number g l = AreFirsts g.T.Placed.place_of l.things l.number l.firsts
