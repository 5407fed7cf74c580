-- The promises, from the laws of rounds and of the points that are found.
use Rattle.note_infer.specs.Promises.{FoundAreNotes, FoundIsTyped, RoundsBegin, RoundsEnd}
use Rattle.note_infer.proofs.{Found.found_typed, PointNotes.found_notes, PointNotes.marked_notes, RoundLaws.first_rank}
use Rattle.note_infer.proofs.{RoundLaws.round_falls, RoundStates.after_found, RoundStates.round_room}

pub rounds_end : RoundsEnd
rounds_end image notes leaders rounds states next g round =
    let m = marked_notes notes g.read image leaders g.all g.few in
    let found = after_found image notes leaders m rounds states g.after in
    round_falls image notes leaders states g.all (round_room image notes leaders states m found) next round

pub rounds_begin : RoundsBegin
rounds_begin leaders states h = first_rank leaders states h

pub found_are_notes : FoundAreNotes
found_are_notes image notes leaders rounds states g = found_notes image notes leaders states rounds g.read g.all g.few g.after

pub found_is_typed : FoundIsTyped
found_is_typed = found_typed
