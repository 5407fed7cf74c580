use Rattle.note_draft.proofs.known.unknown_in_points.Goals as goal

pub returns : goal.returns
returns c = cc
