use Rattle.note_draft.proofs.known.unknown_in_functions.Goals as goal

pub returns : goal.returns
returns c = cc
