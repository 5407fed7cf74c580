use Rattle.typing_laws.proofs.Rooms.{sound_room, room_fits}
use Rattle.typing_laws.proofs.rules_fit_stack.Goals as goal

pub returns-clause-sound : goal.returns-clause-sound
returns-clause-sound c = sound_room

pub returns-clause-rule : goal.returns-clause-rule
returns-clause-rule c = room_fits
