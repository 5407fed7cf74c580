use Rattle.native_host.proofs.StartLaws.{is_entered}
use Rattle.native_host.proofs.starting.entered_bytes.Goals as goal

pub frame_bytes-requires-then-function-clause-entered : goal.frame_bytes-requires-then-function-clause-entered
frame_bytes-requires-then-function-clause-entered g c =
    is_entered c.args.notes.now c.args.number c.args.function.now c.requires.notes c.requires.there c.if-function.true
