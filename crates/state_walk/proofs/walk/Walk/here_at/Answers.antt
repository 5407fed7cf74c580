use Rattle.width_checker.proofs.Leading.{decode_later}
use Rattle.state_walk.proofs.walk.Walk.here_at.Goals as goal

pub relocation-requires-clause-later : goal.relocation-requires-clause-later
relocation-requires-clause-later c =
    let w = c.args.self.now in
    decode_later w.image.now w.f.now c.args.place c.in-Some.next c.in-Some.insn
    (c.requires.insn c.in-Some.insn c.in-Some.next c.in-Some.is)
