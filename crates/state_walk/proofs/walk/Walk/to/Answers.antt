use Rattle.std.proofs.Common.{subst}
use Rattle.state_walk.specs.Standing.{IsBeforeInsn}
use Rattle.state_walk.proofs.Standing.{has_insn, has_state}
use Rattle.state_walk.proofs.walk.Walk.to.Goals as goal

pub returns-then-b-place-clause-insn : goal.returns-then-b-place-clause-insn
returns-then-b-place-clause-insn c =
    let w = c.args.self.now in
    has_insn w.image.now w.notes.now w.func w.f.now c.args.place c.loop-b.b c.requires.walk.there
    (subst (λ p. IsBeforeInsn w.image.now w.func w.f.now p c.loop-b.b) c.if-b-place.true c.loop-b.invariant.insn)

pub returns-then-b-place-clause-state : goal.returns-then-b-place-clause-state
returns-then-b-place-clause-state c =
    let w = c.args.self.now in
    has_state w.image.now w.notes.now w.func w.f.now c.args.place c.loop-b.b c.requires.walk.there c.loop-b.invariant c.if-b-place.true
