use Rattle.note_infer.proofs.Common.{arith, is_decoded, not_decoded, state_at}
use Rattle.note_infer.proofs.Failing.{no_insn}
use Rattle.note_infer.proofs.walk.Walk.step.Goals as goal

pub returns-in_default-clause-fails : goal.returns-in_default-clause-fails
returns-in_default-clause-fails c =
    no_insn c.args.self.now.image.now c.args.self.now.notes.now c.args.self.now.leaders.now
    (state_at c.args.self.now.leaders.now c.args.coming.now.before.items) c.args.self.now.func c.args.self.now.f.now c.args.at
    c.args.state.now
    (not_decoded c.args.self.now.image.now c.args.self.now.f.now c.args.code.now c.args.at c.requires.code c.requires.from
    (omega arith) c.in_default.ensures.none)

pub pass-requires-clause-decode : goal.pass-requires-clause-decode
pass-requires-clause-decode c =
    is_decoded c.args.self.now.image.now c.args.self.now.f.now c.args.code.now c.args.at c.in-Ok.insn c.in-Ok.len c.requires.code
    (λ i. omega (arith, c.type_inv.code i)) c.requires.from (omega arith) c.in-Ok.ensures.reading c.in-Ok.ensures.length.1
