use Rattle.width_checker.proofs.Common.{arith}
use Rattle.rules_image.proofs.Decoding.{is_decoded, not_decoded}
use Rattle.width_checker.proofs.Failing.{no_insn}
use Rattle.width_checker.proofs.walk.Walk.step.Goals as goal

pub returns-in_default-clause-fails : goal.returns-in_default-clause-fails
returns-in_default-clause-fails c =
    no_insn c.args.self.now.image.now c.args.self.now.notes.now c.args.self.now.func c.args.self.now.f.now c.args.at
    (not_decoded c.args.self.now.image.now c.args.self.now.f.now c.args.code.now c.args.at c.requires.code c.requires.from
    (omega arith) c.in_default.ensures.none)

pub pass-requires-clause-decode : goal.pass-requires-clause-decode
pass-requires-clause-decode c =
    is_decoded c.args.self.now.image.now c.args.self.now.f.now c.args.code.now c.args.at c.in-Ok.insn c.in-Ok.len c.requires.code
    (λ i. omega (arith, c.type_inv.code i)) c.requires.from (omega arith) c.in-Ok.ensures.reading c.in-Ok.ensures.length.1
