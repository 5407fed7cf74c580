use Rattle.stack_needs.proofs.Common.{arith}
use Rattle.rules_image.proofs.Decoding.{is_decoded}
use Rattle.stack_needs.proofs.walk.Code.insn_at.Goals as goal

pub returns-in-Ok-clause-decoded : goal.returns-in-Ok-clause-decoded
returns-in-Ok-clause-decoded c =
    let size = c.requires.code.size in
    is_decoded c.args.self.now.image.now c.args.self.now.f.now c.args.code.now c.args.place c.in-Ok.insn c.in-Ok.len c.requires.code
    (λ i. omega (arith, c.type_inv.code i)) (omega arith) (omega arith) c.in-Ok.ensures.reading c.in-Ok.ensures.length.1
