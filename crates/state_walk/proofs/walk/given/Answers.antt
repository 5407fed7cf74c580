use Rattle.std.specs.Prelude.{Some}
use Rattle.state_walk.specs.declared.preceding.Before.{Before}
use Rattle.state_walk.proofs.Standing.{has_insn, with_state}
use Rattle.state_walk.proofs.walk.given.Goals as goal

pub returns-clause-insn : goal.returns-clause-insn
returns-clause-insn c =
    let b : Before = c.at-b.result in
    has_insn c.args.image.now c.args.notes.now c.in_ok-func.func c.in_ok-func.f.now c.args.place (record b { state = Some c.args.state })
    c.in_ok-func.ensures.walk.there
    (with_state c.args.image.now c.in_ok-func.func c.in_ok-func.f.now c.args.place b (Some c.args.state) c.at-b.ensures.insn)
