use Rattle.step_sound.proofs.Simulated.{flow_simulated}
use Rattle.step_sound.proofs.flow.sound_flow.Goals as goal

pub returns-clause-simulated : goal.returns-clause-simulated
returns-clause-simulated g c =
    flow_simulated g.row.W c.args.notes.now c.args.here.now c.args.state.now c.args.insn.now _ _ c.requires c.step.ensures.step
