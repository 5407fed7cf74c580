use Rattle.run_trace.proofs.BeforeLaws.{on-ok}
use Rattle.run_trace.proofs.ToldLaws.{state-is}
use Rattle.run_trace.proofs.telling.append_state.Goals as goal

pub returns : goal.returns
returns g c =
    on-ok c.append_changed.result c.append_changed.ensures (λ changes.
    state-is g.row.W c.args.program.image.now c.args.program.notes.now c.args.program.script.now c.args.runner.now c.in_ok-before.before
    c.args.calls.now c.holdings.result _ _ _ _ c.in_ok-append_holdings.ensures c.holdings.ensures c.in_ok-append_opened.ensures
    (λ v r s size. changes c.args.program.image.now v r s c.requires.image size) c.in_ok-before.ensures.start)
