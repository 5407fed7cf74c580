use Rattle.std.proofs.lemmas.Result.{err_from_is_err_and}
use Rattle.bind_texts.specs.BindTexts.{bind_passes}
use Rattle.bind_texts.proofs.AgreeLaws.{agree_all, same_item}
use Rattle.script_draft.specs.Lists.{all_pass}
use Rattle.script_draft.proofs.ListLaws.{pass-on, pass-stop, pass-done}
use Rattle.bind_texts.proofs.agreeing.all_agree.Goals as goal

pub returns-in_err-agrees-clause-passes : goal.returns-in_err-agrees-clause-passes
returns-in_err-agrees-clause-passes c =
    let p = err_from_is_err_and c.from_residual.result c.from_residual.ensures.1 in
    let check = bind_passes c.args.a.now c.args.b.now in
    rw (p.1, p.2) (pass-stop check c.loop-i.i c.args.binds.now (all_pass check 0 c.args.binds.now) c.in_err-agrees.field-0.0 _
    c.loop-i-test.true (same_item c.args.binds.now c.loop-i.i _ c.loop-i-test.true) c.in_err-agrees.ensures c.loop-i.invariant)

pub loop-i-preserved : goal.loop-i-preserved
loop-i-preserved c =
    let check = bind_passes c.args.a.now c.args.b.now in
    pass-on check c.loop-i.i c.args.binds.now (all_pass check 0 c.args.binds.now) _ c.loop-i-test.true
    (same_item c.args.binds.now c.loop-i.i _ c.loop-i-test.true) c.in_ok-agrees.ensures c.loop-i.invariant

pub returns-clause-passes : goal.returns-clause-passes
returns-clause-passes c =
    let check = bind_passes c.args.a.now c.args.b.now in
    pass-done check c.loop-i.i c.args.binds.now (all_pass check 0 c.args.binds.now) c.loop-i-test.false c.loop-i.invariant

pub returns-clause-agree : goal.returns-clause-agree
returns-clause-agree c = agree_all c.args.a.now c.args.b.now c.args.binds.now (returns-clause-passes c)
