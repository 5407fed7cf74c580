use Rattle.std.proofs.lemmas.Result.{err_from_is_err_and}
use Rattle.bind_texts.specs.BindTexts.{bind_of}
use Rattle.script_draft.specs.Lists.{each_of}
use Rattle.script_draft.proofs.ListLaws.{with_front-none, each-on, each-stop, each-done}
use Rattle.bind_texts.proofs.resolve.resolve_binds.Goals as goal

pub loop-i-init : goal.loop-i-init
loop-i-init c = rw c.new-resolved.ensures.items (with_front-none (each_of (bind_of c.args.a.now c.args.b.now) 0 c.args.binds.now))

pub returns-in_err-resolve_bind : goal.returns-in_err-resolve_bind
returns-in_err-resolve_bind c =
    let p = err_from_is_err_and c.from_residual.result c.from_residual.ensures.1 in
    let gives = bind_of c.args.a.now c.args.b.now in
    rw (p.1, p.2) (each-stop gives c.loop-i.resolved.items c.loop-i.i c.args.binds.now (each_of gives 0 c.args.binds.now)
    c.in_err-resolve_bind.field-0.0 c.index-binds-i.result c.loop-i-test.true c.index-binds-i.is c.in_err-resolve_bind.ensures
    c.loop-i.invariant)

pub loop-i-preserved : goal.loop-i-preserved
loop-i-preserved c =
    let gives = bind_of c.args.a.now c.args.b.now in
    rw c.in_ok-push.ensures.items (each-on gives c.loop-i.resolved.items c.loop-i.i c.args.binds.now (each_of gives 0 c.args.binds.now)
    c.index-binds-i.result c.in_ok-resolve_bind.field-0 c.loop-i-test.true c.index-binds-i.is c.in_ok-resolve_bind.ensures
    c.loop-i.invariant)

pub returns : goal.returns
returns c =
    let gives = bind_of c.args.a.now c.args.b.now in
    rw c.new.ensures (each-done gives c.loop-i.resolved.items c.loop-i.i c.args.binds.now (each_of gives 0 c.args.binds.now)
    c.loop-i-test.false c.loop-i.invariant)
