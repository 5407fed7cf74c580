use Rattle.protocol_script.proofs.Common.{◌+◌, refl, err_from_is_err_and, pass-on, pass-stop, pass-done, table_passes, tables_pass}
use Rattle.protocol_script.proofs.tables.tables_pass.Goals as goal

pub loop-i-init : goal.loop-i-init
unfolding tables_pass
loop-i-init c = refl

pub returns-in_err-table_passes : goal.returns-in_err-table_passes
returns-in_err-table_passes c =
    let p = err_from_is_err_and c.from_residual.result c.from_residual.ensures.1 in
    let t = c.args.trial in
    rw (p.1, p.2) (pass-stop (λ i o. table_passes t.condition t.notes.now t.made.now c.args.path.now
    (c.args.first + i) i o) c.loop-i.i c.args.objects.now
    (tables_pass t.condition t.notes.now t.made.now c.args.path.now c.args.first c.args.objects.now) c.in_err-table_passes.field-0.0
    c.index-objects-i.result c.loop-i-test.true c.index-objects-i.is c.in_err-table_passes.ensures c.loop-i.invariant)

pub loop-i-preserved : goal.loop-i-preserved
loop-i-preserved c =
    let t = c.args.trial in
    pass-on (λ i o. table_passes t.condition t.notes.now t.made.now c.args.path.now (c.args.first + i) i o) c.loop-i.i c.args.objects.now
    (tables_pass t.condition t.notes.now t.made.now c.args.path.now c.args.first c.args.objects.now) c.index-objects-i.result
    c.loop-i-test.true c.index-objects-i.is c.in_ok-table_passes.ensures c.loop-i.invariant

pub returns : goal.returns
returns c =
    let t = c.args.trial in
    pass-done (λ i o. table_passes t.condition t.notes.now t.made.now c.args.path.now (c.args.first + i) i o) c.loop-i.i c.args.objects.now
    (tables_pass t.condition t.notes.now t.made.now c.args.path.now c.args.first c.args.objects.now) c.loop-i-test.false
    c.loop-i.invariant
