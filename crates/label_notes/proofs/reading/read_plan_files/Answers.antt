use Rattle.std.proofs.lemmas.Result.{err_from_is_err_and}
use Rattle.cli_base.specs.Readings.{◌>>=◌, done}
use Rattle.ebc_link.specs.declared.plan.LinkPlan.{LinkPlan}
use Rattle.file_inputs.specs.Inputs.{input, plan_limit, plan_meaning}
use Rattle.file_inputs.specs.Linkings.{each_object}
use Rattle.file_inputs.proofs.ReadsLaws.{reads-ended, reads-made, reads-then}
use Rattle.label_notes.specs.Requests.{plan_files}
use Rattle.label_notes.proofs.reading.read_plan_files.Goals as goal

pub returns-in_err-plan-clause-reads : goal.returns-in_err-plan-clause-reads
unfolding plan_files
returns-in_err-plan-clause-reads g c =
    let p = err_from_is_err_and c.from_residual.result c.from_residual.ensures.1 in
    rw (p.1, p.2) (reads-ended _ _ _ _ _ _ _ (λ files. input plan_limit plan_meaning 0 c.args.name.now files)
    (λ files (plan : LinkPlan). each_object 0 plan.objects files >>= (λ objects. done (plan, objects)))
    c.in_err-plan.ensures.reads)

pub returns-in-Err-clause-reads : goal.returns-in-Err-clause-reads
unfolding plan_files
returns-in-Err-clause-reads g c =
    reads-then _ _ _ _ _ _ _ c.in_ok-plan.plan _ _ _ c.in_ok-plan.ensures.reads
    (reads-ended _ _ _ _ _ _ c.in-Err.end (λ files. each_object 0 c.in_ok-plan.plan.objects files)
    (λ files objects. done (c.in_ok-plan.plan, objects)) (rw c.as_slice.ensures at c.in-Err.ensures.reads))

pub returns-in-Ok-clause-reads : goal.returns-in-Ok-clause-reads
unfolding plan_files
returns-in-Ok-clause-reads g c =
    reads-then _ _ _ _ _ _ _ c.in_ok-plan.plan _ _ _ c.in_ok-plan.ensures.reads
    (reads-made _ _ _ _ _ _ c.in-Ok.objects (λ files. each_object 0 c.in_ok-plan.plan.objects files)
    (λ objects. (c.in_ok-plan.plan, objects)) (rw c.as_slice.ensures at c.in-Ok.ensures.reads))
