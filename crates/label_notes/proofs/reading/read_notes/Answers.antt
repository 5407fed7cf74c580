use Rattle.std.proofs.lemmas.Result.{err_from_is_err_and}
use Rattle.std.specs.Prelude.{ℕ, List}
use Rattle.cli_base.specs.Readings.{◌>>=◌, done}
use Rattle.ebc_link.specs.declared.plan.LinkPlan.{LinkPlan}
use Rattle.ebc_object.specs.declared.object.Object.{Object}
use Rattle.pe_image.specs.declared.image.Image.{Image}
use Rattle.file_inputs.proofs.ReadsLaws.{reads-ended, reads-made, reads-then}
use Rattle.label_notes.specs.Requests.{notes_request, plan_files, text_with_image}
use Rattle.label_notes.specs.declared.request.Request.TheVariants as requests
use Rattle.label_notes.proofs.reading.read_notes.Goals as goal

pub returns-in_err-plan-clause-reads : goal.returns-in_err-plan-clause-reads
unfolding notes_request
returns-in_err-plan-clause-reads g c =
    let p = err_from_is_err_and c.from_residual.result c.from_residual.ensures.1 in
    rw (p.1, p.2) (reads-ended _ _ _ _ _ _ _ (λ files. plan_files c.args.plan_name.now files)
    (λ files (read : LinkPlan × List Object). text_with_image c.args.plan_name.now read.0 read.1 c.args.name files
    >>= (λ more. done (requests.Notes read.0 read.1 more.1 c.args.name more.0))) c.in_err-plan.ensures.reads)

pub returns-in-Err-clause-reads : goal.returns-in-Err-clause-reads
unfolding notes_request
returns-in-Err-clause-reads g c =
    let read = c.in_ok-plan in
    reads-then _ _ _ _ _ _ _ (read.plan, read.objects) _ _ _ read.ensures.reads
    (reads-ended _ _ _ _ _ _ c.in-Err.end (λ files. text_with_image c.args.plan_name.now read.plan read.objects c.args.name files)
    (λ files (more : List ℕ × Image). done (requests.Notes read.plan read.objects more.1 c.args.name more.0))
    (rw (c.as_slice.ensures, c.as_str.ensures) at c.in-Err.ensures.reads))

pub returns-in-Ok-clause-reads : goal.returns-in-Ok-clause-reads
unfolding notes_request
returns-in-Ok-clause-reads g c =
    let read = c.in_ok-plan in
    reads-then _ _ _ _ _ _ _ (read.plan, read.objects) _ _ _ read.ensures.reads
    (reads-made _ _ _ _ _ _ (c.in-Ok.text, c.in-Ok.image)
    (λ files. text_with_image c.args.plan_name.now read.plan read.objects c.args.name files)
    (λ more. requests.Notes read.plan read.objects more.1 c.args.name more.0)
    (rw (c.as_slice.ensures, c.as_str.ensures) at c.in-Ok.ensures.reads))
