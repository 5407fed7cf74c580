use Rattle.ebc_cli.proofs.Common.{refl, number_meaning, step_limit, run_files, twinning, reads-made, reads-told}
use Rattle.ebc_cli.specs.declared.work.Work.TheVariants as works
use Rattle.ebc_cli.proofs.reading.read_twinning.Goals as goal

pub returns : goal.returns
unfolding twinning
returns g c =
    let read = c.in_ok-image in
    record {
      reads = reads-told _ _ _ _ _ _ (number_meaning step_limit 4 c.args.digits.now) c.in_ok-steps.steps _ _
          (rw c.as_str.ensures at c.in_ok-steps.ensures.meaning)
          (reads-made _ _ _ _ _ _ (read.image, read.notes, read.script) (run_files 1 c.args.image.now c.args.notes.now c.args.script.now)
          (λ read. works.Twin read.0 read.1 read.2 c.in_ok-steps.steps)
          (rw (c.as_str-2.ensures, c.as_str-3.ensures, c.as_str-4.ensures) at read.ensures.reads));
      work = (read.ensures.image, read.ensures.notes, read.ensures.script);
      name = refl;
    }
