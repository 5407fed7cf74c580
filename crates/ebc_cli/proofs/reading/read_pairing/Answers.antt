use Rattle.ebc_cli.proofs.Common.{refl, number_meaning, pair_step_limit, pair_files, pairing, reads-made, reads-told}
use Rattle.ebc_cli.specs.declared.work.Work.TheVariants as works
use Rattle.ebc_cli.proofs.reading.read_pairing.Goals as goal

pub returns : goal.returns
unfolding pairing
returns g c =
    let read = c.in_ok-a in
    record {
      reads = reads-told _ _ _ _ _ _ (number_meaning pair_step_limit 8 c.args.digits.now) c.in_ok-steps.steps _ _
          (rw c.as_str.ensures at c.in_ok-steps.ensures.meaning)
          (reads-made _ _ _ _ _ _ (read.a, read.b, read.binds) (pair_files c.args.a.now c.args.b.now c.args.binds.now)
          (λ read. works.Pair read.0 read.1 read.2 c.in_ok-steps.steps) (rw c.as_str-2.ensures at read.ensures.reads));
      work = read.ensures.read;
      name = refl;
    }
