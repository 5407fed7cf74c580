use Rattle.ebc_cli.proofs.Common.{err_from_is_err_and, done, told, reads-ended, reads-refused, reads-then}
use Rattle.file_inputs.specs.Inputs.{taking_meaning}
use Rattle.ebc_cli.specs.Works.{rom_taking_of}
use Rattle.ebc_cli.specs.declared.work.Work.TheVariants as works
use Rattle.ebc_cli.proofs.reading.read_taking_of.Goals as goal

pub returns-in_err-bytes : goal.returns-in_err-bytes
unfolding rom_taking_of
returns-in_err-bytes g c =
    let p = err_from_is_err_and c.from_residual-in_err-bytes.result c.from_residual-in_err-bytes.ensures.1 in
    let read = c.in_ok-images in
    let end = c.in_err-bytes.field-0.0 in
    let meaning = taking_meaning 2 c.args.rom read.bytes read.images c.args.number in
    rw (p.1, p.2) (record {
      reads = reads-then _ _ _ _ _ _ _ (read.images, read.bytes) _ _ _ (rw c.as_str.ensures at read.ensures.reads)
          (reads-ended _ _ _ _ _ _ end (λ files. told meaning) (λ files bytes. done (works.WriteTaken c.args.image bytes))
          (reads-refused _ _ _ _ _ end meaning
          (rw (c.as_str-2.ensures, c.as_slice.ensures, c.as_slice-2.ensures) at c.in_err-bytes.ensures.meaning)
          c.in_err-bytes.ensures.stop c.in_err-bytes.ensures.output));
      work = tt;
      name = tt;
    })
