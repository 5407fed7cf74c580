use Rattle.std.proofs.Common.{◌+◌}
use Rattle.cli_base.specs.Readings.{done}
use Rattle.file_inputs.specs.Inputs.{image_with_notes, input, notes_limit, notes_meaning}
use Rattle.file_inputs.proofs.ReadsLaws.{reads-ended, reads-then}
use Rattle.file_inputs.proofs.input.read_image_with_notes.Goals as goal

pub returns-in-Err-clause-reads : goal.returns-in-Err-clause-reads
unfolding image_with_notes
returns-in-Err-clause-reads g c =
    reads-then _ _ _ _ _ _ _ c.in_ok-image.image _ _ _ c.in_ok-image.ensures.reads
    (reads-ended _ _ _ _ _ _ c.in-Err.end (λ files. input notes_limit notes_meaning (c.args.word + 1) c.args.notes.now files)
    (λ files notes. done (c.in_ok-image.image, notes)) c.in-Err.ensures.reads)
