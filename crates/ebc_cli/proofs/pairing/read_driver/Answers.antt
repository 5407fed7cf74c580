use Rattle.ebc_cli.proofs.Common.{◌+◌, done, told, Notes, Script, Image, ReadDriver, driver_files, unnotified, reads-ended, reads-refused}
use Rattle.ebc_cli.proofs.Common.{reads-then}
use Rattle.ebc_cli.proofs.pairing.read_driver.Goals as goal

-- what is made of what was read
abbrev driver_made : Image × Notes × Script → ReadDriver
driver_made read = record { image = read.0; notes = read.1; script = read.2 }

pub returns-in-Err-clause-reads : goal.returns-in-Err-clause-reads
unfolding driver_files
returns-in-Err-clause-reads g c =
    let read = c.in_ok-image in
    let end = c.in-Err.end in
    let value = unnotified (c.args.word + 2) c.args.names.now.script read.script in
    reads-then _ _ _ _ _ _ _ (read.image, read.notes, read.script) _ _ _
    (rw (c.as_str.ensures, c.as_str-2.ensures, c.as_str-3.ensures) at read.ensures.reads)
    (reads-ended _ _ _ _ _ _ end (λ files. told value) (λ files u. done (driver_made (read.image, read.notes, read.script)))
    (reads-refused _ _ _ _ _ end value (rw c.as_str-4.ensures at c.in-Err.ensures.meaning)
    c.in-Err.ensures.stop c.in-Err.ensures.output))
