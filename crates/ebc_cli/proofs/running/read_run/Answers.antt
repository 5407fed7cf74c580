use Rattle.ebc_cli.proofs.Common.{◌+◌, err_from_is_err_and, image_limit, image_meaning, Notes, Image, ◌>>=◌, done, script_limit}
use Rattle.ebc_cli.proofs.Common.{script_meaning, input, notes_limit, notes_meaning, run_files, reads-ended, reads-made, reads-then}
use Rattle.ebc_cli.proofs.running.read_run.Goals as goal

pub returns-in_err-image-clause-reads : goal.returns-in_err-image-clause-reads
unfolding run_files
returns-in_err-image-clause-reads g c =
    let p = err_from_is_err_and c.from_residual.result c.from_residual.ensures.1 in
    rw (p.1, p.2) (reads-ended _ _ _ _ _ _ _ (λ files. input image_limit image_meaning c.args.word c.args.image.now files)
    (λ files (image : Image). input notes_limit notes_meaning (c.args.word + 1) c.args.notes.now files
    >>= (λ (notes : Notes). input script_limit (script_meaning notes) (c.args.word + 2) c.args.script.now files
    >>= (λ script. done (image, notes, script)))) c.in_err-image.ensures.reads)

pub returns-in-Err-clause-reads : goal.returns-in-Err-clause-reads
unfolding run_files
returns-in-Err-clause-reads g c =
    reads-then _ _ _ _ _ _ _ c.in_ok-image.image _ _ _ c.in_ok-image.ensures.reads
    (reads-ended _ _ _ _ _ _ c.in-Err.end (λ files. input notes_limit notes_meaning (c.args.word + 1) c.args.notes.now files)
    (λ files (notes : Notes). input script_limit (script_meaning notes) (c.args.word + 2) c.args.script.now files
    >>= (λ script. done (c.in_ok-image.image, notes, script))) c.in-Err.ensures.reads)

pub returns-in-Err-read_script_file-clause-reads : goal.returns-in-Err-read_script_file-clause-reads
unfolding run_files
returns-in-Err-read_script_file-clause-reads g c =
    reads-then _ _ _ _ _ _ _ c.in_ok-image.image _ _ _ c.in_ok-image.ensures.reads
    (reads-then _ _ _ _ _ _ _ c.in-Ok.notes _ _ _ c.in-Ok.ensures.reads
    (reads-ended _ _ _ _ _ _ c.in-Err-read_script_file.end
    (λ files. input script_limit (script_meaning c.in-Ok.notes) (c.args.word + 2) c.args.script.now files)
    (λ files script. done (c.in_ok-image.image, c.in-Ok.notes, script)) c.in-Err-read_script_file.ensures.reads))

pub returns-in-Ok-read_script_file-clause-reads : goal.returns-in-Ok-read_script_file-clause-reads
unfolding run_files
returns-in-Ok-read_script_file-clause-reads g c =
    reads-then _ _ _ _ _ _ _ c.in_ok-image.image _ _ _ c.in_ok-image.ensures.reads
    (reads-then _ _ _ _ _ _ _ c.in-Ok.notes _ _ _ c.in-Ok.ensures.reads
    (reads-made _ _ _ _ _ _ c.in-Ok-read_script_file.script
    (λ files. input script_limit (script_meaning c.in-Ok.notes) (c.args.word + 2) c.args.script.now files)
    (λ script. (c.in_ok-image.image, c.in-Ok.notes, script)) c.in-Ok-read_script_file.ensures.reads))
