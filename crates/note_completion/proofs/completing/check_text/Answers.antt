use Rattle.std.proofs.lemmas.Result.{err_from_is_err_and}
use Rattle.note_completion.proofs.CauseLaws.{checked_read, checked_rules}
use Rattle.note_completion.proofs.completing.check_text.Goals as goal

pub returns-in_err-notes-clause-cause : goal.returns-in_err-notes-clause-cause
returns-in_err-notes-clause-cause c =
    let p = err_from_is_err_and c.from_residual.result c.from_residual.ensures.1 in
    rw (p.1, p.2) (checked_read c.args.image.now c.args.filled.now c.args.text.now _ c.in_err-notes.ensures.cause)

pub returns-clause-cause : goal.returns-clause-cause
returns-clause-cause c =
    checked_rules c.args.image.now c.args.filled.now c.args.text.now c.in_ok-notes.notes c.in-Err.halt c.in_ok-notes.ensures.notes
    c.in-Err.ensures.cause
