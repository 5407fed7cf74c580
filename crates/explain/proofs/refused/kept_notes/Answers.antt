use Rattle.explain.proofs.KeptLaws.{named-read, named-unread}
use Rattle.explain.proofs.refused.kept_notes.Goals as goal

pub returns-in-Ok-clause-notes : goal.returns-in-Ok-clause-notes
returns-in-Ok-clause-notes c =
    rw (← c.word.ensures) (named-read c.args.folder.now.files c.word.result.now c.in-Ok.read c.in-Ok.ensures.reads.follows.0)

pub returns-in-Err-Stop-clause-notes : goal.returns-in-Err-Stop-clause-notes
returns-in-Err-Stop-clause-notes c =
    let told = rw c.in-Err-Stop.field-0-is at c.in-Err-Stop.ensures.reads.follows in
    rw (← c.word.ensures) (named-unread c.args.folder.now.files c.word.result.now c.in-Err-Stop.field-0-0 told.0)
