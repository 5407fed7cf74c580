use Rattle.std.proofs.lemmas.Result.{err_from_is_err_and}
use Rattle.type_notes.proofs.NotesLemmas.{fails-conditions}
use Rattle.type_notes.proofs.notes.notes_in.Goals as goal

pub returns-in_err-owners : goal.returns-in_err-owners
returns-in_err-owners c =
    let p = err_from_is_err_and c.from_residual-in_err-owners.result c.from_residual-in_err-owners.ensures.1 in
    rw (p.1, p.2)
    (fails-conditions c.in_err-owners.field-0.0 c.args.draft.now c.in_ok-names.names c.in_ok-names.ensures
    c.in_err-owners.ensures.conditions)
