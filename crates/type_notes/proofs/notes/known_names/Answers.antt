use Rattle.std.proofs.lemmas.Result.{err_from_is_err_and}
use Rattle.type_notes.proofs.NotesLemmas.{fails-known}
use Rattle.type_notes.proofs.notes.known_names.Goals as goal

pub returns-in_err-all_known : goal.returns-in_err-all_known
returns-in_err-all_known c =
    let p = err_from_is_err_and c.from_residual-in_err-all_known.result c.from_residual-in_err-all_known.ensures.1 in
    rw (p.1, p.2)
    (fails-known c.in_err-all_known.field-0.0 c.args.draft.now c.in_ok-names.names c.in_ok-names.ensures c.in_err-all_known.ensures)
