use Rattle.std.proofs.Common.{string_bytes}
use Rattle.std.proofs.lemmas.Result.{err_from_is_err_and}
use Rattle.toml.specs.View.{table_view}
use Rattle.note_completion.specs.Halts.{task_place}
use Rattle.note_completion.proofs.CauseLaws.{caused_checked, caused_printing, printed_of}
use Rattle.note_completion.proofs.HaltLaws.{completed}
use Rattle.note_completion.proofs.task.Task.checked.Goals as goal

pub returns-in_err-filled-clause-cause : goal.returns-in_err-filled-clause-cause
returns-in_err-filled-clause-cause c =
    let p = err_from_is_err_and c.from_residual.result c.from_residual.ensures.1 in
    rw (p.1, p.2) c.in_err-filled.ensures.cause

pub returns-in_err-text-clause-cause : goal.returns-in_err-text-clause-cause
returns-in_err-text-clause-cause c =
    let p = err_from_is_err_and c.from_residual-in_err-text.result c.from_residual-in_err-text.ensures.1 in
    rw (p.1, p.2) (caused_printing c.args.self _ _ (table_view c.in_ok-filled.filled.table) _ c.in_ok-filled.ensures.arranged.filled
    c.in_err-text.ensures.cause)

pub returns-in-Ok-clause-whole : goal.returns-in-Ok-clause-whole
returns-in-Ok-clause-whole c =
    completed c.args.self.linked.image.now (task_place c.args.self) c.args.self.text.now (string_bytes c.in_ok-text.text) _ _
    (table_view c.in_ok-filled.filled.table) c.in_ok-filled.ensures.arranged.filled c.in_ok-text.ensures.shown
    (rw c.as_str.ensures.value at c.in-Ok.ensures.checked)

pub returns-clause-cause : goal.returns-clause-cause
returns-clause-cause c =
    caused_checked c.args.self c.in_ok-filled.filled (string_bytes c.in_ok-text.text) c.in-Err.halt
    (printed_of c.args.self c.in_ok-filled.filled _ _ (string_bytes c.in_ok-text.text) c.in_ok-filled.ensures.arranged
    c.in_ok-text.ensures.shown)
    (rw c.as_str.ensures.value at c.in-Err.ensures.cause)
