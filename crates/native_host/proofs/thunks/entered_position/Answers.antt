use Rattle.std.proofs.Common.{◌≡◌, ◌∙◌, List, ap, sym, get_or, to_z, of_z, rules}
use Rattle.std.specs.Int.{w128}
use Rattle.note_types.specs.declared.notes.FnNote.{FnNote}
use Rattle.native_host.proofs.thunks.entered_position.Goals as goal
use Rattle.native_host.proofs.EnteredLaws.{entered_first, entered_nowhere}

pub returns-in_err-first-clause-position : goal.returns-in_err-first-clause-position
returns-in_err-first-clause-position c =
    let back : to_z w128 (of_z w128 c.from.result) ≡ c.from.result = search rules in
    c.from_residual.ensures
    ∙ entered_nowhere c.args.functions.now c.args.place _ c.in_err-first.ensures.first (back ∙ c.from.ensures)

pub returns-then-all-first-clause-position : goal.returns-then-all-first-clause-position
returns-then-all-first-clause-position c =
    let back : to_z w128 (of_z w128 c.from.result) ≡ c.from.result = search rules in
    entered_first c.args.functions.now c.args.place c.in_ok-first.first _ _ c.in_ok-first.ensures.first (back ∙ c.from.ensures)
    (ap (λ (fs : List FnNote). (get_or fs c.in_ok-first.first c.index-all-first.result).enter) (sym c.as_slice-all.ensures)
    ∙ c.if-all-first.true)
