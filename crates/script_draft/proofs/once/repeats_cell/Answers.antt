use Rattle.script_draft.proofs.Common.{ℕ, List, refl, sym, ◌∙◌, ap, Bor, has_repeat, same_cell}
use Rattle.note_draft.proofs.RepeatLaws.{has_repeat-none}
use Rattle.script_draft.proofs.CellLaws.{AreSeen-more, AreSeen-repeat}
use Rattle.script_draft.proofs.once.repeats_cell.Goals as goal

pub returns-then-not-branch : goal.returns-then-not-branch
returns-then-not-branch c =
    let item = c.index-cells-number in
    let key : ℕ × Bor (List ℕ) = (item.result.instance, c.as_str.result) in
    sym (ap (has_repeat same_cell) (sym c.as_slice-cells.ensures)
    ∙ AreSeen-repeat _ (λ k l. refl) item.result key
    (rw c.as_str.ensures refl) c.as_slice-cells.result.now c.loop-number.number c.loop-number.seen.keys c.loop-number-test.true item.is
    c.loop-number.invariant _ c.in_ok-insert.ensures.added c.if-not-branch.true)

pub loop-number-preserved : goal.loop-number-preserved
loop-number-preserved c =
    let item = c.index-cells-number in
    let key : ℕ × Bor (List ℕ) = (item.result.instance, c.as_str.result) in
    AreSeen-more _ (λ k l. refl) item.result key
    (rw c.as_str.ensures refl) c.as_slice-cells.result.now c.loop-number.number c.loop-number.seen.keys c.loop-number-test.true item.is
    c.loop-number.invariant _ c.in_ok-insert.ensures.added c.insert.new.self.keys c.if-not-branch.false c.in_ok-insert.ensures.keys

pub returns : goal.returns
returns c = sym (ap (has_repeat same_cell) (sym c.as_slice-cells.ensures)
    ∙ has_repeat-none same_cell c.as_slice-cells.result.now c.loop-number.number c.loop-number-test.false c.loop-number.invariant.are_new)
