use Rattle.note_infer.proofs.Common.{◌≤◌, List, get_or, length, refl, ap, subst, ◌∙◌, slice_get_read, FnNote, state_at}
use Rattle.note_infer.proofs.Entering.{entered_all, entered_none, entered_starts, nothing_before}
use Rattle.note_infer.proofs.rounds.Rounds.entries.Goals as goal

pub loop-func-init : goal.loop-func-init
loop-func-init c = record {
  coming = c.requires.coming;
  before = refl;
  entered = entered_none c.args.self.now.notes.now c.args.self.now.leaders.now c.args.coming.now.states.items c.new-starts.result.items
      c.requires.states c.new-starts.ensures.items;
}

pub enter-requires-clause-there : goal.enter-requires-clause-there
enter-requires-clause-there c =
    slice_get_read c.args.self.now.notes.now.function (length c.as_slice-f-items.result.now) c.loop-func.func c.f-item.result
    (ap length c.as_slice-f-items.ensures) c.loop-func-test.true
    (c.f-item.is ∙ ap (λ (fs : List FnNote). get_or fs c.loop-func.func c.f-item.result) c.as_slice-f-items.ensures)

pub returns-in_err-enter-clause-before : goal.returns-in_err-enter-clause-before
returns-in_err-enter-clause-before c = c.in_err-enter.ensures.before ∙ c.loop-func.invariant.before

pub returns-clause-starts : goal.returns-clause-starts
returns-clause-starts c =
    entered_starts c.args.self.now.notes.now c.args.self.now.leaders.now
    (state_at c.args.self.now.leaders.now c.loop-func.coming.states.items)
    (state_at c.args.self.now.leaders.now c.loop-func.coming.before.items) c.loop-func.starts.items c.loop-func.func
    (subst (λ (fs : List FnNote). length fs ≤ c.loop-func.func) c.as_slice-f-items.ensures c.loop-func-test.false)
    (nothing_before c.args.self.now.leaders.now c.loop-func.coming.before.items (c.loop-func.invariant.before ∙ c.requires.before))
    c.loop-func.invariant.entered

pub returns-clause-entries : goal.returns-clause-entries
returns-clause-entries c =
    entered_all c.args.self.now.notes.now c.args.self.now.leaders.now
    (state_at c.args.self.now.leaders.now c.loop-func.coming.states.items)
    (state_at c.args.self.now.leaders.now c.loop-func.coming.before.items) c.loop-func.starts.items c.loop-func.func
    (subst (λ (fs : List FnNote). length fs ≤ c.loop-func.func) c.as_slice-f-items.ensures c.loop-func-test.false)
    (nothing_before c.args.self.now.leaders.now c.loop-func.coming.before.items (c.loop-func.invariant.before ∙ c.requires.before))
    c.loop-func.invariant.entered
