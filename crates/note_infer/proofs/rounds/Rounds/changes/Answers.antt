use Rattle.note_infer.proofs.Common.{List, ℕ, ◌∙◌, subst, IsComing, Option, State, state_at}
use Rattle.note_infer.specs.Beginning.{AreChanges}
use Rattle.note_infer.proofs.Changing.{changed_all, changed_starts, taken_over}
use Rattle.note_infer.proofs.StatesAt.{coming_sorted}
use Rattle.note_infer.proofs.rounds.Rounds.changes.Goals.{After-sort_given}
use Rattle.note_infer.proofs.rounds.Rounds.changes.Goals as goal

-- what has come when the numbers are sorted
sorted : (c : After-sort_given) → IsComing c.args.self.now.leaders.now c.sort_given.new.self
sorted c =
    coming_sorted c.args.self.now.leaders.now c.args.coming.now c.sort_given.new.self c.requires.coming c.sort_given.ensures.before
    c.sort_given.ensures.states c.sort_given.ensures.same

pub turn_all-requires-clause-coming : goal.turn_all-requires-clause-coming
turn_all-requires-clause-coming c = sorted (goal.at.turn_all-requires-clause-coming c).After-sort_given

pub returns-clause-starts : goal.returns-clause-starts
returns-clause-starts c =
    changed_starts c.args.self.now.notes.now c.args.self.now.leaders.now c.requires.setting.all.ascend c.sort_given.new.self
    c.turn_all.new.coming c.turn_all.new.starts.items (sorted (goal.at.returns-clause-starts c).After-sort_given) c.in_ok-turn_all.ensures

pub returns-clause-changes : goal.returns-clause-changes
returns-clause-changes c =
    let leaders : List ℕ = c.args.self.now.leaders.now in
    subst (λ (xs : List (Option State)). AreChanges (state_at leaders xs) (state_at leaders c.turn_all.new.coming.before.items)
    c.turn_all.new.starts.items) c.sort_given.ensures.before
    (changed_all c.args.self.now.notes.now leaders c.requires.setting.all.ascend c.sort_given.new.self c.turn_all.new.coming
    c.turn_all.new.starts.items (sorted (goal.at.returns-clause-changes c).After-sort_given) c.in_ok-turn_all.ensures)

pub returns-clause-before : goal.returns-clause-before
returns-clause-before c =
    taken_over c.args.self.now.notes.now c.args.self.now.leaders.now c.requires.setting.all.ascend c.sort_given.new.self
    c.turn_all.new.coming c.turn_all.new.starts.items (sorted (goal.at.returns-clause-before c).After-sort_given)
    c.in_ok-turn_all.ensures ∙ c.sort_given.ensures.states
