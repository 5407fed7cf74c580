use Rattle.note_infer.proofs.Common.{rules, ◌≡◌, List, ℕ, length, map, subst, sym, ◌∙◌, state_at, AllRest, Start}
use Rattle.note_infer.proofs.Turning.{HasGone, first_turn, gone_by, not_found, stays_known, turn_found}
use Rattle.note_infer.proofs.rounds.Rounds.settle.Goals.{In_ok-starts-2}
use Rattle.note_infer.proofs.rounds.Rounds.settle.Goals as goal

pub loop-end-init : goal.loop-end-init
loop-end-init c = record {
  coming = c.in_ok-starts.ensures.coming;
  turn = first_turn c.args.self.now.image.now c.args.self.now.notes.now c.args.self.now.marked.now c.args.self.now.leaders.now
      c.requires.setting c.in_ok-starts.starts.items c.entries.new.coming.before.items c.entries.new.coming.states.items
      (c.in_ok-starts.ensures.before ∙ c.in_ok-coming.ensures.before) c.in_ok-starts.ensures.starts c.in_ok-starts.ensures.entries;
}

pub walk_all-requires-clause-found : goal.walk_all-requires-clause-found
walk_all-requires-clause-found c =
    turn_found c.args.self.now.image.now c.args.self.now.notes.now c.args.self.now.marked.now c.args.self.now.leaders.now
    c.requires.setting c.loop-end.starts.items c.loop-end.coming.before.items c.loop-end.coming.states.items c.loop-end.invariant.turn

pub walk_all-requires-clause-rest : goal.walk_all-requires-clause-rest
walk_all-requires-clause-rest c =
    let leaders : List ℕ = c.args.self.now.leaders.now in
    subst (λ (xs : List Start). AllRest c.args.self.now.image.now c.args.self.now.notes.now leaders
    (state_at leaders c.loop-end.coming.before.items) (map (λ (x : Start). x.place) xs))
    (sym c.as_slice.ensures.value) c.loop-end.invariant.turn.rest

pub changes-requires-clause-known : goal.changes-requires-clause-known
changes-requires-clause-known c =
    stays_known c.args.self.now.image.now c.args.self.now.notes.now c.args.self.now.marked.now c.args.self.now.leaders.now
    c.requires.setting c.loop-end.starts.items c.loop-end.coming.before.items c.loop-end.coming.states.items
    c.loop-end.invariant.turn c.walk_all.new.coming.before.items c.walk_all.new.coming.states.items c.in_default.ensures.before
    c.in_default.ensures.reached c.in_default.ensures.coming.before c.in_default.ensures.coming.states

-- the round went through, and the states were taken over
gone : (c : In_ok-starts-2) → HasGone c.args.self.now.image.now c.args.self.now.notes.now c.args.self.now.leaders.now
    c.loop-end.coming.before.items c.changes.new.coming.before.items c.changes.new.coming.states.items c.in_ok-starts-2.starts.items
gone c =
    gone_by c.args.self.now.image.now c.args.self.now.notes.now c.args.self.now.marked.now c.args.self.now.leaders.now
    c.requires.setting c.loop-end.starts.items c.loop-end.coming.before.items c.loop-end.coming.states.items
    c.loop-end.invariant.turn c.walk_all.new.coming.before.items c.walk_all.new.coming.states.items c.in_default.ensures.before
    c.in_default.ensures.reached c.in_default.ensures.coming.before c.in_default.ensures.coming.states c.in_ok-starts-2.starts.items
    c.changes.new.coming.before.items c.changes.new.coming.states.items c.in_ok-starts-2.ensures.before c.in_ok-starts-2.ensures.states
    c.in_ok-starts-2.ensures.starts c.in_ok-starts-2.ensures.changes

pub returns-then-is_empty-clause-settled : goal.returns-then-is_empty-clause-settled
returns-then-is_empty-clause-settled c =
    let none : length c.in_ok-starts-2.starts.items ≡ 0 = search rules in
    (gone (goal.at.returns-then-is_empty-clause-settled c).In_ok-starts-2).settled c.requires.tables none

pub loop-end-smaller : goal.loop-end-smaller
loop-end-smaller c =
    let some : length c.in_ok-starts-2.starts.items ≡ 0 → ⊥ = search rules in
    (gone (goal.at.loop-end-smaller c).In_ok-starts-2).falls some

pub loop-end-preserved : goal.loop-end-preserved
loop-end-preserved c = record {
  coming = c.in_ok-starts-2.ensures.coming;
  turn = (gone (goal.at.loop-end-preserved c).In_ok-starts-2).turn;
}

pub returns-in-Err-clause-stuck : goal.returns-in-Err-clause-stuck
returns-in-Err-clause-stuck c =
    not_found c.args.self.now.image.now c.args.self.now.notes.now c.args.self.now.marked.now c.args.self.now.leaders.now
    c.requires.setting c.loop-end.starts.items c.loop-end.coming.before.items c.loop-end.coming.states.items c.loop-end.invariant.turn
    c.requires.tables c.in-Err.end c.in-Err.ensures.stuck
