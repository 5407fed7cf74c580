use Rattle.note_infer.proofs.Common.{List, ℕ, refl, subst, ◌∙◌, FnNote, State, States, Takes, given_to, state_at}
use Rattle.note_infer.proofs.Entering.{entered_leader, entered_start, no_clash}
use Rattle.note_infer.proofs.StatesAt.{clash_at}
use Rattle.note_infer.proofs.rounds.Rounds.enter.Goals as goal

-- the entry state doesn't clash
pub unreachable-requires : goal.unreachable-requires
unreachable-requires c =
    no_clash c.args.self.now.image.now c.args.self.now.notes.now c.args.self.now.marked.now c.args.self.now.leaders.now
    c.requires.setting (state_at c.args.self.now.leaders.now c.args.coming.now.states.items) c.args.starts.now.items c.args.func
    c.args.f.now c.requires.there c.requires.entered c.args.f.now.place c.entry_state-state.result
    (clash_at c.in-Err-Clashes.field-0 c.in-Err-Clashes.field-0-is c.in-Err-Clashes.ensures.clash)

pub returns-in-Ok-clause-entered : goal.returns-in-Ok-clause-entered
returns-in-Ok-clause-entered c =
    let leaders : List ℕ = c.args.self.now.leaders.now in
    let f : FnNote = c.args.f.now in
    let come : States = state_at leaders c.args.coming.now.states.items in
    let after : States = state_at leaders c.take_in_at.new.self.states.items in
    entered_leader c.args.self.now.image.now c.args.self.now.notes.now c.args.self.now.marked.now leaders c.requires.setting come
    c.args.starts.now.items c.args.func f c.requires.there c.requires.entered after (c.is_leader.ensures.0 c.if-is_leader.true)
    (subst (λ (t : State). Takes leaders f (given_to f.place t) come after) c.entry_state-state.ensures.value c.in-Ok.ensures.taken)

pub returns-clause-entered : goal.returns-clause-entered
returns-clause-entered c =
    entered_start c.args.self.now.image.now c.args.self.now.notes.now c.args.self.now.marked.now c.args.self.now.leaders.now
    c.requires.setting (state_at c.args.self.now.leaders.now c.args.coming.now.states.items) c.args.starts.now.items c.args.func
    c.args.f.now c.requires.there c.requires.entered c.push.new.self.items
    (record { func = c.args.func; place = c.args.f.now.place; state = c.in_ok-new.field-0 })
    (λ at. let yes = c.is_leader.ensures.1 at in let is = c.if-is_leader.false in cc)
    c.in_ok-push.ensures.items refl refl (c.in_ok-new.ensures ∙ c.entry_state-state.ensures.value)
