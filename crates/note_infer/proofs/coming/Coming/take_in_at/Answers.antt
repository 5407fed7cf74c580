use Rattle.note_infer.proofs.Common.{arith, state_at}
use Rattle.std.proofs.lemmas.Result.{IfErr-weaker, on_ok_weaker}
use Rattle.note_infer.proofs.coming.Coming.take_in_at.Goals.{then-place-f-via-then-place-f, then-place-f-via-else-place-f+then-f-place}
use Rattle.note_infer.proofs.StatesAt.{both_ok, clash_weaker, clashes_at, coming_more, takes_apart, takes_at, takes_outside}
use Rattle.note_infer.proofs.coming.Coming.take_in_at.Goals as goal

pub returns-then-place-f-clause-taken : goal.returns-then-place-f-clause-taken
returns-then-place-f-clause-taken c =
    takes_outside c.args.leaders.now c.args.f.now c.args.place c.args.s.now (state_at c.args.leaders.now c.args.self.now.states.items)
    (λ w. elim c.then-place-f.branch [
      | then-place-f-via-then-place-f v ↦ (let h = v.if-place-f.true in let low = w.0 in absurd (omega arith))
      | then-place-f-via-else-place-f+then-f-place v ↦ (let h = v.if-f-place.true in let high = w.1 in absurd (omega arith))
    ])

pub returns-in-Some-clause-taken : goal.returns-in-Some-clause-taken
returns-in-Some-clause-taken c =
    on_ok_weaker c.take_in.result
    (λ t. takes_at c.args.leaders.now c.args.f.now c.requires.ascend c.args.self.now.states.items c.take_in.new.self.states.items
    c.in-Some.number c.args.place c.args.s.now c.in-Some.ensures.some.0 c.requires.coming.states c.in-Some.ensures.some.1
    (omega (arith, c.if-place-f.false), omega (arith, c.if-f-place.false)) t) c.take_in.ensures.taken

pub returns-in-Some-clause-clash : goal.returns-in-Some-clause-clash
returns-in-Some-clause-clash c =
    IfErr-weaker c.take_in.result _ _
    (λ e h. clash_weaker e (λ t. clashes_at c.args.leaders.now c.args.f.now c.requires.ascend c.args.self.now.states.items
    c.take_in.new.self.states.items c.in-Some.number c.args.place c.args.s.now c.in-Some.ensures.some.0 c.requires.coming.states
    c.in-Some.ensures.some.1 (omega (arith, c.if-place-f.false), omega (arith, c.if-f-place.false)) t) h) c.take_in.ensures.clash

pub returns-in-Some-clause-coming : goal.returns-in-Some-clause-coming
returns-in-Some-clause-coming c =
    both_ok c.take_in.result
    (λ t given. coming_more c.args.leaders.now c.args.self.now c.take_in.new.self c.in-Some.number c.args.s.now c.in-Some.ensures.some.0
    c.requires.coming t given c.take_in.ensures.before) c.take_in.ensures.taken c.take_in.ensures.given

pub returns-in-None-clause-taken : goal.returns-in-None-clause-taken
returns-in-None-clause-taken c =
    takes_apart c.args.leaders.now c.args.f.now c.args.place c.args.s.now (state_at c.args.leaders.now c.args.self.now.states.items)
    c.in-None.ensures.none
