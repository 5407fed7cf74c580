use Rattle.note_infer.proofs.Common.{◌≡◌, ℕ, ◌<◌, Bool, true, false, Option, Some, ap, State, List, refl, subst, sym, ◌∙◌, arith}
use Rattle.note_infer.proofs.Common.{none-some, FnNote, Notes, Image, AreFound, Begins, HasState}
use Rattle.note_infer.proofs.Common.{IsStuck, States, state_at, HasPassed, Reached, decode_later}
use Rattle.note_infer.specs.Turns.{fall_to}
use Rattle.note_infer.proofs.walk.Walk.go.Goals.{In-Ok, then-not-falls-via-then-not-falls, then-not-falls-via-else-not-falls+then-self-next}
use Rattle.note_infer.proofs.{Chains.chain_within, Going.alone_more, Going.alone_next, Going.closed_next, Going.has_first}
use Rattle.note_infer.proofs.{Going.has_next, Going.rule_at}
use Rattle.note_infer.specs.declared.walk.Stop.{Stop}
use Rattle.note_infer.proofs.{Going.reached_next, Going.stuck_at, Passing.range_of}
use Rattle.note_infer.proofs.walk.Walk.go.Goals.{then-not-falls-via-else-not-falls+else-self-next+then-is_leader}
use Rattle.note_infer.proofs.walk.Walk.go.Goals as goal

pub code_of-code-requires-clause-range : goal.code_of-code-requires-clause-range
code_of-code-requires-clause-range c = (c.requires.setting.functions c.args.self.now.func c.args.self.now.f.now c.requires.there).range

pub code_of-code-requires-clause-inside : goal.code_of-code-requires-clause-inside
code_of-code-requires-clause-inside c = (c.requires.setting.functions c.args.self.now.func c.args.self.now.f.now c.requires.there).inside

pub loop-next-init : goal.loop-next-init
loop-next-init c =
    let image : Image = c.args.self.now.image.now in
    let notes : Notes = c.args.self.now.notes.now in
    let leaders : List ℕ = c.args.self.now.leaders.now in
    let f : FnNote = c.args.self.now.f.now in
    let states : States = state_at leaders c.args.coming.now.before.items in
    record {
      coming = c.requires.coming;
      before = refl;
      reached = c.requires.reached;
      has = has_first image notes leaders states c.args.self.now.func f c.args.from c.args.state.now
          c.requires.begins;
      from = omega arith;
      alone = λ p low high l. omega (arith, low, high);
    }

pub step-requires-clause-size : goal.step-requires-clause-size
step-requires-clause-size c = (c.requires.setting.read.functions c.args.self.now.func c.args.self.now.f.now c.requires.there).end

pub step-requires-clause-from : goal.step-requires-clause-from
step-requires-clause-from c =
    let g = c.requires.setting in
    let has = c.loop-next.invariant.has in
    (chain_within c.args.self.now.image.now c.args.self.now.notes.now c.args.self.now.leaders.now
    (state_at c.args.self.now.leaders.now c.loop-next.coming.before.items) c.args.self.now.func c.args.self.now.f.now
    (range_of c.args.self.now.image.now c.args.self.now.notes.now c.args.self.now.marked.now c.args.self.now.leaders.now g
    c.args.self.now.func c.args.self.now.f.now c.requires.there) has.0 c.loop-next.at c.loop-next.state has.1).0

pub step-requires-clause-within : goal.step-requires-clause-within
step-requires-clause-within c =
    let g = c.requires.setting in
    let has = c.loop-next.invariant.has in
    (chain_within c.args.self.now.image.now c.args.self.now.notes.now c.args.self.now.leaders.now
    (state_at c.args.self.now.leaders.now c.loop-next.coming.before.items) c.args.self.now.func c.args.self.now.f.now
    (range_of c.args.self.now.image.now c.args.self.now.notes.now c.args.self.now.marked.now c.args.self.now.leaders.now g
    c.args.self.now.func c.args.self.now.f.now c.requires.there) has.0 c.loop-next.at c.loop-next.state has.1).1

pub loop-next-smaller : goal.loop-next-smaller
loop-next-smaller c =
    let p = c.in-Ok.ensures.steps.1 in
    let later = decode_later c.args.self.now.image.now c.args.self.now.f.now c.loop-next.at c.in-Ok.next c.in-Ok.ensures.steps.0 p.decode in
    let inside : c.in-Ok.next < c.args.self.now.f.now.end = omega (arith, c.if-self-next.false) in
    omega arith

-- the states before were found, and the round has come to the next instruction
found_here : (c : In-Ok) → AreFound c.args.self.now.notes.now c.args.self.now.leaders.now
    (state_at c.args.self.now.leaders.now c.loop-next.coming.before.items)
found_here c =
    subst (λ xs. AreFound c.args.self.now.notes.now c.args.self.now.leaders.now (state_at c.args.self.now.leaders.now xs))
    (sym c.loop-next.invariant.before) c.requires.found

reached_here : (c : In-Ok) → Reached c.args.self.now.image.now c.args.self.now.notes.now c.args.self.now.leaders.now
    (state_at c.args.self.now.leaders.now c.loop-next.coming.before.items)
    (state_at c.args.self.now.leaders.now c.step.new.coming.states.items) c.in-Ok.next
reached_here c =
    let leaders : List ℕ = c.args.self.now.leaders.now in
    reached_next c.args.self.now.image.now c.args.self.now.notes.now c.args.self.now.marked.now leaders c.requires.setting
    (state_at leaders c.loop-next.coming.before.items) (found_here c) c.args.self.now.func c.args.self.now.f.now c.requires.there
    (state_at leaders c.loop-next.coming.states.items) (state_at leaders c.step.new.coming.states.items) c.loop-next.at c.in-Ok.next
    c.in-Ok.ensures.steps.0 c.loop-next.state (fall_to c.in-Ok.falls c.step.new.state) c.loop-next.invariant.reached
    c.loop-next.invariant.has c.in-Ok.ensures.steps.1

-- where control falls on, the state falls on
falls_on : (b : Bool) (s : State) → b ≡ true → fall_to b s ≡ Some s
falls_on b s e = ap (λ x. fall_to x s) e

falls_over : (b : Bool) (s t : State) → b ≡ false → fall_to b s ≡ Some t → ⊥
falls_over b s t e h = none-some t (sym (ap (λ x. fall_to x s) e) ∙ h)

pub loop-next-preserved : goal.loop-next-preserved
loop-next-preserved c =
    let h = (goal.at.loop-next-preserved c).In-Ok in
    let image : Image = c.args.self.now.image.now in
    let notes : Notes = c.args.self.now.notes.now in
    let leaders : List ℕ = c.args.self.now.leaders.now in
    let f : FnNote = c.args.self.now.f.now in
    let k : ℕ = c.args.self.now.func in
    let after : States = state_at leaders c.step.new.coming.states.items in
    let p = c.in-Ok.ensures.steps.1 in
    let next : ℕ = c.in-Ok.next in
    let later = decode_later image f c.loop-next.at next c.in-Ok.ensures.steps.0 p.decode in
    let low = c.loop-next.invariant.from in
    let inside : next < f.end = omega (arith, c.if-self-next.false) in
    let falls : c.in-Ok.falls ≡ true = let is = c.if-not-falls.false in cc in
    record {
      coming = c.in-Ok.ensures.coming;
      before = c.in-Ok.ensures.before ∙ c.loop-next.invariant.before;
      reached = subst (λ xs. Reached image notes leaders (state_at leaders xs) after next) (sym c.in-Ok.ensures.before) (reached_here h);
      has = subst (λ xs. HasState image notes leaders (state_at leaders xs) k f next c.step.new.state) (sym c.in-Ok.ensures.before)
          (has_next image notes c.args.self.now.marked.now leaders c.requires.setting
          (state_at leaders c.loop-next.coming.before.items) (found_here h) k f c.requires.there
          (state_at leaders c.loop-next.coming.states.items) after c.loop-next.at next c.in-Ok.ensures.steps.0
          c.loop-next.state (fall_to c.in-Ok.falls c.step.new.state) c.loop-next.invariant.reached c.loop-next.invariant.has p
          c.step.new.state (falls_on c.in-Ok.falls c.step.new.state falls) inside
          (λ l. let yes = c.is_leader.ensures.1 l in let no = c.if-is_leader.false in cc));
      from = omega arith;
      alone = alone_next notes leaders c.args.from c.loop-next.at next p.point c.loop-next.invariant.alone
          (λ l. let yes = c.is_leader.ensures.1 l in let no = c.if-is_leader.false in cc);
    }

pub returns-then-not-falls-clause-passed : goal.returns-then-not-falls-clause-passed
returns-then-not-falls-clause-passed c =
    let h = (goal.at.returns-then-not-falls-clause-passed c).In-Ok in
    let image : Image = c.args.self.now.image.now in
    let notes : Notes = c.args.self.now.notes.now in
    let leaders : List ℕ = c.args.self.now.leaders.now in
    let f : FnNote = c.args.self.now.f.now in
    let after : States = state_at leaders c.step.new.coming.states.items in
    let p = c.in-Ok.ensures.steps.1 in
    let next : ℕ = c.in-Ok.next in
    let later = decode_later image f c.loop-next.at next c.in-Ok.ensures.steps.0 p.decode in
    let low = c.loop-next.invariant.from in
    subst (λ xs. HasPassed image notes leaders f (state_at leaders xs) after c.args.from) (sym c.in-Ok.ensures.before)
    (record {
      end = next;
      later = omega arith;
      inside = p.decode.within;
      alone = alone_more notes leaders c.args.from c.loop-next.at next p.point c.loop-next.invariant.alone;
      reached = reached_here h;
      closed = closed_next image notes c.args.self.now.marked.now leaders c.requires.setting
          (state_at leaders c.loop-next.coming.before.items) (found_here h) c.args.self.now.func f c.requires.there
          (state_at leaders c.loop-next.coming.states.items) after c.loop-next.at next c.in-Ok.ensures.steps.0
          c.loop-next.state (fall_to c.in-Ok.falls c.step.new.state) c.loop-next.invariant.reached c.loop-next.invariant.has p
          (λ t e inside none. elim c.then-not-falls.branch [
            | then-not-falls-via-then-not-falls w ↦ falls_over c.in-Ok.falls c.step.new.state t (let is = w.if-not-falls.true in cc) e
            | then-not-falls-via-else-not-falls+then-self-next w ↦ (let past = w.if-self-next.true in absurd (omega arith))
            | then-not-falls-via-else-not-falls+else-self-next+then-is_leader w ↦ none (w.is_leader.ensures.0 w.if-is_leader.true)
          ]);
    })

pub returns-in-Err-Rule-clause-stuck : goal.returns-in-Err-Rule-clause-stuck
returns-in-Err-Rule-clause-stuck c =
    let image : Image = c.args.self.now.image.now in
    let notes : Notes = c.args.self.now.notes.now in
    let leaders : List ℕ = c.args.self.now.leaders.now in
    let f : FnNote = c.args.self.now.f.now in
    subst (λ (x : Stop). IsStuck image notes leaders (state_at leaders c.args.coming.now.before.items) x.place x.rule x.state)
    (sym c.in_ok-stop_at-in-Err-Rule.ensures)
    (rw c.in-Err-Rule.rule-is (subst (λ s. IsStuck image notes leaders (state_at leaders c.args.coming.now.before.items) c.loop-next.at
    c.in-Err-Rule.rule s)
    (sym c.in-Err-Rule.ensures.kept)
    (subst (λ xs. IsStuck image notes leaders (state_at leaders xs) c.loop-next.at c.in-Err-Rule.rule c.loop-next.state)
    c.loop-next.invariant.before
    (stuck_at image notes c.args.self.now.marked.now leaders c.requires.setting
    (state_at leaders c.loop-next.coming.before.items) (state_at leaders c.loop-next.coming.states.items) c.args.self.now.func f
    c.requires.there c.loop-next.at c.loop-next.state c.in-Err-Rule.rule c.loop-next.invariant.reached c.loop-next.invariant.has
    (rule_at _ c.in-Err-Rule.field-0 c.in-Err-Rule.rule c.in-Err-Rule.field-0-is c.in-Err-Rule.ensures.fails)))))
