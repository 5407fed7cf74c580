use Rattle.note_infer.proofs.Common.{◌≡◌, ℕ, ◌+◌, ◌<◌, List, length, refl, subst, sym, ◌∙◌, Some, slice_get, same_Some, slice_get_within}
use Rattle.note_infer.proofs.Common.{FnNote, Notes, Image, item_there, AreFound, Begins, States, state_at, HasPassed, AllRest, AreStarts}
use Rattle.note_infer.proofs.Common.{Start, State}
use Rattle.note_infer.proofs.Rounding.{Walked, at_function, places_of, walked_all, walked_more, walked_none, walked_up}
use Rattle.note_infer.proofs.rounds.Rounds.walk_all.Goals as goal

pub loop-start-init : goal.loop-start-init
loop-start-init c = record {
  coming = c.requires.coming;
  before = refl;
  walked = walked_none c.args.self.now.image.now c.args.self.now.notes.now c.args.self.now.leaders.now
      (state_at c.args.self.now.leaders.now c.args.coming.now.before.items)
      (state_at c.args.self.now.leaders.now c.args.coming.now.states.items)
      c.args.starts.now c.requires.reached;
}

pub bounds-as_slice-start : goal.bounds-as_slice-start
bounds-as_slice-start c =
    let x : Start = c.start-item.result in
    let there : slice_get c.args.starts.now c.loop-start.start-index ≡ Some x =
    item_there (λ k (y : Start). Unit {0}) c.args.starts.now c.loop-start.start-index x c.loop-start-test.true c.start-item.is in
    let s = c.requires.starts.each c.loop-start.start-index x there in
    subst (λ (fs : List FnNote). x.func < length fs) (sym c.as_slice.ensures)
    (slice_get_within c.args.self.now.notes.now.function x.func s.f s.there)

pub go-requires-clause-there : goal.go-requires-clause-there
go-requires-clause-there c =
    let x : Start = c.start-item.result in
    let there : slice_get c.args.starts.now c.loop-start.start-index ≡ Some x =
    item_there (λ k (y : Start). Unit {0}) c.args.starts.now c.loop-start.start-index x c.loop-start-test.true c.start-item.is in
    let s = c.requires.starts.each c.loop-start.start-index x there in
    at_function c.args.self.now.notes.now.function c.as_slice.result.now x.func s.f c.index-as_slice-start.result c.as_slice.ensures s.there
    c.index-as_slice-start.is

pub go-requires-clause-found : goal.go-requires-clause-found
go-requires-clause-found c =
    subst (λ xs. AreFound c.args.self.now.notes.now c.args.self.now.leaders.now (state_at c.args.self.now.leaders.now xs))
    (sym c.loop-start.invariant.before) c.requires.found

pub go-requires-clause-begins : goal.go-requires-clause-begins
go-requires-clause-begins c =
    let notes : Notes = c.args.self.now.notes.now in
    let leaders : List ℕ = c.args.self.now.leaders.now in
    let x : Start = c.start-item.result in
    let there : slice_get c.args.starts.now c.loop-start.start-index ≡ Some x =
    item_there (λ k (y : Start). Unit {0}) c.args.starts.now c.loop-start.start-index x c.loop-start-test.true c.start-item.is in
    let s = c.requires.starts.each c.loop-start.start-index x there in
    let at : slice_get notes.function x.func ≡ Some c.index-as_slice-start.result =
    at_function notes.function c.as_slice.result.now x.func s.f c.index-as_slice-start.result c.as_slice.ensures s.there
    c.index-as_slice-start.is in
    let same : s.f ≡ c.index-as_slice-start.result = same_Some s.f c.index-as_slice-start.result (sym s.there ∙ at) in
    subst (λ (t : State). Begins notes leaders (state_at leaders c.loop-start.coming.before.items) x.func c.index-as_slice-start.result
    x.place t)
    (sym c.put.ensures)
    (subst (λ xs. Begins notes leaders (state_at leaders xs) x.func c.index-as_slice-start.result x.place x.state)
    (sym c.loop-start.invariant.before)
    (subst (λ (h : FnNote). Begins notes leaders (state_at leaders c.args.coming.now.before.items) x.func h x.place x.state) same
    s.begins))

pub go-requires-clause-reached : goal.go-requires-clause-reached
go-requires-clause-reached c =
    let image : Image = c.args.self.now.image.now in
    let notes : Notes = c.args.self.now.notes.now in
    let leaders : List ℕ = c.args.self.now.leaders.now in
    let e = sym c.loop-start.invariant.before in
    let states : States = state_at leaders c.loop-start.coming.before.items in
    let x : Start = c.start-item.result in
    let there : slice_get c.args.starts.now c.loop-start.start-index ≡ Some x =
    item_there (λ k (y : Start). Unit {0}) c.args.starts.now c.loop-start.start-index x c.loop-start-test.true c.start-item.is in
    walked_up image notes c.args.self.now.marked.now leaders c.requires.setting states
    (subst (λ xs. AreFound notes leaders (state_at leaders xs)) e c.requires.found) c.args.starts.now
    (subst (λ xs. AreStarts notes leaders (state_at leaders xs) c.args.starts.now) e c.requires.starts)
    (subst (λ xs. AllRest image notes leaders (state_at leaders xs) (places_of c.args.starts.now)) e c.requires.rest)
    (state_at leaders c.loop-start.coming.states.items) c.loop-start.start-index x there c.loop-start.invariant.walked

pub loop-start-preserved : goal.loop-start-preserved
loop-start-preserved c =
    let image : Image = c.args.self.now.image.now in
    let notes : Notes = c.args.self.now.notes.now in
    let leaders : List ℕ = c.args.self.now.leaders.now in
    let e = sym c.loop-start.invariant.before in
    let states : States = state_at leaders c.loop-start.coming.before.items in
    let come : States = state_at leaders c.loop-start.coming.states.items in
    let after : States = state_at leaders c.go.new.coming.states.items in
    let x : Start = c.start-item.result in
    let there : slice_get c.args.starts.now c.loop-start.start-index ≡ Some x =
    item_there (λ k (y : Start). Unit {0}) c.args.starts.now c.loop-start.start-index x c.loop-start-test.true c.start-item.is in
    let s = c.requires.starts.each c.loop-start.start-index x there in
    let at : slice_get notes.function x.func ≡ Some c.index-as_slice-start.result =
    at_function notes.function c.as_slice.result.now x.func s.f c.index-as_slice-start.result c.as_slice.ensures s.there
    c.index-as_slice-start.is in
    let passed : HasPassed image notes leaders c.index-as_slice-start.result states after x.place =
    subst (λ xs. HasPassed image notes leaders c.index-as_slice-start.result (state_at leaders xs) after x.place) c.in-Ok.ensures.before
    c.in-Ok.ensures.passed in
    record {
      coming = c.in-Ok.ensures.coming;
      before = c.in-Ok.ensures.before ∙ c.loop-start.invariant.before;
      walked = subst (λ xs. Walked image notes leaders (state_at leaders xs) after c.args.starts.now (c.loop-start.start-index + 1))
          (sym c.in-Ok.ensures.before)
          (walked_more image notes c.args.self.now.marked.now leaders c.requires.setting states
          (subst (λ xs. AreFound notes leaders (state_at leaders xs)) e c.requires.found) c.args.starts.now
          (subst (λ xs. AreStarts notes leaders (state_at leaders xs) c.args.starts.now) e c.requires.starts)
          (subst (λ xs. AllRest image notes leaders (state_at leaders xs) (places_of c.args.starts.now)) e c.requires.rest)
          come after c.loop-start.start-index x there c.loop-start.invariant.walked c.index-as_slice-start.result at passed);
    }

pub returns-clause-reached : goal.returns-clause-reached
returns-clause-reached c =
    let image : Image = c.args.self.now.image.now in
    let notes : Notes = c.args.self.now.notes.now in
    let leaders : List ℕ = c.args.self.now.leaders.now in
    let e = sym c.loop-start.invariant.before in
    let states : States = state_at leaders c.loop-start.coming.before.items in
    walked_all image notes c.args.self.now.marked.now leaders c.requires.setting states
    (subst (λ xs. AreFound notes leaders (state_at leaders xs)) e c.requires.found) c.args.starts.now
    (subst (λ xs. AreStarts notes leaders (state_at leaders xs) c.args.starts.now) e c.requires.starts)
    (subst (λ xs. AllRest image notes leaders (state_at leaders xs) (places_of c.args.starts.now)) e c.requires.rest)
    (state_at leaders c.loop-start.coming.states.items) c.loop-start.start-index c.loop-start-test.false c.loop-start.invariant.walked
