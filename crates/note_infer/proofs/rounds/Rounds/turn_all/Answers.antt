use Rattle.note_infer.proofs.Common.{rules, ◌≡◌, ℕ, ◌<◌, List, length, get_or, ap, ◌∙◌, slice_index}
use Rattle.note_infer.specs.declared.coming.Coming.{Coming}
use Rattle.note_infer.proofs.Changing.{changed_here, changed_last, changed_more, changed_none, first_more, number_is, number_within}
use Rattle.note_infer.proofs.rounds.Rounds.turn_all.Goals as goal

pub loop-index-init : goal.loop-index-init
loop-index-init c =
    changed_none c.args.self.now.notes.now c.args.self.now.leaders.now c.args.coming.now c.args.starts.now.items c.requires.coming
    c.requires.none

pub turn-requires-clause-within : goal.turn-requires-clause-within
turn-requires-clause-within c =
    let first : Coming = c.args.coming.now in
    let i : ℕ = c.loop-index.index in
    let number : ℕ = c.index-number.result.now in
    let h = c.loop-index.invariant in
    let short : i < length first.given.items = search rules in
    let at : slice_index first.given.items i ≡ number =
    number_is first.given.items i number short (c.index-number.ensures ∙ ap (λ (xs : List ℕ). get_or xs i number) h.same) in
    number_within c.args.self.now.notes.now c.args.self.now.leaders.now first c.loop-index.coming c.loop-index.starts.items i
    c.requires.ascend h number short at

pub loop-index-preserved : goal.loop-index-preserved
loop-index-preserved c =
    let first : Coming = c.args.coming.now in
    let now : Coming = c.loop-index.coming in
    let next : Coming = c.turn.new.coming in
    let i : ℕ = c.loop-index.index in
    let number : ℕ = c.index-number.result.now in
    let h = c.loop-index.invariant in
    let up = c.requires.ascend in
    let short : i < length first.given.items = search rules in
    let at : slice_index first.given.items i ≡ number =
    number_is first.given.items i number short (c.index-number.ensures ∙ ap (λ (xs : List ℕ). get_or xs i number) h.same) in
    first_more c.args.self.now.notes.now c.args.self.now.leaders.now first now c.loop-index.starts.items i up h number short at next
    c.turn.new.starts.items c.in_ok-turn.ensures.given
    (changed_more c.args.self.now.notes.now c.args.self.now.leaders.now c.requires.setting.all.ascend first now next
    c.loop-index.starts.items c.turn.new.starts.items number
    (number_within c.args.self.now.notes.now c.args.self.now.leaders.now first now c.loop-index.starts.items i up h number short at)
    (changed_here c.args.self.now.notes.now c.args.self.now.leaders.now first now c.loop-index.starts.items i up h number short at)
    c.in_ok-turn.ensures.before c.in_ok-turn.ensures.states c.in_ok-turn.ensures.given c.in_ok-turn.ensures.turned)

pub returns : goal.returns
returns c =
    changed_last c.args.self.now.notes.now c.args.self.now.leaders.now c.args.coming.now c.loop-index.coming c.loop-index.starts.items
    c.loop-index.index c.requires.ascend c.loop-index.invariant (search rules)
