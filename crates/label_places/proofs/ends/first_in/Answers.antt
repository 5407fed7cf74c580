use Rattle.label_places.proofs.Common.{◌<◌, ap, arith, get_or, length, sym, ◌∙◌, get_or_default, Position}
use Rattle.label_places.proofs.EndLaws.{end-bound, end-first, no_position}
use Rattle.label_places.proofs.ends.first_in.Goals as goal

pub returns-then-bound-next : goal.returns-then-bound-next
unfolding no_position
returns-then-bound-next c =
    let ps = c.args.positions.now in
    let k = c.loop-other.other-index in
    end-bound c.args.position.object c.args.position.section c.args.place c.args.bound ps k c.requires.ascend c.loop-other.invariant
    (λ d inside.
    let same = ap (λ (q : Position). q.place) (get_or_default ps k d no_position inside) in
    let next = c.from-next.ensures in
    let far = c.if-bound-next.true in omega (arith, same, next, far))

pub returns-then-is_at : goal.returns-then-is_at
unfolding no_position
returns-then-is_at c =
    let ps = c.args.positions.now in
    let k = c.loop-other.other-index in
    let within : k < length ps = c.loop-other-test.true in
    let p : Position = get_or ps k no_position in
    rw c.from-next.ensures
    (end-first c.args.position.object c.args.position.section c.args.place c.args.bound ps k p c.requires.ascend c.requires.above within
    (get_or_default ps k no_position p within) c.loop-other.invariant (sym c.is_at.ensures ∙ c.if-is_at.true)
    (let next = c.from-next.ensures in let near = c.if-bound-next.false in omega (arith, next, near)))

pub returns : goal.returns
returns c =
    end-bound c.args.position.object c.args.position.section c.args.place c.args.bound c.args.positions.now c.loop-other.other-index
    c.requires.ascend c.loop-other.invariant (λ d inside. absurd (let past = c.loop-other-test.false in omega (arith, inside, past)))
