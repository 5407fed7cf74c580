use Rattle.std.proofs.Common.{rules, ◌≡◌, ◌∙◌, ap, sym, position, to_z, of_z, None, Some}
use Rattle.std.specs.Int.{w128}
use Rattle.rules_base.specs.Things.{static_at, is_static_at}
use Rattle.rules_base.proofs.ThingLaws.{found_there, found_nowhere}
use Rattle.rules_base.proofs.thing.static_at.Goals as goal

pub returns-in-Some : goal.returns-in-Some
unfolding static_at
returns-in-Some c =
    let back : to_z w128 (of_z w128 c.args.place) ≡ c.args.place = search rules in
    let first : position (is_static_at c.args.place) c.args.statics.now ≡ Some c.in-Some.number =
    ap (λ place. position (is_static_at place) c.args.statics.now) (sym back) ∙ sym c.first_at.ensures.first ∙ c.in-Some.is in
    found_there (is_static_at c.args.place) c.args.statics.now c.as_slice.result.now c.in-Some.number _ c.as_slice.ensures first
    c.in-Some.ensures.within

pub returns-in-None : goal.returns-in-None
unfolding static_at
returns-in-None c =
    let back : to_z w128 (of_z w128 c.args.place) ≡ c.args.place = search rules in
    let first : position (is_static_at c.args.place) c.args.statics.now ≡ None =
    ap (λ place. position (is_static_at place) c.args.statics.now) (sym back) ∙ sym c.first_at.ensures.first ∙ c.in-None.is in
    found_nowhere (is_static_at c.args.place) c.args.statics.now first
