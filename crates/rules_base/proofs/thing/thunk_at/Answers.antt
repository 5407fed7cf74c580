use Rattle.std.proofs.Common.{◌≡◌, ◌∙◌, ap, position, rules, to_z, of_z}
use Rattle.std.specs.Int.{w128}
use Rattle.rules_base.specs.Things.{thunk_at, is_thunk_at}
use Rattle.rules_base.proofs.thing.thunk_at.Goals as goal

pub returns-clause-found : goal.returns-clause-found
unfolding thunk_at
returns-clause-found c =
    let back : to_z w128 (of_z w128 c.args.place) ≡ c.args.place = search rules in
    c.first_at.ensures.first ∙ ap (λ place. position (is_thunk_at place) c.args.thunks.now) back
