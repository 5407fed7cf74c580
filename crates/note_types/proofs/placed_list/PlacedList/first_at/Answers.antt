use Rattle.std.proofs.Common.{ap, ◌∙◌, ◌≡◌, pos, position, rules, to_z, of_z}
use Rattle.std.specs.Int.{w128}
use Rattle.std.specs.BTreeMap.{get}
use Rattle.std.specs.Ordering.{int_eq, int_cmp}
use Rattle.note_types.proofs.PlaceLaws.{first_number, number_within}
use Rattle.note_types.proofs.placed_list.PlacedList.first_at.Goals as goal

pub returns-clause-first : goal.returns-clause-first
returns-clause-first g c =
    let back : to_z w128 (of_z w128 c.args.place) ≡ c.args.place = search rules in
    c.copied.ensures ∙ c.get.ensures.value ∙ ap (λ p. get int_cmp c.self.inside.firsts p) back
    ∙ first_number g.T.Placed.place_of c.self.inside.items.items c.self.inside.firsts c.args.place c.self.invariant
    ∙ ap (λ xs. position (λ x. int_eq (pos (g.T.Placed.place_of x)) c.args.place) xs) c.self.view_is

pub returns-clause-within : goal.returns-clause-within
returns-clause-within g c = number_within _ c.args.self.now c.copied.result (returns-clause-first g c)
