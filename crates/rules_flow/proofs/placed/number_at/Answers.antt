use Rattle.std.proofs.Common.{rules, List, ap, sym, ◌∙◌, ltb}
use Rattle.std.proofs.lemmas.Bool.{ltb-true}
use Rattle.std.proofs.lemmas.List.Sorted.{IsPartitionPoint-from_clause}
use Rattle.rules_flow.proofs.Found.{Begins, at_the_end, found, missed, parts}
use Rattle.rules_flow.proofs.placed.number_at.Goals as goal

pub returns-in_err-found : goal.returns-in_err-found
returns-in_err-found g c =
    let xs : List g.row.T.Denot = c.args.things.now in
    let begins : Begins g.T.Placed.place_of xs c.args.place c.partition_point-begun.result =
    IsPartitionPoint-from_clause (λ x. ltb (g.T.Placed.place_of x) c.args.place) xs _ c.partition_point-begun.ensures.partitioned
    (parts g.T.Placed.place_of xs c.args.place c.requires) (λ a r f h. search rules) in
    c.from_residual.ensures
    ∙ at_the_end g.T.Placed.place_of xs c.args.place c.partition_point-begun.result c.in_err-found.ensures.lookup.3 begins

pub returns-then-from-place : goal.returns-then-from-place
returns-then-from-place g c =
    let xs : List g.row.T.Denot = c.args.things.now in
    let begins : Begins g.T.Placed.place_of xs c.args.place c.partition_point-begun.result =
    IsPartitionPoint-from_clause (λ x. ltb (g.T.Placed.place_of x) c.args.place) xs _ c.partition_point-begun.ensures.partitioned
    (parts g.T.Placed.place_of xs c.args.place c.requires) (λ a r f h. search rules) in
    let at = c.in_ok-found.ensures.lookup in
    found g.T.Placed.place_of xs c.args.place c.partition_point-begun.result c.in_ok-found.found.now (ltb-true _ _ (sym at.0)) begins
    (sym (ap g.T.Placed.place_of at.1) ∙ sym c.place.ensures ∙ sym c.from.ensures ∙ c.if-from-place.true)

pub returns-else-from-place : goal.returns-else-from-place
returns-else-from-place g c =
    let xs : List g.row.T.Denot = c.args.things.now in
    let begins : Begins g.T.Placed.place_of xs c.args.place c.partition_point-begun.result =
    IsPartitionPoint-from_clause (λ x. ltb (g.T.Placed.place_of x) c.args.place) xs _ c.partition_point-begun.ensures.partitioned
    (parts g.T.Placed.place_of xs c.args.place c.requires) (λ a r f h. search rules) in
    let at = c.in_ok-found.ensures.lookup in
    missed g.T.Placed.place_of xs c.args.place c.partition_point-begun.result c.in_ok-found.found.now
    (ltb-true _ _ (sym at.0)) c.requires begins
    (λ same. c.if-from-place.false (c.from.ensures ∙ c.place.ensures ∙ ap g.T.Placed.place_of at.1 ∙ same))
