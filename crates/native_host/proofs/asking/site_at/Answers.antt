use Rattle.native_host.proofs.Common.{List, Some, ap, sym, ◌∙◌, ltb, rules, option_map, ltb-true, Site}
use Rattle.std.proofs.lemmas.List.Sorted.{IsPartitionPoint-from_clause}
use Rattle.native_host.proofs.AskingLaws.{Begins, place_in, site-found, site-missed, site-parts, site-past}
use Rattle.native_host.proofs.asking.site_at.Goals as goal

pub returns-in_err-found-clause-site : goal.returns-in_err-found-clause-site
returns-in_err-found-clause-site c =
    let xs : List Site = c.args.sites.now in
    let begins : Begins xs c.args.place c.partition_point-begun.result =
    IsPartitionPoint-from_clause (λ (x : Site). ltb x.place c.args.place) xs _ c.partition_point-begun.ensures.partitioned
    (site-parts xs c.args.place c.requires) (λ a r f h. search rules) in
    c.from_residual.ensures
    ∙ sym (ap (option_map (λ (s : Site). s.signature))
    (site-past xs c.args.place c.partition_point-begun.result c.in_err-found.ensures.lookup.3 begins))

pub returns-then-found-place-clause-site : goal.returns-then-found-place-clause-site
returns-then-found-place-clause-site c =
    let xs : List Site = c.args.sites.now in
    let begins : Begins xs c.args.place c.partition_point-begun.result =
    IsPartitionPoint-from_clause (λ (x : Site). ltb x.place c.args.place) xs _ c.partition_point-begun.ensures.partitioned
    (site-parts xs c.args.place c.requires) (λ a r f h. search rules) in
    let at = c.in_ok-found.ensures.lookup in
    ap (λ (s : Site). Some s.signature) at.1
    ∙ sym (ap (option_map (λ (s : Site). s.signature))
    (site-found xs c.args.place c.partition_point-begun.result c.in_ok-found.found.now (ltb-true _ _ (sym at.0)) begins
    (sym (ap place_in at.1) ∙ c.if-found-place.true)))

pub returns-else-found-place-clause-site : goal.returns-else-found-place-clause-site
returns-else-found-place-clause-site c =
    let xs : List Site = c.args.sites.now in
    let begins : Begins xs c.args.place c.partition_point-begun.result =
    IsPartitionPoint-from_clause (λ (x : Site). ltb x.place c.args.place) xs _ c.partition_point-begun.ensures.partitioned
    (site-parts xs c.args.place c.requires) (λ a r f h. search rules) in
    let at = c.in_ok-found.ensures.lookup in
    sym (ap (option_map (λ (s : Site). s.signature))
    (site-missed xs c.args.place c.partition_point-begun.result c.in_ok-found.found.now (ltb-true _ _ (sym at.0)) c.requires begins
    (λ same. c.if-found-place.false (ap place_in at.1 ∙ same))))
