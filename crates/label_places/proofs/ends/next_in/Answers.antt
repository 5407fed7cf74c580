use Rattle.label_places.proofs.Common.{◌<◌, All, List, leb, rules, subst, sym, IsPartitionPoint-from_clause, IsPartitionedBy-leb, Position}
use Rattle.label_places.proofs.Common.{HasEnd}
use Rattle.label_places.proofs.EndLaws.{Parts, above-rest, end-all, rest_of}
use Rattle.label_places.proofs.ends.next_in.Goals as goal

pub first_in-requires-clause-above : goal.first_in-requires-clause-above
first_in-requires-clause-above c =
    let ps : List Position = c.args.positions.now in
    let k = c.partition_point-above.result in
    let parts : Parts (λ (q : Position). q.place) ps c.args.place k =
    IsPartitionPoint-from_clause (λ (q : Position). leb q.place c.args.place) ps _ c.partition_point-above.ensures.partitioned
    (IsPartitionedBy-leb (λ (q : Position). q.place) ps c.args.place c.requires) (λ a r f h. search rules) in
    subst (All (λ (q : Position). c.args.place < q.place)) (sym (rest_of k ps)) (above-rest c.args.place k ps parts)

pub returns : goal.returns
returns c =
    let ps : List Position = c.args.positions.now in
    let k = c.partition_point-above.result in
    let parts : Parts (λ (q : Position). q.place) ps c.args.place k =
    IsPartitionPoint-from_clause (λ (q : Position). leb q.place c.args.place) ps _ c.partition_point-above.ensures.partitioned
    (IsPartitionedBy-leb (λ (q : Position). q.place) ps c.args.place c.requires) (λ a r f h. search rules) in
    end-all c.args.position.object c.args.position.section c.args.place c.args.bound ps k c.first_in.result parts
    c.partition_point-above.ensures.bound
    (subst (λ (qs : List Position). HasEnd c.args.position.object c.args.position.section c.args.place c.args.bound qs c.first_in.result)
    (rest_of k ps) c.first_in.ensures)
