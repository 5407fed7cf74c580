use Rattle.label_places.proofs.Common.{List, arith, leb, rules, sym, get_or_default, IsPartitionPoint-from_clause, IsPartitionedBy-leb}
use Rattle.std.proofs.{Common.ℕ, lemmas.Bool.ltb-true}
use Rattle.label_places.proofs.EndLaws.{Parts, next-none, next-some}
use Rattle.label_places.proofs.places.next_above.Goals as goal

pub returns-then-next-bound : goal.returns-then-next-bound
returns-then-next-bound c =
    let xs : List ℕ = c.args.ascending.now in
    let k = c.partition_point-above.result in
    let parts : Parts (λ (x : ℕ). x) xs c.args.place k =
    IsPartitionPoint-from_clause (λ (x : ℕ). leb x c.args.place) xs _ c.partition_point-above.ensures.partitioned
    (IsPartitionedBy-leb (λ (x : ℕ). x) xs c.args.place c.requires) (λ a r f h. search rules) in
    let at = c.in-Some.ensures.lookup in
    next-some c.args.place c.args.bound k c.in-Some.next.now xs c.requires parts (ltb-true _ _ (sym at.0)) at.1 c.if-next-bound.true

pub returns-else-next-bound : goal.returns-else-next-bound
returns-else-next-bound c =
    let xs : List ℕ = c.args.ascending.now in
    let k = c.partition_point-above.result in
    let parts : Parts (λ (x : ℕ). x) xs c.args.place k =
    IsPartitionPoint-from_clause (λ (x : ℕ). leb x c.args.place) xs _ c.partition_point-above.ensures.partitioned
    (IsPartitionedBy-leb (λ (x : ℕ). x) xs c.args.place c.requires) (λ a r f h. search rules) in
    let at = c.in-Some.ensures.lookup in
    let far = c.if-next-bound.false in
    let is = at.1 in
    next-none c.args.place c.args.bound k xs c.requires parts
    (λ d inside. let same = get_or_default xs k d c.in-Some.next.now inside in omega (arith, far, is, same))

pub returns-in-None : goal.returns-in-None
returns-in-None c =
    let xs : List ℕ = c.args.ascending.now in
    let k = c.partition_point-above.result in
    let parts : Parts (λ (x : ℕ). x) xs c.args.place k =
    IsPartitionPoint-from_clause (λ (x : ℕ). leb x c.args.place) xs _ c.partition_point-above.ensures.partitioned
    (IsPartitionedBy-leb (λ (x : ℕ). x) xs c.args.place c.requires) (λ a r f h. search rules) in
    let past = c.in-None.ensures.lookup.3 in
    next-none c.args.place c.args.bound k xs c.requires parts (λ d inside. absurd (omega (arith, past, inside)))
