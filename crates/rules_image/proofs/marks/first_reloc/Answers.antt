use Rattle.std.proofs.Common.{◌≡◌, ◌-◌, ℕ, List, rules, ltb, subst, sym, true, false}
use Rattle.std.specs.List.Sorted.{IsPartitionPoint, IsPartitionedBy}
use Rattle.std.proofs.lemmas.List.Sorted.{IsPartitionPoint-from_clause}
use Rattle.rules_image.proofs.Relocs.{relocs_from, relocs_parted}
use Rattle.rules_image.proofs.marks.first_reloc.Goals as goal

pub returns : goal.returns
returns c =
    let xs : List ℕ = c.as_slice.result.now in
    let parted : IsPartitionedBy (λ (r : ℕ). ltb r (c.args.place - 7)) xs =
    subst (IsPartitionedBy (λ (r : ℕ). ltb r (c.args.place - 7))) (sym c.as_slice.ensures)
    (relocs_parted c.args.image.now (c.args.place - 7) c.requires) in
    relocs_from c.args.image.now c.args.place _
    (subst (λ ys. IsPartitionPoint (λ (r : ℕ). ltb r (c.args.place - 7) ≡ true)
    (λ (r : ℕ). ltb r (c.args.place - 7) ≡ false) ys c.partition_point.result) c.as_slice.ensures
    (IsPartitionPoint-from_clause (λ (r : ℕ). ltb r (c.args.place - 7)) xs _ c.partition_point.ensures.partitioned parted
    (λ a r f h. search rules)))
