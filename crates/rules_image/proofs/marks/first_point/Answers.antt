use Rattle.std.proofs.Common.{◌≡◌, List, rules, ltb, subst, sym, true, false}
use Rattle.std.specs.List.Sorted.{IsPartitionPoint, IsPartitionedBy}
use Rattle.std.proofs.lemmas.List.Sorted.{IsPartitionPoint-from_clause}
use Rattle.note_types.specs.declared.notes.Point.{Point}
use Rattle.rules_image.proofs.Ascending.{points_parted, points_from}
use Rattle.rules_image.proofs.marks.first_point.Goals as goal

pub returns : goal.returns
returns c =
    let xs : List Point = c.as_slice.result.now in
    let parted : IsPartitionedBy (λ (p : Point). ltb p.place c.args.place) xs =
    subst (IsPartitionedBy (λ (p : Point). ltb p.place c.args.place)) (sym c.as_slice.ensures)
    (points_parted c.args.notes.now c.args.place c.requires) in
    points_from c.args.notes.now c.args.place _
    (subst (λ ys. IsPartitionPoint (λ (p : Point). ltb p.place c.args.place ≡ true)
    (λ (p : Point). ltb p.place c.args.place ≡ false) ys c.partition_point.result) c.as_slice.ensures
    (IsPartitionPoint-from_clause (λ (p : Point). ltb p.place c.args.place) xs _ c.partition_point.ensures.partitioned parted
    (λ a r f h. search rules)))
