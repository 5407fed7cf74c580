use Rattle.note_infer.proofs.Common.{◌≡◌, List, rules, leb, subst, sym, true, false, IsPartitionPoint, IsPartitionedBy, FnNote}
use Rattle.std.proofs.lemmas.List.Sorted.{IsPartitionPoint-from_clause}
use Rattle.note_infer.proofs.Owning.{ends_parted, owner_is}
use Rattle.note_infer.proofs.rounds.Rounds.owner.Goals as goal

pub returns : goal.returns
returns c =
    let xs : List FnNote = c.as_slice.result.now in
    let parted : IsPartitionedBy (λ (f : FnNote). leb f.end c.args.place) xs =
    subst (IsPartitionedBy (λ (f : FnNote). leb f.end c.args.place)) (sym c.as_slice.ensures)
    (ends_parted c.args.self.now.image.now c.args.self.now.notes.now c.requires.functions c.args.place) in
    owner_is c.args.self.now.image.now c.args.self.now.notes.now c.requires.functions c.args.place _
    (subst (λ ys. IsPartitionPoint (λ (f : FnNote). leb f.end c.args.place ≡ true)
    (λ (f : FnNote). leb f.end c.args.place ≡ false) ys c.partition_point.result) c.as_slice.ensures
    (IsPartitionPoint-from_clause (λ (f : FnNote). leb f.end c.args.place) xs _ c.partition_point.ensures.partitioned parted
    (λ a r f h. search rules)))
