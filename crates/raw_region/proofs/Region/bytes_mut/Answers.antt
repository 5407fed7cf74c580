use Rattle.std.proofs.Common.{refl, ap, ◌∙◌, length}
use Rattle.std.specs.List.{refill}
use Rattle.raw_region.specs.Slots.{written_bytes}
use Rattle.raw_region.proofs.Slots.{written_bytes-map, IsFilled-cells_with}
use Rattle.raw_region.proofs.Region.bytes_mut.Goals as goal

pub invariant_of-self-lent : goal.invariant_of-self-lent
invariant_of-self-lent c = let r = c.self.inside in IsFilled-cells_with r.base r.len r.cells r.deed r.alloc c.self.invariant

pub returns : goal.returns
returns c =
    let bytes = written_bytes c.self.inside.cells.slots in (
      (refl, λ w. written_bytes-map (refill (length bytes) bytes w) ∙ ap (λ xs. refill (length xs) xs w) c.self.view_is),
      record { writes_back = tt; value = c.as_mut_slice.ensures.value ∙ c.self.view_is },
    )
