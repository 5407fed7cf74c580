-- A `&` to a block's bytes reaches each that is written. Assumes `Logic`.
use denote.RawPtr.{RawPtr}
use denote.Param.Shared.{copy_shared}
use denote.Struct.Laws.{field_copy}
use denote.Struct.Lending.{of_Lends}
use Rattle.core.specs.contracts.marker.PhantomData as marker
use Rattle.raw_region.specs.contracts.parts.Cells as C
use Rattle.raw_region.proofs.parts.Cells.TheLaw.Statement.{statement}
use Rattle.raw_region.proofs.Sharing.{cells_shares_laws, Lends-cells}

pub shares : statement
shares = of_Lends C.struct (C.the_codes (marker.the_row RawPtr).coded) C.the_heap C.the_lent
    (λ d p. cells_shares_laws d.at d.slots) (copy_shared (marker.the_field RawPtr) (field_copy (marker.the_type RawPtr) tt), tt)
    (λ M 𝓤 𝓛 d p. Lends-cells 𝓛 C.the_row.lives (λ x m. m) d.at d.slots)
