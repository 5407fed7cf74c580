-- What the laws of the host take of a valid placement, where the world is as the rules on an image and the reader of scripts
-- have it.
use Rattle.host_laws.proofs.Common.{◌≡◌, ℕ, ◌+◌, Bool, true, false, if◌then◌else◌, nat_lt, List, Some, None, length, same_Some, none-some}
use Rattle.host_laws.proofs.Common.{slice_get-get_or, IsWidth, WorldFits, Frame, addresses, Named, made_objects, Placement, IsPlacement}
use Rattle.host_laws.proofs.Common.{object_address, object_at, World}
use Rattle.neutral_machine.specs.Named.{HasObjects}
use Rattle.host_model.specs.Objects.{no_shape}
use Rattle.neutral_machine.proofs.NamedThings.{things_named}

pub has_objects : (world : World) → WorldFits world → HasObjects world
has_objects world ok = record {
  shaped = λ n k o g. ok.shapes o.shape _ (slice_get-get_or world.notes.shape o.shape no_shape (ok.objects n k o g).0);
  counted = λ n k o g. (ok.objects n k o g).1;
  inside = ok.statics_inside;
  apart = λ j k s t a b ne. ok.statics_apart j k s t a b ne;
}

pub named : (w : ℕ) (world : World) (P : Placement) → IsWidth w → WorldFits world → IsPlacement w world P → (n : ℕ) (fs : List Frame)
    → Named w world.notes P (made_objects world.notes world.script n) (addresses w world.notes P fs)
named w world P h ok pl n fs = things_named w world P h (has_objects world ok) pl n fs

-- an object's address by either name
pub base_is : (w : ℕ) (world : World) (P : Placement) → IsWidth w → WorldFits world → IsPlacement w world P → (k base : ℕ)
    → object_address world.notes P k ≡ Some base → object_at world.notes P k ≡ base
base_is w world P h ok pl k base e = go (nat_lt k (length world.notes.statics + length P.objects)) e
  where
    go : (b : Bool) → (if b then Some (object_at world.notes P k) else None) ≡ Some base → object_at world.notes P k ≡ base
    go true e = same_Some (object_at world.notes P k) base e
    go false e = absurd (none-some base e)
