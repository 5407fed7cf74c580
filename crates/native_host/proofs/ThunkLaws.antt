-- Laws of thunk cells: what the host sees of one, and what it stores.
use Rattle.native_host.proofs.Common.{◌≡◌, ℕ, ◌+◌, ◌*◌, ◌≤◌, Bool, true, false, if◌then◌else◌, Option, Some, refl, sym, ap, ◌∙◌, arith}
use Rattle.native_host.proofs.Common.{le_refl, option_map_or, same_Some, little_endian, holds, IsWidth, by_width, Memory, byte_at}
use Rattle.native_host.proofs.Common.{held_number, memory_after, ranges, held_number-held, memory_after-absent, Concrete, stored, Notes}
use Rattle.native_host.proofs.Common.{KeepsObjects, Placement, World, memory_state, with_memory, stored-memory, Places, IsOf, placement_of}
use Rattle.ebc_width.proofs.RangeLaws.{holds-within}
use Rattle.host_model.specs.{HostPlans.NamesNone, HostPlans.Names, HostPlans.NotMapped, HostSteps.entered_at, HostSteps.thunk_place}
use Rattle.host_model.specs.{HostSteps.thunk_view, Placements.thunk_at}
use Rattle.entry_thunk.proofs.CellLaws.{keeps-stored}

-- the first four bytes of eight that one object holds
pub held-four : (m : Memory) (a : ℕ) → holds (ranges m) a 8 ≡ true → held_number m a 4 ≡ Some (little_endian (byte_at m) a 4)
held-four m a held = held_number-held m a 4 (holds-within (ranges m) a 8 a 4 held (le_refl a) (omega arith))

-- and as many as an address has
pub held-address : (w : ℕ) (m : Memory) (a : ℕ) → IsWidth w → holds (ranges m) a 8 ≡ true → holds (ranges m) a w ≡ true
held-address w m a width held =
    holds-within (ranges m) a 8 a w held (le_refl a) (by_width (λ v. a + v ≤ a + 8) w width (omega arith) (omega arith))

pub view-absent : (world : World) (P : Placement) (m : Memory) (a : ℕ) → holds (ranges m) a 8 ≡ false
    → thunk_view world P (memory_state m) a ≡ NotMapped
unfolding thunk_view
view-absent world P m a absent =
    ap (λ (b : Bool). if b then option_map_or Names (entered_at world.notes (thunk_place P a (little_endian (byte_at m) a 4))) NamesNone
    else NotMapped) absent

pub view-held : (world : World) (notes : Notes) (P : Placement) (m : Memory) (a offset place : ℕ) (r : Option ℕ)
    → holds (ranges m) a 8 ≡ true
    → Some offset ≡ held_number m a 4 → place ≡ thunk_place P a offset → r ≡ entered_at notes place → world.notes ≡ notes
    → thunk_view world P (memory_state m) a ≡ option_map_or Names r NamesNone
unfolding thunk_view
view-held world notes P m a offset place r held loaded at found same =
    let is : offset ≡ little_endian (byte_at m) a 4 = same_Some offset _ (loaded ∙ held-four m a held) in
    ap (λ (b : Bool). if b then option_map_or Names (entered_at world.notes (thunk_place P a (little_endian (byte_at m) a 4))) NamesNone
    else NotMapped) held
    ∙ ap (λ o. option_map_or Names o NamesNone)
    (ap (λ n. entered_at n (thunk_place P a (little_endian (byte_at m) a 4))) same
    ∙ (ap (entered_at notes) (ap (thunk_place P a) (sym is) ∙ sym at) ∙ sym found))

-- a store leaves each object where it is
pub keeps-any : (m n : Memory) (a k v : ℕ) → n ≡ memory_after m a k v → KeepsObjects m n
keeps-any m n a k v is = either (holds (ranges m) a k) refl
  where
    same : (n : Memory) → n ≡ m → KeepsObjects m n
    same n e = record {
      objects = ap ranges e;
      byte_limit = ap (λ (o : Memory). o.byte_limit) e;
      object_limit = ap (λ (o : Memory). o.object_limit) e;
    }

    either : (b : Bool) → holds (ranges m) a k ≡ b → KeepsObjects m n
    either true held = keeps-stored m n a k v held is
    either false absent = same n (is ∙ memory_after-absent m a k v absent)

pub same-name : (f g : ℕ) → Names f ≡ Names g → f ≡ g
same-name f g e = cc

-- the store of a thunk's address
pub thunk-stored : (w : ℕ) (notes : Notes) (p : Places) (s : Concrete) (m n : Memory) (a f x : ℕ) → IsWidth w → IsOf w notes p
    → holds (ranges m) a 8 ≡ true → x ≡ p.native + 16 * (1 + p.methods + f) → n ≡ memory_after m a w x
    → stored (with_memory s m) a w (thunk_at notes (placement_of p) f) ≡ Some (with_memory s n)
thunk-stored w notes p s m n a f x width of held is after =
    let number : thunk_at notes (placement_of p) f ≡ x = omega (arith, is, of.methods) in
    ap (stored (with_memory s m) a w) number ∙ stored-memory s m n a w x (held-address w m a width held) after
