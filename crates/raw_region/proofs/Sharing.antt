-- A `&` to a block's bytes is made where one to a byte is. Assumes `Logic`.
use mathlib.Core.Path.{refl}
use Prim.Native.Nat.{ℕ, ◌+◌}
use Rattle.std.specs.Prelude.{List, [], ◌∷◌, Option, Some, None}
use seplogic.Ra.Ura.{Ura}
use base.Fml.{Lft, Incl, ftrue, ffalse}
use types.Logic.{Logic}
use denote.Builtin.{u8}
use denote.Param.Laws.{Laws, of_field}
use denote.Param.Shared.{copy_shared}
use denote.RawPtr.{Ptr, block_ptr, null_ptr}
use denote.Sharing.{ShrLaws, said}
use denote.SharingLaws.{beside_shr_laws, nothing_shr_laws, said_shr_laws}
use denote.Shares.{Shares-less}
use denote.Struct.Field.{u8-field}
use denote.Struct.Laws.{u8-laws, u8-copy}
use denote.Struct.Lending.{Lends, Lends-both, Lends-nothing, Lends-said, Lends-false}
use Rattle.raw_region.specs.Ownership.{slot, slots, slot_lent, slots_lent, few_bytes, cells_owns, cells_shares}

byte_laws : Laws u8
byte_laws = of_field u8-field u8-laws refl (copy_shared u8-field u8-copy)

slot_lent_laws : (b o : ℕ) (c : Option ℕ) → ShrLaws (slot_lent b o c)
slot_lent_laws b o (Some x) = byte_laws.shr_laws x b o
slot_lent_laws b o None = nothing_shr_laws

slots_lent_laws : (b o : ℕ) (cs : List (Option ℕ)) → ShrLaws (slots_lent b o cs)
slots_lent_laws b o [] = nothing_shr_laws
slots_lent_laws b o (c ∷ cs) = beside_shr_laws _ _ (slot_lent_laws b o c) (slots_lent_laws b (o + 1) cs)

pub cells_shares_laws : (p : Ptr) (cs : List (Option ℕ)) → ShrLaws (cells_shares p cs)
cells_shares_laws (block_ptr b o) cs = beside_shr_laws _ _ (said_shr_laws (few_bytes cs) tt) (slots_lent_laws b o cs)
cells_shares_laws null_ptr cs = said_shr_laws ffalse tt

module _ {M : Type 1} {𝓤 : Ura M} (𝓛 : Logic 𝓤) (l : Lft) (inc : Incl l u8.lives) where
  Lends-slot : (b o : ℕ) (c : Option ℕ) → Lends 𝓛 (slot b o c) (slot_lent b o c) l
  Lends-slot b o (Some x) = λ κ ts. Shares-less 𝓛 u8 u8.lives l inc (byte_laws.shares 𝓛) x κ ts b o
  Lends-slot b o None = Lends-nothing 𝓛 (slot b o None) l

  Lends-slots : (b o : ℕ) (cs : List (Option ℕ)) → Lends 𝓛 (slots b o cs) (slots_lent b o cs) l
  Lends-slots b o [] = Lends-nothing 𝓛 ftrue l
  Lends-slots b o (c ∷ cs) =
      Lends-both 𝓛 (slot b o c) (slots b (o + 1) cs) (slot_lent b o c) (slots_lent b (o + 1) cs) l (Lends-slot b o c)
      (Lends-slots b (o + 1) cs)

  pub Lends-cells : (p : Ptr) (cs : List (Option ℕ)) → Lends 𝓛 (cells_owns p cs) (cells_shares p cs) l
  Lends-cells (block_ptr b o) cs = Lends-both 𝓛 (few_bytes cs) (slots b o cs) (said (few_bytes cs)) (slots_lent b o cs) l
      (Lends-said 𝓛 (few_bytes cs) tt l)
      (Lends-slots b o cs)
  Lends-cells null_ptr cs = Lends-false 𝓛 (said ffalse) l
