-- Sets of local fields: the fields that a call may write are some that there are.
use Rattle.rules_laws.proofs.Common.{◌≡◌, ℕ, suc, ◌^◌, ◌<◌, ◌⊎◌, Bool, true, false, nat_lt, List, [], ◌∷◌, length, Some, slice_get}
use Rattle.rules_laws.proofs.Common.{if◌then◌else◌, ⊎_elim, inl, inr, refl, arith, or_lt, pow-lt, IsKnown, local_fields, SlotKind, Item}
use Rattle.rules_laws.proofs.Common.{Slot, FnNote, Notes, WantParam, Ty, all_lent_out}
use Rattle.std.specs.{Prelude.bit_or, Int.bit_at}
use Rattle.std.proofs.lemmas.Nat.Bits.{bit_at-lt, bit_at-pow_other, bit_at-zero, bit_at_or}
use Rattle.std.proofs.lemmas.Bool.{cases_eq}
use Rattle.note_types.specs.Known.{AreFields}
use Rattle.note_types.specs.declared.notes.Want.{Want}
use Rattle.rules_flow.specs.Arguments.{lent_out}
use Rattle.note_types.specs.declared.notes.Want.TheVariants as want
use Rattle.note_types.specs.declared.types.Ty.TheVariants as ty

-- the one bit of a power
power_bit : (x y : ℕ) → bit_at (2 ^ x) y ≡ 1 → y ≡ x
power_bit x y h = ⊎_elim (λ e. e) (λ n. let z = bit_at-pow_other x y n in absurd (omega arith)) (cases_eq y x)

-- a bit of an `|` is one of either number
either_bit : (a b x : ℕ) → bit_at (bit_or a b) x ≡ 1 → (bit_at a x ≡ 1) ⊎ (bit_at b x ≡ 1)
either_bit a b x h =
    let m = bit_at_or a b x in let k = bit_at-lt a x in let l = bit_at-lt b x in
    ⊎_elim (λ e. inl e) (λ n. inr (let p : ¬ (bit_at a x ≡ 1) = n in omega arith)) (cases_eq (bit_at a x) 1)

module _ (notes : Notes) (f : FnNote) where
  -- a set of local fields
  pub record AreLocal (set : ℕ) : Type 0 where
    pub below : set < 2 ^ 64
    pub fields : AreFields notes f set

  pub no_local : AreLocal 0
  no_local = record { below = omega arith; fields = λ x h. let z = bit_at-zero x in absurd (omega arith) }

  pub one_local : (x : ℕ) → x < 64 → x < length (local_fields notes f) → (b : Bool) → AreLocal (if b then 2 ^ x else 0)
  one_local x w l true = record { below = pow-lt w; fields = λ y h. let e : y ≡ x = power_bit x y h in omega arith }
  one_local x w l false = no_local

  pub union : (a b : ℕ) → AreLocal a → AreLocal b → AreLocal (bit_or a b)
  union a b h g = record {
    below = or_lt 64 a b h.below g.below;
    fields = λ x e. ⊎_elim (h.fields x) (g.fields x) (either_bit a b x e);
  }

  lent_out-local : (w : Want) (x : Item) → ((kind : SlotKind) (t : Ty) → x ≡ Slot kind t → IsKnown notes f t) → AreLocal (lent_out w x)
  lent_out-local (want.Out cell) (Slot kind (ty.Local x)) h = let k = h kind (ty.Local x) refl in one_local x k.bounded k.names
      (nat_lt x 64)
  lent_out-local _ _ h = no_local

  pub all_lent_out-local : (params : List WantParam) (items : List Item)
      → ((k : ℕ) (kind : SlotKind) (t : Ty) → slice_get items k ≡ Some (Slot kind t) → IsKnown notes f t)
      → AreLocal (all_lent_out params items)
  unfolding all_lent_out
  all_lent_out-local [] items h = no_local
  all_lent_out-local (p ∷ ps) [] h = no_local
  all_lent_out-local (p ∷ ps) (x ∷ xs) h =
      union (lent_out p.want x) (all_lent_out ps xs) (lent_out-local p.want x (λ kind t e. h 0 kind t cc))
      (all_lent_out-local ps xs (λ k kind t e. h (suc k) kind t e))
