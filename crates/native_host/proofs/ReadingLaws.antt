-- Laws of readings: what begins at an address, and the typed objects one after the other.
use Rattle.native_host.proofs.Common.{◌≡◌, ℕ, ◌+◌, ◌*◌, ◌<◌, ◌≤◌, List, length, drop, get_or, Option, None, sym, ap, ap₂, ◌∙◌, arith}
use Rattle.native_host.proofs.Common.{add-one, option_map, option_or, drop_all, drop_more, Notes, TypedObject, Placement, object_at}
use Rattle.native_host.proofs.Common.{shape_bytes, pointer_from, Places, IsOf, instance_bytes, object_base, placement_of}
use Rattle.host_model.specs.Readings.{entry_named, handle_named, instance_named, method_named, thing_at}
use Rattle.native_host.proofs.KeptLaws.{instance_bytes-is, object_base-is}
use Rattle.note_types.specs.declared.value.Value.TheVariants as value

-- ---- things of the native area

pub method-is : (w : ℕ) (notes : Notes) (p : Places) (x : ℕ) → IsOf w notes p
    → thing_at (p.native + 16) p.methods x ≡ method_named notes (placement_of p) x
method-is w notes p x of = ap (λ n. thing_at (p.native + 16) n x) of.methods

pub entry-is : (w : ℕ) (notes : Notes) (p : Places) (x : ℕ) → IsOf w notes p
    → thing_at (p.native + 16 * (1 + p.methods)) p.functions x ≡ entry_named notes (placement_of p) x
entry-is w notes p x of =
    let first : p.native + 16 * (1 + p.methods) ≡ p.native + 16 * (1 + length notes.methods + 0) = omega (arith, of.methods) in
    ap₂ (λ a n. thing_at a n x) first of.functions

pub handle-is : (w : ℕ) (notes : Notes) (p : Places) (x : ℕ) → IsOf w notes p
    → thing_at (p.native + 16 * (1 + p.methods + p.functions)) 1024 x ≡ handle_named notes (placement_of p) x
handle-is w notes p x of =
    let first : p.native + 16 * (1 + p.methods + p.functions)
    ≡ p.native + 16 * (1 + length notes.methods + length notes.function + 0) = omega (arith, of.methods, of.functions) in
    ap (λ a. thing_at a 1024 x) first

-- ---- typed objects

-- the typed object of number k, and those after it, where one of them begins at x as this says
pub pointer-step : (w : ℕ) (notes : Notes) (p : Places) (os : List TypedObject) (k x base size : ℕ) (d : TypedObject) (r : Option ℕ)
    → IsOf w notes p → k < length os → base ≡ object_base p k → size ≡ instance_bytes p (get_or os k d).shape
    → r ≡ instance_named base size (get_or os k d).count x
    → pointer_from w notes (placement_of p) k (drop k os) x
    ≡ option_or (option_map (λ i. value.Ptr k i) r) (pointer_from w notes (placement_of p) (k + 1) (drop (k + 1) os) x)
unfolding pointer_from
pointer-step w notes p os k x base size d r of less at bytes is =
    let o : TypedObject = get_or os k d in
    let named : instance_named (object_at notes (placement_of p) k) (shape_bytes w notes o.shape) o.count x ≡ r =
    ap₂ (λ b n. instance_named b n o.count x) (sym (at ∙ object_base-is w notes p k of))
    (sym (bytes ∙ instance_bytes-is w notes p o.shape of))
    ∙ sym is in
    ap (λ qs. pointer_from w notes (placement_of p) k qs x) (drop_more os k d less)
    ∙ ap₂ (λ q j. option_or (option_map (λ i. value.Ptr k i) q) (pointer_from w notes (placement_of p) j (drop (k + 1) os) x)) named
    (sym (add-one k))

-- no typed object is left
pub pointer-end : (w : ℕ) (notes : Notes) (P : Placement) (os : List TypedObject) (k x : ℕ) → length os ≤ k
    → pointer_from w notes P k (drop k os) x ≡ None
unfolding pointer_from
pointer-end w notes P os k x last = ap (λ qs. pointer_from w notes P k qs x) (drop_all k os last)
