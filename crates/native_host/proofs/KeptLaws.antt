-- Laws of what a host keeps: it is what the notes and the placement have.
use Rattle.native_host.proofs.Common.{◌≡◌, ℕ, zero, suc, ◌+◌, ◌-◌, ◌*◌, ◌%◌, ◌^◌, List, [], ◌∷◌, length, map, Option, Some, None, refl, ap}
use Rattle.native_host.proofs.Common.{ap₂, ◌∙◌, arith, if◌then◌else◌, slice_get, nat_lt, slice_index, option_map_or, length-map, size_at}
use Rattle.native_host.proofs.Common.{Notes, Static, TypedObject, object_at, shape_bytes, Field, cell_address, Places, IsOf, instance_bytes}
use Rattle.native_host.proofs.Common.{object_base, placement_of}
use Rattle.std.specs.Prelude.{IfNone, slice_index_or}
use Rattle.note_types.specs.declared.shape.Shape.{Shape}
use Rattle.host_model.specs.{Objects.no_shape, Placements.instance_address}

-- a number that an item of a list has, and 0 past its end
index-map : {A : Type 0} (f : A → ℕ) (xs : List A) (k : ℕ) → slice_index (map f xs) k ≡ option_map_or f (slice_get xs k) 0
index-map f [] k = refl
index-map f (x ∷ xs) zero = refl
index-map f (x ∷ xs) (suc k) = index-map f xs k

pub index-sizes : (w : ℕ) (xs : List Shape) (k : ℕ) → slice_index (map (size_at w) xs) k ≡ size_at w (slice_index_or xs k no_shape)
index-sizes w [] k = omega arith
index-sizes w (x ∷ xs) zero = refl
index-sizes w (x ∷ xs) (suc k) = index-sizes w xs k

pub object_base-is : (w : ℕ) (notes : Notes) (p : Places) (k : ℕ) → IsOf w notes p → object_base p k ≡ object_at notes (placement_of p) k
unfolding object_at
object_base-is w notes p k of =
    let count : length p.statics ≡ length notes.statics = ap length of.statics ∙ length-map notes.statics (λ (s : Static). s.place) in
    ap₂ (λ n x. if nat_lt k n then p.image + x else slice_index p.objects (k - n)) count
    (ap (λ xs. slice_index xs k) of.statics ∙ index-map (λ (s : Static). s.place) notes.statics k)

pub instance_bytes-is : (w : ℕ) (notes : Notes) (p : Places) (s : ℕ) → IsOf w notes p → instance_bytes p s ≡ shape_bytes w notes s
instance_bytes-is w notes p s of = ap (λ xs. slice_index xs s) of.sizes ∙ index-sizes w notes.shape s

sizes-agree : (f g : ℕ → ℕ) (o : Option TypedObject) → ((s : ℕ) → f s ≡ g s)
    → option_map_or (λ (t : TypedObject). f t.shape) o 0 ≡ option_map_or (λ (t : TypedObject). g t.shape) o 0
sizes-agree f g None same = refl
sizes-agree f g (Some t) same = same t.shape

-- the address of an instance, as a host counts it
pub instance-is : (w : ℕ) (notes : Notes) (p : Places) (made : List TypedObject) (o i : ℕ) → IsOf w notes p
    → object_base p o + i * option_map_or (λ (t : TypedObject). instance_bytes p t.shape) (slice_get made o) 0
    ≡ instance_address w notes (placement_of p) made o i
instance-is w notes p made o i of =
    ap₂ (λ b n. b + i * n) (object_base-is w notes p o of)
    (sizes-agree (instance_bytes p) (shape_bytes w notes) (slice_get made o) (λ s. instance_bytes-is w notes p s of))

-- a product modulo 2 ^ 64 counts as the product in a sum modulo 2 ^ 64
pub word-sum : (b x : ℕ) → (b + x % 2 ^ 64) % 2 ^ 64 ≡ (b + x) % 2 ^ 64
word-sum b x = omega arith

-- the address of a field of an instance, as a host counts it
pub address-is : (w : ℕ) (notes : Notes) (p : Places) (made : List TypedObject) (o i base size start : ℕ) (x : Field) → IsOf w notes p
    → base ≡ object_base p o → size ≡ option_map_or (λ (t : TypedObject). instance_bytes p t.shape) (slice_get made o) 0
    → start ≡ x.n * w + x.c → base + i * size + start ≡ cell_address w notes (placement_of p) made o i x
address-is w notes p made o i base size start x of at bytes from =
    ap₂ (λ a b. a + b) (ap₂ (λ b n. b + i * n) at bytes ∙ instance-is w notes p made o i of) from

-- what holds where there is no number
pub if-none : (r : Option ℕ) (A : Type 0) → A → IfNone r A
if-none None A a = a
if-none (Some x) A a = tt
