-- Laws of what is placed at the start: the native area, the stack and the image, and the objects that are to come.
use Rattle.native_host.proofs.Common.{◌≡◌, ℕ, ◌+◌, ◌-◌, ◌%◌, ◌<◌, ◌≤◌, ◌&&◌, true, false, Bool, List, [], ◌∷◌, ◌++◌, length, map, refl, sym}
use Rattle.native_host.proofs.Common.{ap, ap₂, ◌∙◌, arith, if◌then◌else◌, ⊎_elim, sum_by, option_map_or, nat_le, true≢false, fun_ext, Range}
use Rattle.native_host.proofs.Common.{covers, IsWidth, by_width, covers-bounds, Memory, Object, byte_at, first_base, next_base, padded}
use Rattle.native_host.proofs.Common.{placed, range_of, ranges, used, byte_at-placed, used-placed, mapped, Concrete, Notes, Script}
use Rattle.native_host.proofs.Common.{Placement, area_bytes, image_range, native_range, stack_bytes, stack_range, world_of, bare_machine}
use Rattle.native_host.proofs.Common.{World, with_memory}
use Rattle.std.proofs.{Common.◌⊎◌, Common.inl, Common.inr, lemmas.Bool.leb-false}
use Rattle.std.specs.List.{find}
use Rattle.object_memory.specs.Memory.{IsFull, byte_of, has_byte, object_at}
use Rattle.object_memory.proofs.Laws.{ranges-with_bytes}
use Rattle.pe_image.specs.declared.image.Image.{Image}
use Rattle.reloc_loader.specs.Loads.{loaded_at}
use Rattle.host_model.specs.Start.{image_byte}
use Rattle.native_host.proofs.PlaceLaws.{ranges-placed}

pub limits_placed : (w : ℕ) (m : Memory) (n : ℕ) → ((placed w m n).byte_limit ≡ m.byte_limit)
    × ((placed w m n).object_limit ≡ m.object_limit)
unfolding placed
limits_placed w m n = (refl, refl)

pub next_placed : (w : ℕ) (m : Memory) (n : ℕ) → next_base w (placed w m n) ≡ next_base w m + padded n
next_placed w m n = let e = used-placed w m n in omega (arith, e)

used-none : (m : Memory) → m.objects ≡ [] → used m ≡ 0
used-none m e = ap (sum_by (λ (o : Object). padded o.size)) e

next-none : (w : ℕ) (m : Memory) → m.objects ≡ [] → next_base w m ≡ first_base w
next-none w m e = let u = used-none m e in omega (arith, u)

pub objects_placed : (w : ℕ) (m : Memory) (n : ℕ) → length (placed w m n).objects ≡ length m.objects + 1
unfolding placed
objects_placed w m n = one-more m.objects _
  where
    one-more : (os : List Object) (o : Object) → length (os ++ o ∷ []) ≡ length os + 1
    one-more [] o = refl
    one-more (p ∷ os) o = let rest = one-more os o in omega (arith, rest)

-- there is room for a second object, and for a third one
pub two_room : (w : ℕ) (m a : Memory) (x y : ℕ) → m.objects ≡ [] → a ≡ placed w m x → padded x + padded y ≤ m.byte_limit
    → 2 ≤ m.object_limit → IsFull a y → ⊥
two_room w m a x y none pa bytes count full =
    let u : used a ≡ padded x = ap used pa ∙ (used-placed w m x ∙ (let e = used-none m none in omega (arith, e))) in
    let n : length a.objects ≡ 1 = ap (λ k. length k.objects) pa ∙ (objects_placed w m x ∙ (let e = ap length none in omega (arith, e))) in
    let b : a.byte_limit ≡ m.byte_limit = ap (λ k. k.byte_limit) pa ∙ (limits_placed w m x).0 in
    let c : a.object_limit ≡ m.object_limit = ap (λ k. k.object_limit) pa ∙ (limits_placed w m x).1 in
    ⊎_elim (λ over. omega (arith, over, u, b, bytes)) (λ over. omega (arith, over, n, c, count)) full

pub three_room : (w : ℕ) (m a b : Memory) (x y z : ℕ) → m.objects ≡ [] → a ≡ placed w m x → b ≡ placed w a y
    → padded x + padded y + padded z ≤ m.byte_limit → 3 ≤ m.object_limit → IsFull b z → ⊥
three_room w m a b x y z none pa pb bytes count full =
    let u : used a ≡ padded x = ap used pa ∙ (used-placed w m x ∙ (let e = used-none m none in omega (arith, e))) in
    let n : length a.objects ≡ 1 = ap (λ k. length k.objects) pa ∙ (objects_placed w m x ∙ (let e = ap length none in omega (arith, e))) in
    let v : used b ≡ padded x + padded y = ap used pb ∙ (used-placed w a y ∙ ap (λ k. k + padded y) u) in
    let o : length b.objects ≡ 2 = ap (λ k. length k.objects) pb ∙ (objects_placed w a y ∙ (omega (arith, n))) in
    let c : b.byte_limit ≡ m.byte_limit =
    ap (λ k. k.byte_limit) pb ∙ ((limits_placed w a y).0 ∙ (ap (λ k. k.byte_limit) pa ∙ (limits_placed w m x).0)) in
    let d : b.object_limit ≡ m.object_limit =
    ap (λ k. k.object_limit) pb ∙ ((limits_placed w a y).1 ∙ (ap (λ k. k.object_limit) pa ∙ (limits_placed w m x).1)) in
    ⊎_elim (λ over. omega (arith, over, v, c, bytes)) (λ over. omega (arith, over, o, d, count)) full

-- where the third one lies
pub third_base : (w : ℕ) (m a b : Memory) (x y : ℕ) → m.objects ≡ [] → a ≡ placed w m x → b ≡ placed w a y
    → next_base w b ≡ first_base w + padded x + padded y
third_base w m a b x y none pa pb =
    ap (next_base w) pb ∙ (next_placed w a y ∙ ap (λ n. n + padded y) (ap (next_base w) pa ∙ (next_placed w m x
    ∙ ap (λ n. n + padded x) (next-none w m none))))

-- it is even
pub base_even : (w x y b : ℕ) → IsWidth w → b ≡ first_base w + padded x + padded y → b % 2 ≡ 0
base_even w x y b h e =
    let even = by_width (λ v. first_base v % 2 ≡ 0) w h refl refl in
    omega (arith, even, e)

-- three objects that are placed one after the other in an empty memory
pub three_ranges : (w : ℕ) (m a b c : Memory) (x y z : ℕ) → m.objects ≡ [] → a ≡ placed w m x → b ≡ placed w a y → c ≡ placed w b z
    → ranges c ≡ record { base = first_base w; size = x } ∷ record { base = first_base w + padded x; size = y }
    ∷ record { base = first_base w + padded x + padded y; size = z } ∷ []
three_ranges w m a b c x y z none pa pb pc =
    let one : next_base w m ≡ first_base w = next-none w m none in
    let two : next_base w a ≡ first_base w + padded x = ap (next_base w) pa ∙ (next_placed w m x ∙ ap (λ n. n + padded x) one) in
    let three : next_base w b ≡ first_base w + padded x + padded y =
    ap (next_base w) pb ∙ (next_placed w a y ∙ ap (λ n. n + padded y) two) in
    let ra : ranges a ≡ record { base = first_base w; size = x } ∷ [] =
    ap ranges pa ∙ (ranges-placed w m x
    ∙ ap₂ (λ (os : List Object) (n : ℕ). map range_of os ++ record { base = n; size = x } ∷ []) none one) in
    let rb : ranges b ≡ record { base = first_base w; size = x } ∷ record { base = first_base w + padded x; size = y } ∷ [] =
    ap ranges pb ∙ (ranges-placed w a y ∙ ap₂ (λ (rs : List Range) (n : ℕ). rs ++ record { base = n; size = y } ∷ []) ra two) in
    ap ranges pc ∙ (ranges-placed w b z ∙ ap₂ (λ (rs : List Range) (n : ℕ). rs ++ record { base = n; size = z } ∷ []) rb three)

no-byte : (m : Memory) (at : ℕ) → m.objects ≡ [] → byte_at m at ≡ 0
unfolding byte_at object_at
no-byte m at e = ap (λ os. option_map_or (byte_of at) (find (has_byte at) os) 0) e

-- they have zeros
pub three_zeros : (w : ℕ) (m a b c : Memory) (x y z : ℕ) → m.objects ≡ [] → a ≡ placed w m x → b ≡ placed w a y → c ≡ placed w b z
    → (at : ℕ) → byte_at c at ≡ 0
three_zeros w m a b c x y z none pa pb pc at =
    ap (λ k. byte_at k at) pc ∙ (byte_at-placed w b z at ∙ (ap (λ k. byte_at k at) pb ∙ (byte_at-placed w a y at
    ∙ (ap (λ k. byte_at k at) pa ∙ (byte_at-placed w m x at ∙ no-byte m at none)))))

-- and the limits of the memory
pub three_limits : (w : ℕ) (m a b c n : Memory) (x y z base : ℕ) (image : Image) → a ≡ placed w m x → b ≡ placed w a y → c ≡ placed w b z
    → n ≡ loaded_at c image base → (n.byte_limit ≡ m.byte_limit) × (n.object_limit ≡ m.object_limit)
three_limits w m a b c n x y z base image pa pb pc pn = (
  ap (λ k. k.byte_limit) pn ∙ (ap (λ k. k.byte_limit) pc ∙ ((limits_placed w b z).0 ∙ (ap (λ k. k.byte_limit) pb
      ∙ ((limits_placed w a y).0 ∙ (ap (λ k. k.byte_limit) pa ∙ (limits_placed w m x).0))))),
  ap (λ k. k.object_limit) pn ∙ (ap (λ k. k.object_limit) pc ∙ ((limits_placed w b z).1 ∙ (ap (λ k. k.object_limit) pb
      ∙ ((limits_placed w a y).1 ∙ (ap (λ k. k.object_limit) pa ∙ (limits_placed w m x).1))))),
)

-- ---- the image is loaded

-- the bytes of a memory in which an image is loaded, and which has zeros else
pub image_bytes : (m : Memory) (P : Placement) (world : World) (f : ℕ → ℕ)
    → ((x : ℕ) → x < world.image_size → byte_at m (P.image + x) ≡ f x)
    → ((x : ℕ) → (x < P.image) ⊎ (P.image + world.image_size ≤ x) → byte_at m x ≡ 0)
    → (x : ℕ) → byte_at m x ≡ image_byte world P f x
image_bytes m P world f inside outside x = either (covers x 1 (image_range world P)) refl
  where
    apart : (a b : Bool) → nat_le P.image x ≡ a → nat_le (x + 1) (P.image + world.image_size) ≡ b → (a && b) ≡ false
        → (x < P.image) ⊎ (P.image + world.image_size ≤ x)
    apart false b e f is = inl (let l = leb-false P.image x e in omega (arith, l))
    apart true false e f is = inr (let l = leb-false (x + 1) (P.image + world.image_size) f in omega (arith, l))
    apart true true e f is = absurd (true≢false is)

    either : (c : Bool) → covers x 1 (image_range world P) ≡ c → byte_at m x ≡ (if c then f (x - P.image) else 0)
    either true is =
        let bounds = covers-bounds (image_range world P) x 1 is in
        let from : P.image ≤ x = bounds.0 in
        let to : x + 1 ≤ P.image + world.image_size = bounds.1 in
        let there : P.image + (x - P.image) ≡ x = omega (arith, from) in
        ap (byte_at m) (sym there) ∙ inside (x - P.image) (omega (arith, from, to))
    either false is = outside x (apart (nat_le P.image x) (nat_le (x + 1) (P.image + world.image_size)) refl refl is)

-- the machine with what is placed at first
pub bare_is : (w : ℕ) (image : Image) (notes : Notes) (script : Script) (P : Placement) (c n : Memory)
    → P.native ≡ first_base w → P.stack ≡ P.native + padded (area_bytes notes) → P.image ≡ P.stack + padded (stack_bytes w notes)
    → ranges c ≡ record { base = first_base w; size = area_bytes notes }
    ∷ record { base = first_base w + padded (area_bytes notes); size = stack_bytes w notes }
    ∷ record { base = first_base w + padded (area_bytes notes) + padded (stack_bytes w notes); size = image.size } ∷ []
    → ((x : ℕ) → byte_at c x ≡ 0) → n ≡ loaded_at c image P.image
    → ((x : ℕ) → x < image.size → byte_at n (P.image + x) ≡ mapped image P.image x)
    → ((x : ℕ) → (x < P.image) ⊎ (P.image + image.size ≤ x) → byte_at n x ≡ byte_at c x)
    → with_memory (bare_machine w (world_of image notes script) P (mapped image P.image)) n
    ≡ bare_machine w (world_of image notes script) P (mapped image P.image)
unfolding bare_machine
bare_is w image notes script P c n native stack base there zeros loaded inside outside =
    let world : World = world_of image notes script in
    let s : Concrete = bare_machine w world P (mapped image P.image) in
    let two : first_base w + padded (area_bytes notes) ≡ P.stack = ap (λ x. x + padded (area_bytes notes)) (sym native) ∙ sym stack in
    let three : first_base w + padded (area_bytes notes) + padded (stack_bytes w notes) ≡ P.image =
    ap (λ x. x + padded (stack_bytes w notes)) two ∙ sym base in
    let lie : ranges c ≡ native_range notes P ∷ stack_range w notes P ∷ image_range world P ∷ [] =
    there ∙ (ap₂ (λ x y. record { base = x; size = area_bytes notes } ∷ record { base = y; size = stack_bytes w notes }
    ∷ record { base = first_base w + padded (area_bytes notes) + padded (stack_bytes w notes); size = image.size } ∷ []) (sym native) two
    ∙ ap (λ z. native_range notes P ∷ stack_range w notes P ∷ record { base = z; size = image.size } ∷ []) three) in
    let lies : ranges n ≡ native_range notes P ∷ stack_range w notes P ∷ image_range world P ∷ [] =
    ap ranges loaded ∙ (ranges-with_bytes c _ ∙ lie) in
    let bytes : (x : ℕ) → byte_at n x ≡ image_byte world P (mapped image P.image) x =
    image_bytes n P world (mapped image P.image) inside (λ x out. outside x out ∙ zeros x) in
    ap₂ (λ os b. record s { objects = os; byte = b }) lies (fun_ext bytes)
