-- Laws of objects that are placed: the memory with an object more is the state with its zeros more.
use Rattle.native_host.proofs.Common.{◌≡◌, ℕ, ◌+◌, ◌<◌, ◌≤◌, Bool, true, false, if◌then◌else◌, List, [], ◌∷◌, ◌++◌, length, map, take, drop}
use Rattle.native_host.proofs.Common.{get_or, refl, sym, ap, ap₂, ◌∙◌, arith, add-one, append_assoc, subst, fun_ext, drop_all, drop_more}
use Rattle.native_host.proofs.Common.{map-append, Range, covers, covers-bounds, Memory, byte_at, next_base, placed, range_of, ranges}
use Rattle.native_host.proofs.Common.{byte_at-placed, Concrete, Notes, ScriptObject, with_object, with_objects, script_object, Placement}
use Rattle.native_host.proofs.Common.{object_at, object_bytes, object_range, TypedObject, with_memory, AreComing}
use Rattle.std.proofs.lemmas.List.{take_more}
use Rattle.native_host.specs.Placing.{IsNext}

pub ranges-placed : (w : ℕ) (m : Memory) (n : ℕ) → ranges (placed w m n) ≡ ranges m ++ record { base = next_base w m; size = n } ∷ []
unfolding placed
ranges-placed w m n = map-append range_of m.objects _

-- zeros lie where an object is to come
clear : (b : ℕ → ℕ) (r : Range) (x : ℕ) (c : Bool) → covers x 1 r ≡ c
    → ((y : ℕ) → r.base ≤ y → y < r.base + r.size → b y ≡ 0) → (if c then 0 else b x) ≡ b x
clear b r x false is zeros = refl
clear b r x true is zeros =
    let bounds = covers-bounds r x 1 is in
    let from : r.base ≤ x = bounds.0 in
    let to : x + 1 ≤ r.base + r.size = bounds.1 in
    sym (zeros x from (omega arith))

pub with_object-placed : (w : ℕ) (notes : Notes) (P : Placement) (s : Concrete) (m n : Memory) (o : ScriptObject) (number : ℕ)
    → n ≡ placed w m (object_bytes w notes (script_object o)) → next_base w m ≡ object_at notes P number
    → ((y : ℕ) → next_base w m ≤ y → y < next_base w m + object_bytes w notes (script_object o) → byte_at n y ≡ 0)
    → with_object (with_memory s m) (object_range w notes P number (script_object o)) ≡ with_memory s n
unfolding with_object
with_object-placed w notes P s m n o number is base zeros =
    let bytes : ℕ = object_bytes w notes (script_object o) in
    let r : Range = object_range w notes P number (script_object o) in
    let same : (x : ℕ) → byte_at n x ≡ byte_at m x = λ x. ap (λ k. byte_at k x) is ∙ byte_at-placed w m bytes x in
    ap₂ (λ os b. record s { objects = os; byte = b })
    (ap (λ a. ranges m ++ record { base = a; size = bytes } ∷ []) (sym base) ∙ sym (ap ranges is ∙ ranges-placed w m bytes))
    (fun_ext (λ x. ap (λ y. if covers x 1 r then 0 else y) (sym (same x))
    ∙ (clear (byte_at n) r x (covers x 1 r) refl (λ y from to. zeros y (omega (arith, base)) (omega (arith, base))))))

-- ---- objects one after the other

pub coming-here : (w : ℕ) (notes : Notes) (P : Placement) (number k : ℕ) (m : Memory) (os : List ScriptObject) (d : ScriptObject)
    → k < length os → AreComing w notes P number m (drop k os)
    → IsNext w notes P number m (get_or os k d)
    × AreComing w notes P (number + 1) (placed w m (object_bytes w notes (script_object (get_or os k d)))) (drop (k + 1) os)
coming-here w notes P number k m os d less coming = subst (AreComing w notes P number m) (drop_more os k d less) coming

pub objects-next : (w : ℕ) (notes : Notes) (P : Placement) (first k : ℕ) (os : List ScriptObject) (d : ScriptObject) (s t : Concrete)
    → k < length os → with_object s (object_range w notes P first (script_object (get_or os k d))) ≡ t
    → with_objects w notes P first (map script_object (drop k os)) s
    ≡ with_objects w notes P (first + 1) (map script_object (drop (k + 1) os)) t
unfolding with_objects
objects-next w notes P first k os d s t less one =
    ap (λ qs. with_objects w notes P first (map script_object qs) s) (drop_more os k d less)
    ∙ ap₂ (λ n u. with_objects w notes P n (map script_object (drop (k + 1) os)) u) (sym (add-one first)) one

pub objects-end : (w : ℕ) (notes : Notes) (P : Placement) (first k : ℕ) (os : List ScriptObject) (s : Concrete) → length os ≤ k
    → with_objects w notes P first (map script_object (drop k os)) s ≡ s
unfolding with_objects
objects-end w notes P first k os s past = ap (λ qs. with_objects w notes P first (map script_object qs) s) (drop_all k os past)

pub made-next : (made : List TypedObject) (k : ℕ) (os : List ScriptObject) (d : ScriptObject) → k < length os
    → (made ++ map script_object (take k os)) ++ script_object (get_or os k d) ∷ [] ≡ made ++ map script_object (take (k + 1) os)
made-next made k os d less =
    append_assoc made (map script_object (take k os)) (script_object (get_or os k d) ∷ [])
    ∙ ap (λ xs. made ++ xs) (sym (map-append script_object (take k os) (get_or os k d ∷ []))
    ∙ ap (map script_object) (sym (take_more os k d less)))
