-- The bytes of an image, one section and one relocation at a time, and in an object of memory.
use Rattle.reloc_loader.proofs.Common.{◌≡◌, ℕ, ◌+◌, ◌%◌, ◌^◌, ◌<◌, ◌≤◌, true, List, length, take, get_or, sym, ap, subst, ◌∙◌, arith, None}
use Rattle.reloc_loader.proofs.Common.{little_endian, put, holds, IsMemory, ranges, with_bytes, Section, laid, moved, within}
use Rattle.std.proofs.Common.{◌-◌, ◌*◌, ◌/◌, ◌⊎◌, inl, inr, ⊎_elim, Bool, false, cond, [], ◌∷◌, ◌++◌, replicate, refl, Option, Some, map}
use Rattle.std.proofs.{Common.zero, Common.suc, lemmas.Bool.cases_lt, lemmas.Bool.Decides.nat_tests, lemmas.List.get_or-take}
use Rattle.std.proofs.lemmas.List.{get_or_past, get_or_default, length-take-le, take_all}
use Rattle.std.proofs.lemmas.List.{take_more, Elements.All-head, Elements.All-tail, Folds.find-append}
use Rattle.std.proofs.lemmas.Option.{get_or_from_slice_get, same_Some, slice_get_within}
use Rattle.std.specs.{Prelude.slice_get, Prelude.All, Prelude.AllPairs, List.find, Option.option_map_or, Option.option_or}
use Rattle.ebc_width.proofs.ByteLaws.{little_endian-agree, little_endian-moved, overlaid-apart, overlaid-moved, overlaid-within, put-apart}
use Rattle.ebc_width.proofs.{Laws.by_width, ByteLaws.put-moved, ByteLaws.put-within, RangeLaws.covers-inside, RangeLaws.holds-at}
use Rattle.ebc_width.specs.Bytes.{overlaid}
use Rattle.object_memory.specs.Memory.{IsPlaced, Memory, Object, byte_at, first_base, next_base, padded, placed, range_of, used}
use Rattle.object_memory.specs.declared.ObjId.{ObjId}
use Rattle.object_memory.proofs.Laws.{byte_at-none, byte_at-with_bytes, holds-with_bytes, with_bytes-agree, with_bytes-same}
use Rattle.pe_image.specs.{Images.EndsBefore, Images.IsBelow, Images.IsSection, Mapped.has_place, Mapped.is_of, Mapped.moved_byte}
use Rattle.pe_image.specs.Mapped.{section_byte}
use Rattle.reloc_loader.specs.Loads.{Becomes, IsPlacedAt}

-- ---- one section more

none_before : (xs : List Section) (p x : ℕ) → All (λ t. t.place + t.size ≤ p) xs → p ≤ x → find (has_place x) xs ≡ None
none_before [] p x all past = refl
none_before (t ∷ ts) p x all past =
    let ends : t.place + t.size ≤ p = All-head (λ s. s.place + s.size ≤ p) t ts all in
    let not_here : has_place x t ≡ false = grind (arith, nat_tests) in
    rw not_here (none_before ts p x (All-tail (λ s. s.place + s.size ≤ p) t ts all) past)

-- the bytes of a section lie over those of the sections that end before it
pub laid-more :
    (xs : List Section) (s : Section) (x : ℕ) → All (λ t. t.place + t.size ≤ s.place) xs → length s.bytes ≤ s.size →
    overlaid (laid xs) s.place s.bytes x ≡ laid (xs ++ s ∷ []) x
unfolding laid
laid-more xs s x before short =
    ⊎_elim
    (λ below. outside (inl below) (grind (arith, nat_tests)))
    (λ from. ⊎_elim (λ to. inside from to) (λ past. outside (inr (omega arith)) (grind (arith, nat_tests))) (cases_lt x (s.place + s.size)))
    (cases_lt x s.place)
  where
    joined : find (has_place x) (xs ++ s ∷ []) ≡ option_or (find (has_place x) xs) (find (has_place x) (s ∷ []))
    joined = find-append (has_place x) xs (s ∷ [])

    kept : (o : Option Section) → option_or o None ≡ o
    kept None = refl
    kept (Some t) = refl

    outside : (x < s.place) ⊎ (s.place + length s.bytes ≤ x) → has_place x s ≡ false
        → overlaid (laid xs) s.place s.bytes x ≡ option_map_or (section_byte x) (find (has_place x) (xs ++ s ∷ [])) 0
    outside out not_here =
        overlaid-apart (laid xs) s.place s.bytes x out
        ∙ ap (λ o. option_map_or (section_byte x) o 0)
        (sym (joined ∙ (ap (λ b. option_or (find (has_place x) xs) (cond b (Some s) None)) not_here ∙ kept (find (has_place x) xs))))

    inside : s.place ≤ x → x < s.place + s.size → overlaid (laid xs) s.place s.bytes x ≡ option_map_or (section_byte x)
        (find (has_place x) (xs ++ s ∷ [])) 0
    inside from to =
        let here : has_place x s ≡ true = grind (arith, nat_tests) in
        let none : find (has_place x) xs ≡ None = none_before xs s.place x before from in
        let found : find (has_place x) (xs ++ s ∷ []) ≡ Some s = joined
        ∙ (ap (λ o. option_or o (find (has_place x) (s ∷ []))) none ∙ ap (λ b. cond b (Some s) None) here) in
        ⊎_elim
        (λ byte. overlaid-within (laid xs) s.place s.bytes x from byte ∙ ap (λ o. option_map_or (section_byte x) o 0) (sym found))
        (λ past. overlaid-apart (laid xs) s.place s.bytes x (inr past)
        ∙ (ap (λ o. option_map_or (section_byte x) o 0) none
        ∙ (sym (get_or_past s.bytes (x - s.place) 0 (omega arith)) ∙ ap (λ o. option_map_or (section_byte x) o 0) (sym found))))
        (cases_lt x (s.place + length s.bytes))

-- those before a section end before it
pub ends_before : (xs : List Section) (i : ℕ) (s : Section) → AllPairs EndsBefore xs → i < length xs → s ≡ get_or xs i s
    → All (λ t. t.place + t.size ≤ s.place) (take i xs)
ends_before xs i s apart inside is k d within =
    let count : length (take i xs) ≡ i = length-take-le i xs (omega arith) in
    let lower : k < i = omega arith in
    let same : get_or xs i d ≡ s = get_or_default xs i d s inside ∙ sym is in
    rw (get_or-take i xs k d lower) (subst (λ t. (get_or xs k d).place + (get_or xs k d).size ≤ t.place) same (apart k i d lower inside))

-- ---- one relocation more

not_of : (qs : List ℕ) (p x : ℕ) → All (λ q. q + 8 ≤ p) qs → p ≤ x → find (is_of x) qs ≡ None
not_of [] p x all past = refl
not_of (q ∷ qs) p x all past =
    let ends : q + 8 ≤ p = All-head (λ r. r + 8 ≤ p) q qs all in
    let not_here : is_of x q ≡ false = grind (arith, nat_tests) in
    rw not_here (not_of qs p x (All-tail (λ r. r + 8 ≤ p) q qs all) past)

unmoved : (b : ℕ → ℕ) (qs : List ℕ) (d p x : ℕ) → All (λ q. q + 8 ≤ p) qs → p ≤ x → moved b qs d x ≡ b x
unfolding moved
unmoved b qs d p x before past = ap (λ o. option_map_or (moved_byte b d x) o (b x)) (not_of qs p x before past)

pub moved-more :
    (b : ℕ → ℕ) (qs : List ℕ) (d p x : ℕ) → All (λ q. q + 8 ≤ p) qs →
    put (moved b qs d) p 8 ((little_endian (moved b qs d) p 8 + d) % 2 ^ 64) x ≡ moved b (qs ++ p ∷ []) d x
unfolding moved
moved-more b qs d p x before =
    ⊎_elim
    (λ below. outside (inl below) (grind (arith, nat_tests)))
    (λ from. ⊎_elim (λ to. inside from to) (λ past. outside (inr past) (grind (arith, nat_tests))) (cases_lt x (p + 8)))
    (cases_lt x p)
  where
    joined : find (is_of x) (qs ++ p ∷ []) ≡ option_or (find (is_of x) qs) (find (is_of x) (p ∷ []))
    joined = find-append (is_of x) qs (p ∷ [])

    kept : (o : Option ℕ) → option_or o None ≡ o
    kept None = refl
    kept (Some t) = refl

    number : little_endian (moved b qs d) p 8 ≡ little_endian b p 8
    number = little_endian-agree (moved b qs d) b p 8 (λ y from to. unmoved b qs d p y before from)

    outside : (x < p) ⊎ (p + 8 ≤ x) → is_of x p ≡ false → put (moved b qs d) p 8
        ((little_endian (moved b qs d) p 8 + d) % 2 ^ 64) x ≡ option_map_or (moved_byte b d x) (find (is_of x) (qs ++ p ∷ [])) (b x)
    outside out not_here =
        put-apart (moved b qs d) p 8 ((little_endian (moved b qs d) p 8 + d) % 2 ^ 64) x out
        ∙ ap (λ o. option_map_or (moved_byte b d x) o (b x))
        (sym (joined ∙ (ap (λ h. option_or (find (is_of x) qs) (cond h (Some p) None)) not_here ∙ kept (find (is_of x) qs))))

    inside : p ≤ x → x < p + 8 → put (moved b qs d) p 8 ((little_endian (moved b qs d) p 8 + d) % 2 ^ 64) x ≡ option_map_or
        (moved_byte b d x) (find (is_of x) (qs ++ p ∷ [])) (b x)
    inside from to =
        let here : is_of x p ≡ true = grind (arith, nat_tests) in
        let none : find (is_of x) qs ≡ None = not_of qs p x before from in
        let found : find (is_of x) (qs ++ p ∷ []) ≡ Some p = joined
        ∙ (ap (λ o. option_or o (find (is_of x) (p ∷ []))) none ∙ ap (λ h. cond h (Some p) None) here) in
        put-within (moved b qs d) p 8 ((little_endian (moved b qs d) p 8 + d) % 2 ^ 64) x from to
        ∙ (ap (λ n. (n + d) % 2 ^ 64 / 256 ^ (x - p) % 256) number
        ∙ ap (λ o. option_map_or (moved_byte b d x) o (b x)) (sym found))

pub is_below : (qs : List ℕ) (i p : ℕ) → AllPairs IsBelow qs → i < length qs → p ≡ get_or qs i p → All (λ q. q + 8 ≤ p) (take i qs)
is_below qs i p apart inside is k d within =
    let count : length (take i qs) ≡ i = length-take-le i qs (omega arith) in
    let lower : k < i = omega arith in
    let same : get_or qs i d ≡ p = get_or_default qs i d p inside ∙ sym is in
    rw (get_or-take i qs k d lower) (subst (λ t. get_or qs k d + 8 ≤ t) same (apart k i d lower inside))

pub moved-none : (b : ℕ → ℕ) (d x : ℕ) → b x ≡ moved b [] d x
unfolding moved
moved-none b d x = refl

-- ---- in an object

within-in : (m : Memory) (base size : ℕ) (g : ℕ → ℕ) (x : ℕ) → base ≤ x → x < base + size → within m base size g x ≡ g (x - base)
unfolding within
within-in m base size g x from to = grind (arith, nat_tests)

within-out : (m : Memory) (base size : ℕ) (g : ℕ → ℕ) (x : ℕ) → (base ≤ x → x < base + size → ⊥) → within m base size g x ≡ byte_at m x
unfolding within
within-out m base size g x out =
    ⊎_elim (λ below. grind (arith, nat_tests)) (λ from. ⊎_elim (λ to. absurd (out from to)) (λ past. grind (arith, nat_tests))
    (cases_lt x (base + size))) (cases_lt x base)

-- by cases: in the object, or not
pub within-by :
    (m : Memory) (base size : ℕ) (g : ℕ → ℕ) (h : ℕ → ℕ) (x : ℕ) → ((y : ℕ) → y < size → h (base + y) ≡ g y) →
    ((base ≤ x → x < base + size → ⊥) → h x ≡ byte_at m x) → h x ≡ within m base size g x
within-by m base size g h x there elsewhere =
    ⊎_elim
    (λ below. let out : base ≤ x → x < base + size → ⊥ = λ f t. omega arith in elsewhere out ∙ sym (within-out m base size g x out))
    (λ from. ⊎_elim
    (λ to. let place : base + (x - base) ≡ x = omega arith in ap h (sym place)
    ∙ (there (x - base) (omega arith) ∙ sym (within-in m base size g x from to)))
    (λ past. let out : base ≤ x → x < base + size → ⊥ = λ f t. omega arith in elsewhere out ∙ sym (within-out m base size g x out))
    (cases_lt x (base + size)))
    (cases_lt x base)

pub within-at : (m : Memory) (base size : ℕ) (g : ℕ → ℕ) (y : ℕ) → y < size → within m base size g (base + y) ≡ g y
within-at m base size g y inside = within-in m base size g (base + y) (omega arith) (omega arith) ∙ ap g (omega arith)

within-agree : (m : Memory) (base size : ℕ) (g h : ℕ → ℕ) (x : ℕ) → ((y : ℕ) → y < size → g y ≡ h y)
    → within m base size g x ≡ within m base size h x
within-agree m base size g h x same =
    within-by m base size h (within m base size g) x (λ y inside. within-at m base size g y inside ∙ same y inside)
    (λ out. within-out m base size g x out)

-- all bytes of the object are zeros, as where there is no section
zeros-within : (m : Memory) (base size x : ℕ) → ((y : ℕ) → base ≤ y → y < base + size → byte_at m y ≡ 0)
    → byte_at m x ≡ within m base size (laid []) x
unfolding laid
zeros-within m base size x zeros = within-by m base size (laid []) (byte_at m) x (λ y inside. zeros (base + y) (omega arith) (omega arith))
    (λ out. refl)

-- what lies beside the object lies beside each part of it
beside : (base size p n x : ℕ) → p + n ≤ size → (base ≤ x → x < base + size → ⊥) → (x < base + p) ⊎ (base + p + n ≤ x)
beside base size p n x fits out =
    ⊎_elim (λ below. inl below) (λ from. ⊎_elim (λ to. absurd (out (omega arith) (omega arith))) (λ past. inr past)
    (cases_lt x (base + p + n))) (cases_lt x (base + p))

overlaid-in_object :
    (m : Memory) (base size : ℕ) (g : ℕ → ℕ) (p : ℕ) (bs : List ℕ) (x : ℕ) → p + length bs ≤ size →
    overlaid (within m base size g) (base + p) bs x ≡ within m base size (overlaid g p bs) x
overlaid-in_object m base size g p bs x fits =
    within-by m base size (overlaid g p bs) (overlaid (within m base size g) (base + p) bs) x
    (λ y inside. overlaid-moved (within m base size g) g base p bs y (within-at m base size g y inside))
    (λ out. overlaid-apart (within m base size g) (base + p) bs x (beside base size p (length bs) x fits out)
    ∙ within-out m base size g x out)

put-in_object :
    (m : Memory) (base size : ℕ) (g : ℕ → ℕ) (p v x : ℕ) → p + 8 ≤ size →
    put (within m base size g) (base + p) 8 v x ≡ within m base size (put g p 8 v) x
put-in_object m base size g p v x fits =
    within-by m base size (put g p 8 v) (put (within m base size g) (base + p) 8 v) x
    (λ y inside. put-moved (within m base size g) g base p 8 v y (within-at m base size g y inside))
    (λ out. put-apart (within m base size g) (base + p) 8 v x (beside base size p 8 x fits out) ∙ within-out m base size g x out)

number-in_object : (m : Memory) (base size : ℕ) (g : ℕ → ℕ) (p : ℕ) → p + 8 ≤ size
    → little_endian (within m base size g) (base + p) 8 ≡ little_endian g p 8
number-in_object m base size g p fits =
    little_endian-moved (within m base size g) g (base + p) p 8
    (λ i below. ap (within m base size g) (omega arith) ∙ within-at m base size g (p + i) (omega arith))

-- ---- steps of the loader

pub zeros-step :
    (w : ℕ) (m : Memory) (base size : ℕ) → IsMemory w m → ((y : ℕ) → base ≤ y → y < base + size → byte_at m y ≡ 0) →
    m ≡ with_bytes m (within m base size (laid []))
zeros-step w m base size memory zeros =
    sym (with_bytes-same w m memory) ∙ with_bytes-agree m (byte_at m) (within m base size (laid []))
    (λ x there. zeros-within m base size x zeros)

pub laid-step :
    (m old new : Memory) (base size : ℕ) (sections : List Section) (i : ℕ) (s : Section) →
    old ≡ with_bytes m (within m base size (laid (take i sections))) →
    new ≡ with_bytes m (overlaid (within m base size (laid (take i sections))) (base + s.place) s.bytes) →
    AllPairs EndsBefore sections → i < length sections → s ≡ get_or sections i s →
    length s.bytes ≤ s.size → s.place + s.size ≤ size →
    new ≡ with_bytes m (within m base size (laid (take (i + 1) sections)))
laid-step m old new base size sections i s so_far filled apart inside is short fits =
    let more : take i sections ++ s ∷ [] ≡ take (i + 1) sections = ap (λ t. take i sections ++ t ∷ []) is
    ∙ sym (take_more sections i s inside) in
    filled
    ∙ (with_bytes-agree m _ (within m base size (laid (take i sections ++ s ∷ []))) (λ x there.
    overlaid-in_object m base size (laid (take i sections)) s.place s.bytes x (omega arith)
    ∙ within-agree m base size (overlaid (laid (take i sections)) s.place s.bytes) (laid (take i sections ++ s ∷ [])) x
    (λ y in_size. laid-more (take i sections) s y (ends_before sections i s apart inside is) short))
    ∙ ap (λ ss. with_bytes m (within m base size (laid ss))) more)

pub moved-start :
    (m : Memory) (base size : ℕ) (sections : List Section) (n d : ℕ) (old : Memory) →
    old ≡ with_bytes m (within m base size (laid (take n sections))) → length sections ≤ n →
    old ≡ with_bytes m (within m base size (moved (laid sections) [] d))
moved-start m base size sections n d old so_far all =
    so_far ∙ (ap (λ ss. with_bytes m (within m base size (laid ss))) (take_all n sections all)
    ∙ with_bytes-agree m (within m base size (laid sections)) (within m base size (moved (laid sections) [] d))
    (λ x there. within-agree m base size (laid sections) (moved (laid sections) [] d) x (λ y inside. moved-none (laid sections) d y)))

pub moved-step :
    (m old new : Memory) (base size : ℕ) (b : ℕ → ℕ) (places : List ℕ) (d i p : ℕ) →
    old ≡ with_bytes m (within m base size (moved b (take i places) d)) →
    Becomes old new (λ bytes. put bytes (base + p) 8 ((little_endian bytes (base + p) 8 + d) % 2 ^ 64)) →
    AllPairs IsBelow places → i < length places → p ≡ get_or places i 0 → p + 8 ≤ size →
    new ≡ with_bytes m (within m base size (moved b (take (i + 1) places) d))
moved-step m old new base size b places d i p so_far becomes apart inside is0 fits =
    let is : p ≡ get_or places i p = is0 ∙ get_or_default places i 0 p inside in
    let g : ℕ → ℕ = moved b (take i places) d in
    let more : take i places ++ p ∷ [] ≡ take (i + 1) places = ap (λ t. take i places ++ t ∷ []) is ∙ sym (take_more places i p inside) in
    becomes m (within m base size g) so_far
    ∙ (with_bytes-agree m _ (within m base size (moved b (take i places ++ p ∷ []) d)) (λ x there.
    ap (λ n. put (within m base size g) (base + p) 8 ((n + d) % 2 ^ 64) x) (number-in_object m base size g p fits)
    ∙ (put-in_object m base size g p ((little_endian g p 8 + d) % 2 ^ 64) x fits
    ∙ within-agree m base size (put g p 8 ((little_endian g p 8 + d) % 2 ^ 64)) (moved b (take i places ++ p ∷ []) d) x
    (λ y in_size. moved-more b (take i places) d p y (is_below places i p apart inside is))))
    ∙ ap (λ ps. with_bytes m (within m base size (moved b ps d))) more)

pub moved-all :
    (m old : Memory) (base size : ℕ) (b : ℕ → ℕ) (places : List ℕ) (n d : ℕ) →
    old ≡ with_bytes m (within m base size (moved b (take n places) d)) → length places ≤ n →
    old ≡ with_bytes m (within m base size (moved b places d))
moved-all m old base size b places n d so_far all = so_far ∙ ap (λ ps. with_bytes m (within m base size (moved b ps d)))
    (take_all n places all)

-- ---- the object

-- the object holds what lies in its size
pub object_holds : (m : Memory) (id : ObjId) (base size p k : ℕ) → IsPlacedAt m id base size → p + k ≤ size
    → holds (ranges m) (base + p) k ≡ true
object_holds m id base size p k at fits =
    let o : Object = at.0 in
    let base_is : o.base ≡ base = at.2 in
    let size_is : o.size ≡ size = at.3 in
    holds-at (ranges m) (base + p) k id.number (range_of o) (slice_get-range m.objects id.number o at.1)
    (covers-inside (range_of o) (base + p) k (omega arith) (omega arith))
  where
    slice_get-range : (os : List Object) (i : ℕ) (o : Object) → slice_get os i ≡ Some o → slice_get (map range_of os) i ≡ Some (range_of o)
    slice_get-range [] i o is = absurd cc
    slice_get-range (p ∷ os) zero o is = ap (λ x. Some (range_of x)) (same_Some p o is)
    slice_get-range (p ∷ os) (suc i) o is = slice_get-range os i o is

-- and no address in it wraps
pub object_end : (w : ℕ) (m : Memory) (id : ObjId) (base size : ℕ) → IsMemory w m → IsPlacedAt m id base size → base + size < 2 ^ 64
object_end w m id base size memory at =
    let o : Object = at.0 in
    let inside : id.number < length m.objects = slice_get_within m.objects id.number o at.1 in
    let same : get_or m.objects id.number o ≡ o = get_or_from_slice_get m.objects id.number o o at.1 in
    let placed : IsPlaced w m o = subst (IsPlaced w m) same (memory.placed id.number o inside) in
    let base_is : o.base ≡ base = at.2 in
    let size_is : o.size ≡ size = at.3 in
    let below : o.base + padded o.size ≤ first_base w + used m = placed.below in
    let kept : used m ≤ m.byte_limit = memory.bytes_kept in
    let bound : 2 ^ (8 * w) ≤ 2 ^ 64 = by_width (λ v. 2 ^ (8 * v) ≤ 2 ^ 64) w memory.width (omega arith) (omega arith) in
    let top : first_base w + m.byte_limit ≤ 2 ^ (8 * w) = memory.no_wrap in
    let room : o.size + 16 ≤ padded o.size = omega arith in
    omega arith

-- the bytes of the object are known once those of the memory are
pub object_byte : (m new : Memory) (id : ObjId) (base size : ℕ) (g : ℕ → ℕ) (y : ℕ) → IsPlacedAt m id base size
    → new ≡ with_bytes m (within m base size g) → y < size → byte_at new (base + y) ≡ g y
object_byte m new id base size g y at is inside =
    ap (λ n. byte_at n (base + y)) is
    ∙ (byte_at-with_bytes m (within m base size g) (base + y) (object_holds m id base size y 1 at (omega arith))
    ∙ within-at m base size g y inside)

pub new_holds : (m new : Memory) (id : ObjId) (base size : ℕ) (g : ℕ → ℕ) (p k : ℕ) → IsPlacedAt m id base size → new ≡ with_bytes m g
    → p + k ≤ size → holds (ranges new) (base + p) k ≡ true
new_holds m new id base size g p k at is fits = ap (λ n. holds (ranges n) (base + p) k) is
    ∙ (holds-with_bytes m g (base + p) k ∙ object_holds m id base size p k at fits)

pub section_fits : (sections : List Section) (size i : ℕ) (s : Section) → All (IsSection size) sections → i < length sections
    → s ≡ get_or sections i s → IsSection size s
section_fits sections size i s all inside is = subst (IsSection size) (sym is) (all i s inside)

pub place_fits : (places : List ℕ) (size i p : ℕ) → All (λ q. q + 8 ≤ size) places → i < length places → p ≡ get_or places i 0
    → p + 8 ≤ size
place_fits places size i p all inside is = subst (λ q. q + 8 ≤ size) (sym is) (all i 0 inside)

pub object_others : (m new : Memory) (base size : ℕ) (g : ℕ → ℕ) (x : ℕ) → new ≡ with_bytes m (within m base size g) → (x < base)
    ⊎ (base + size ≤ x) → byte_at new x ≡ byte_at m x
object_others m new base size g x is out = ap (λ n. byte_at n x) is ∙ either (holds (ranges m) x 1) refl
  where
    apart : base ≤ x → x < base + size → ⊥
    apart from to = ⊎_elim (λ below. omega arith) (λ past. omega arith) out

    either : (b : Bool) → holds (ranges m) x 1 ≡ b → byte_at (with_bytes m (within m base size g)) x ≡ byte_at m x
    either true there = byte_at-with_bytes m (within m base size g) x there ∙ within-out m base size g x apart
    either false none = byte_at-none (with_bytes m (within m base size g)) x (holds-with_bytes m (within m base size g) x 1 ∙ none)
        ∙ sym (byte_at-none m x none)

-- an object that has just been placed, for the crates above
pub is_placed_at : (w : ℕ) (m new : Memory) (n base : ℕ) (id : ObjId) → new ≡ placed w m n
    → id ≡ record { number = length m.objects; base = next_base w m } → id.base ≡ base → IsPlacedAt new id base n
unfolding placed
is_placed_at w m new n base id is id_is at =
    let o : Object = record { base = next_base w m; size = n; bytes = replicate n 0 } in
    let place : slice_get (m.objects ++ o ∷ []) (length m.objects) ≡ Some o = last m.objects o in (
      o,
      ap (λ (k : Memory). slice_get k.objects id.number) is ∙ (ap (λ (i : ObjId). slice_get (m.objects ++ o ∷ []) i.number) id_is
          ∙ place),
      ap (λ (i : ObjId). i.base) (sym id_is) ∙ at,
      refl,
      at,
    )
  where
    last : (os : List Object) (o : Object) → slice_get (os ++ o ∷ []) (length os) ≡ Some o
    last [] o = refl
    last (p ∷ os) o = last os o
