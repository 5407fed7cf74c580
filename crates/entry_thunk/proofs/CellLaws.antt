-- Laws of the cells below R0: one slot after the other, and what a memory has once they are stored.
use Rattle.entry_thunk.proofs.Common.{◌≡◌, ℕ, ◌+◌, ◌%◌, ◌^◌, ◌<◌, ◌≤◌, true, false, ◌&&◌, List, length, drop, get_or, refl, sym, ap, ap₂}
use Rattle.entry_thunk.proofs.Common.{◌∙◌, arith, None, cut_at, holds, Memory, ranges, Concrete, stored, KeepsObjects, params_bytes}
use Rattle.entry_thunk.proofs.Common.{with_slots, params_of, with_memory, with_cells, slots_mapped}
use Rattle.std.proofs.Common.{Bool, if◌then◌else◌, [], ◌∷◌, Option, Some, add-one}
use Rattle.std.proofs.{Math.Path.fun_ext, Math.Seq.drop-cons, lemmas.List.drop_all, lemmas.Bool.true≢false, lemmas.Bool.and_parts}
use Rattle.std.specs.Option.{option_and_then}
use Rattle.ebc_width.specs.{Width.IsWidth, Bytes.put, Ranges.Range}
use Rattle.ebc_width.proofs.Laws.{cut_at-mod_64}
use Rattle.object_memory.specs.Memory.{byte_at, with_bytes, memory_after}
use Rattle.object_memory.proofs.Laws.{ranges-memory_after, memory_after-held, byte_at-memory_after}
use Rattle.note_types.specs.declared.{cell.SlotKind.SlotKind, notes.Param.Param}
use Rattle.host_model.specs.Placements.{slot_bytes}
use Rattle.entry_thunk.specs.Cells.{cells_mapped}

-- ---- lists from an index on

drop-at : {A : Type 0} (xs : List A) (i : ℕ) (d : A) → i < length xs → drop i xs ≡ get_or xs i d ∷ drop (i + 1) xs
drop-at xs i d less = drop-cons xs i d less ∙ ap (λ ys. get_or xs i d ∷ ys) (ap (λ k. drop k xs) (sym (add-one i)))

-- ---- how many bytes

-- the slots from number i on, of which the first has n bytes
pub bytes-next : (w i n : ℕ) (ks : List SlotKind) (d : SlotKind) → i < length ks → n ≡ slot_bytes w (get_or ks i d)
    → params_bytes w (params_of (drop i ks)) ≡ n + params_bytes w (params_of (drop (i + 1) ks))
bytes-next w i n ks d less bytes =
    ap (λ js. params_bytes w (params_of js)) (drop-at ks i d less) ∙ ap (λ k. k + params_bytes w (params_of (drop (i + 1) ks))) (sym bytes)

pub bytes-end : (w i : ℕ) (ks : List SlotKind) → length ks ≤ i → params_bytes w (params_of (drop i ks)) ≡ 0
bytes-end w i ks last = ap (λ js. params_bytes w (params_of js)) (drop_all i ks last)

-- ---- which are mapped

slots_mapped-word : (w : ℕ) (objects : List Range) (a : ℕ) (ks : List SlotKind) → IsWidth w
    → slots_mapped w objects (a % 2 ^ 64) ks ≡ slots_mapped w objects a ks
unfolding slots_mapped
slots_mapped-word w objects a [] width = refl
slots_mapped-word w objects a (k ∷ ks) width =
    let sum : (a % 2 ^ 64 + slot_bytes w k) % 2 ^ 64 ≡ (a + slot_bytes w k) % 2 ^ 64 = omega arith in
    ap₂ (λ x y. x && y)
    (ap (λ b. holds objects b (slot_bytes w k)) (cut_at-mod_64 w a width))
    (sym (slots_mapped-word w objects (a % 2 ^ 64 + slot_bytes w k) ks width)
    ∙ (ap (λ b. slots_mapped w objects b ks) sum ∙ slots_mapped-word w objects (a + slot_bytes w k) ks width))

pub mapped-next : (w : ℕ) (objects : List Range) (a i n : ℕ) (ks : List SlotKind) (d : SlotKind) → IsWidth w → i < length ks
    → n ≡ slot_bytes w (get_or ks i d)
    → slots_mapped w objects a (drop i ks) ≡ (holds objects (cut_at w a) n && slots_mapped w objects ((a + n) % 2 ^ 64) (drop (i + 1) ks))
unfolding slots_mapped
mapped-next w objects a i n ks d width less bytes =
    ap (slots_mapped w objects a) (drop-at ks i d less)
    ∙ (ap (λ k. holds objects (cut_at w a) k && slots_mapped w objects (a + k) (drop (i + 1) ks)) (sym bytes)
    ∙ ap (λ rest. holds objects (cut_at w a) n && rest) (sym (slots_mapped-word w objects (a + n) (drop (i + 1) ks) width)))

-- a slot that is mapped, and one that isn't
pub mapped-step : (w : ℕ) (objects : List Range) (a i n : ℕ) (ks : List SlotKind) (d : SlotKind) → IsWidth w → i < length ks
    → n ≡ slot_bytes w (get_or ks i d)
    → holds objects (cut_at w a) n ≡ true → slots_mapped w objects ((a + n) % 2 ^ 64) (drop (i + 1) ks) ≡ slots_mapped w objects a
    (drop i ks)
mapped-step w objects a i n ks d width less bytes held =
    sym (mapped-next w objects a i n ks d width less bytes ∙ ap
    (λ b. b && slots_mapped w objects ((a + n) % 2 ^ 64) (drop (i + 1) ks)) held)

pub mapped-stop : (w : ℕ) (objects : List Range) (a i n : ℕ) (ks : List SlotKind) (d : SlotKind) → IsWidth w → i < length ks
    → n ≡ slot_bytes w (get_or ks i d)
    → holds objects (cut_at w a) n ≡ false → slots_mapped w objects a (drop i ks) ≡ false
mapped-stop w objects a i n ks d width less bytes absent =
    mapped-next w objects a i n ks d width less bytes ∙ ap (λ b. b && slots_mapped w objects ((a + n) % 2 ^ 64) (drop (i + 1) ks)) absent

pub mapped-end : (w : ℕ) (objects : List Range) (a i : ℕ) (ks : List SlotKind) → length ks ≤ i → slots_mapped w objects a (drop i ks) ≡ true
unfolding slots_mapped
mapped-end w objects a i ks last = ap (slots_mapped w objects a) (drop_all i ks last)

-- the next slot is mapped, and so are those after it
pub mapped-parts : (w : ℕ) (objects : List Range) (a i n : ℕ) (ks : List SlotKind) (d : SlotKind) → IsWidth w → i < length ks
    → n ≡ slot_bytes w (get_or ks i d)
    → slots_mapped w objects a (drop i ks) ≡ true
    → (holds objects (cut_at w a) n ≡ true) × (slots_mapped w objects ((a + n) % 2 ^ 64) (drop (i + 1) ks) ≡ true)
mapped-parts w objects a i n ks d width less bytes mapped =
    and_parts (holds objects (cut_at w a) n) (slots_mapped w objects ((a + n) % 2 ^ 64) (drop (i + 1) ks))
    (sym (mapped-next w objects a i n ks d width less bytes) ∙ mapped)

-- the three parts of the cells, at addresses modulo 2 ^ 64
pub cells_mapped-word : (w : ℕ) (objects : List Range) (a : ℕ) (ks : List SlotKind) → IsWidth w
    → cells_mapped w objects a ks ≡ (holds objects (cut_at w a) 8
    && (holds objects (cut_at w ((a + 8) % 2 ^ 64)) 8 && slots_mapped w objects ((a + 16) % 2 ^ 64) ks))
unfolding cells_mapped
cells_mapped-word w objects a ks width =
    ap₂ (λ x y. holds objects (cut_at w a) 8 && (holds objects x 8 && y)) (sym (cut_at-mod_64 w (a + 8) width))
    (sym (slots_mapped-word w objects (a + 16) ks width))

pub cells-parts : (w : ℕ) (objects : List Range) (a : ℕ) (ks : List SlotKind) → IsWidth w → cells_mapped w objects a ks ≡ true
    → (holds objects (cut_at w a) 8 ≡ true) × (holds objects (cut_at w ((a + 8) % 2 ^ 64)) 8 ≡ true)
    × (slots_mapped w objects ((a + 16) % 2 ^ 64) ks ≡ true)
cells-parts w objects a ks width mapped =
    let all = and_parts (holds objects (cut_at w a) 8) (holds objects (cut_at w ((a + 8) % 2 ^ 64)) 8
    && slots_mapped w objects ((a + 16) % 2 ^ 64) ks) (sym (cells_mapped-word w objects a ks width) ∙ mapped) in
    let rest = and_parts (holds objects (cut_at w ((a + 8) % 2 ^ 64)) 8) (slots_mapped w objects ((a + 16) % 2 ^ 64) ks) all.1 in
    (all.0, rest.0, rest.1)

-- the answer where two tests come before the third
pub all-three : (a b c : Bool) → (a && b) ≡ true → c ≡ (a && (b && c))
all-three true b c both = ap (λ x. x && c) (sym both)
all-three false b c both = absurd (true≢false (sym both))

pub not-both : (a b c : Bool) → (a && b) ≡ false → false ≡ (a && (b && c))
not-both true b c none = ap (λ x. x && c) (sym none)
not-both false b c none = refl

-- ---- one store

pub stored-memory : (s : Concrete) (m n : Memory) (a k v : ℕ) → holds (ranges m) a k ≡ true → n ≡ memory_after m a k v
    → stored (with_memory s m) a k v ≡ Some (with_memory s n)
unfolding stored
stored-memory s m n a k v held is =
    ap (λ (b : Bool). if b then Some (record s { objects = ranges m; byte = put (byte_at m) a k v }) else None) held
    ∙ ap₂ (λ os b. Some (record s { objects = os; byte = b })) (sym (ap ranges is ∙ ranges-memory_after m a k v))
    (sym (ap byte_at is ∙ fun_ext (λ x. byte_at-memory_after m a k v x held)))

pub keeps-stored : (m n : Memory) (a k v : ℕ) → holds (ranges m) a k ≡ true → n ≡ memory_after m a k v → KeepsObjects m n
keeps-stored m n a k v held is =
    let same : n ≡ with_bytes m (put (byte_at m) a k v) = is ∙ memory_after-held m a k v held in
    record {
      objects = ap ranges is ∙ ranges-memory_after m a k v;
      byte_limit = ap (λ (o : Memory). o.byte_limit) same;
      object_limit = ap (λ (o : Memory). o.object_limit) same;
    }

pub keeps-none : (m : Memory) → KeepsObjects m m
keeps-none m = record { objects = refl; byte_limit = refl; object_limit = refl }

pub keeps-more : (m n o : Memory) → KeepsObjects m n → KeepsObjects n o → KeepsObjects m o
keeps-more m n o old new = record {
  objects = new.objects ∙ old.objects;
  byte_limit = new.byte_limit ∙ old.byte_limit;
  object_limit = new.object_limit ∙ old.object_limit;
}

-- ---- slots that are stored

then-agree : (f g : Concrete → Option Concrete) (o : Option Concrete) → ((s : Concrete) → f s ≡ g s)
    → option_and_then f o ≡ option_and_then g o
then-agree f g None same = refl
then-agree f g (Some s) same = same s

with_slots-word : (w a : ℕ) (ps : List Param) (xs : List ℕ) (s : Concrete) → IsWidth w
    → with_slots w (a % 2 ^ 64) ps xs s ≡ with_slots w a ps xs s
unfolding with_slots
with_slots-word w a [] xs s width = refl
with_slots-word w a (p ∷ ps) [] s width = refl
with_slots-word w a (p ∷ ps) (x ∷ xs) s width =
    let sum : (a % 2 ^ 64 + slot_bytes w p.kind) % 2 ^ 64 ≡ (a + slot_bytes w p.kind) % 2 ^ 64 = omega arith in
    ap (λ b. option_and_then (with_slots w (a % 2 ^ 64 + slot_bytes w p.kind) ps xs) (stored s b (slot_bytes w p.kind) x))
    (cut_at-mod_64 w a width)
    ∙ then-agree (with_slots w (a % 2 ^ 64 + slot_bytes w p.kind) ps xs) (with_slots w (a + slot_bytes w p.kind) ps xs)
    (stored s (cut_at w a) (slot_bytes w p.kind) x)
    (λ t. sym (with_slots-word w (a % 2 ^ 64 + slot_bytes w p.kind) ps xs t width)
    ∙ (ap (λ b. with_slots w b ps xs t) sum ∙ with_slots-word w (a + slot_bytes w p.kind) ps xs t width))

-- the slots from number i on, the first of which is stored
pub stored-next : (w a i n : ℕ) (ks : List SlotKind) (xs : List ℕ) (d : SlotKind) (e : ℕ) (s t : Concrete) → IsWidth w → i < length ks
    → i < length xs → n ≡ slot_bytes w (get_or ks i d)
    → stored s (cut_at w a) n (get_or xs i e) ≡ Some t
    → with_slots w a (params_of (drop i ks)) (drop i xs) s ≡ with_slots w ((a + n) % 2 ^ 64) (params_of (drop (i + 1) ks))
    (drop (i + 1) xs) t
unfolding with_slots
stored-next w a i n ks xs d e s t width less below bytes is =
    ap₂ (λ js ys. with_slots w a (params_of js) ys s) (drop-at ks i d less) (drop-at xs i e below)
    ∙ (ap (λ k. option_and_then (with_slots w (a + k) (params_of (drop (i + 1) ks)) (drop (i + 1) xs))
    (stored s (cut_at w a) k (get_or xs i e))) (sym bytes)
    ∙ (ap (option_and_then (with_slots w (a + n) (params_of (drop (i + 1) ks)) (drop (i + 1) xs))) is
    ∙ sym (with_slots-word w (a + n) (params_of (drop (i + 1) ks)) (drop (i + 1) xs) t width)))

pub stored-end : (w a i : ℕ) (ks : List SlotKind) (xs : List ℕ) (s : Concrete) → length ks ≤ i
    → with_slots w a (params_of (drop i ks)) (drop i xs) s ≡ Some s
unfolding with_slots
stored-end w a i ks xs s last = ap (λ js. with_slots w a (params_of js) (drop i xs) s) (drop_all i ks last)

-- none is stored where one isn't mapped
pub with_slots-none : (w a : ℕ) (ks : List SlotKind) (xs : List ℕ) (s : Concrete) → length ks ≡ length xs
    → slots_mapped w s.objects a ks ≡ false → with_slots w a (params_of ks) xs s ≡ None
unfolding with_slots slots_mapped stored
with_slots-none w a [] xs s each none = absurd (true≢false none)
with_slots-none w a (k ∷ ks) [] s each none = absurd (omega arith)
with_slots-none w a (k ∷ ks) (x ∷ xs) s each none =
    either (holds s.objects (cut_at w a) (slot_bytes w k)) (λ t rest. with_slots-none w (a + slot_bytes w k) ks xs t
    (omega arith) rest) none
  where
    either : (held : Bool) → ((t : Concrete) → slots_mapped w t.objects (a + slot_bytes w k) ks ≡ false
        → with_slots w (a + slot_bytes w k) (params_of ks) xs t ≡ None)
        → (held && slots_mapped w s.objects (a + slot_bytes w k) ks) ≡ false
        → option_and_then (with_slots w (a + slot_bytes w k) (params_of ks) xs)
        (if held then Some (record s { byte = put s.byte (cut_at w a) (slot_bytes w k) x }) else None) ≡ None
    either true more rest = more (record s { byte = put s.byte (cut_at w a) (slot_bytes w k) x }) rest
    either false more rest = refl

-- ---- all cells

pub cells-stored : (w a : ℕ) (ps : List Param) (xs : List ℕ) (s : Concrete) (m0 m1 m2 m3 : Memory) → IsWidth w
    → stored (with_memory s m0) (cut_at w a) 8 s.gate ≡ Some (with_memory s m1)
    → stored (with_memory s m1) (cut_at w ((a + 8) % 2 ^ 64)) 8 0 ≡ Some (with_memory s m2)
    → with_slots w ((a + 16) % 2 ^ 64) ps xs (with_memory s m2) ≡ Some (with_memory s m3)
    → with_cells w a ps xs (with_memory s m0) ≡ Some (with_memory s m3)
unfolding with_cells
cells-stored w a ps xs s m0 m1 m2 m3 width first second rest =
    ap (option_and_then (λ low. option_and_then (λ high. with_slots w (a + 16) ps xs high) (stored low (cut_at w (a + 8)) 8 0))) first
    ∙ (ap (option_and_then (λ high. with_slots w (a + 16) ps xs high))
    (ap (λ b. stored (with_memory s m1) b 8 0) (sym (cut_at-mod_64 w (a + 8) width)) ∙ second)
    ∙ (sym (with_slots-word w (a + 16) ps xs (with_memory s m2) width) ∙ rest))

pub with_cells-none : (w a : ℕ) (ks : List SlotKind) (xs : List ℕ) (s : Concrete) → length ks ≡ length xs
    → cells_mapped w s.objects a ks ≡ false → with_cells w a (params_of ks) xs s ≡ None
unfolding with_cells cells_mapped stored
with_cells-none w a ks xs s each none = first (holds s.objects (cut_at w a) 8) none
  where
    second : (t : Concrete) → t.objects ≡ s.objects → (held : Bool) → (held && slots_mapped w s.objects (a + 16) ks) ≡ false
        → option_and_then (λ high. with_slots w (a + 16) (params_of ks) xs high)
        (if held then Some (record t { byte = put t.byte (cut_at w (a + 8)) 8 0 }) else None) ≡ None
    second t same true rest = with_slots-none w (a + 16) ks xs (record t { byte = put t.byte (cut_at w (a + 8)) 8 0 }) each
        (ap (λ os. slots_mapped w os (a + 16) ks) same ∙ rest)
    second t same false rest = refl

    first : (held : Bool) → (held && (holds s.objects (cut_at w (a + 8)) 8 && slots_mapped w s.objects (a + 16) ks)) ≡ false
        → option_and_then (λ low. option_and_then (λ high. with_slots w (a + 16) (params_of ks) xs high)
        (if holds low.objects (cut_at w (a + 8)) 8 then Some (record low { byte = put low.byte (cut_at w (a + 8)) 8 0 }) else None))
        (if held then Some (record s { byte = put s.byte (cut_at w a) 8 s.gate }) else None) ≡ None
    first true rest = second (record s { byte = put s.byte (cut_at w a) 8 s.gate }) refl (holds s.objects (cut_at w (a + 8)) 8) rest
    first false rest = refl
