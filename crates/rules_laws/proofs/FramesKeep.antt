-- Pushes and pops, and making and dropping locals, keep the conditions on a state.
use Rattle.rules_laws.proofs.Common.{◌≡◌, ℕ, zero, suc, ◌+◌, ◌-◌, ◌≤◌, Bool, true, false, not, ◌&&◌, nat_lt, nat_le, nat_eq, List, [], ◌∷◌}
use Rattle.rules_laws.proofs.Common.{length, Option, None, Some, slice_get, slice_index_or, if◌then◌else◌, refl, sym, subst, ap, ◌∙◌, arith}
use Rattle.rules_laws.proofs.Common.{pos, IfSome, IfOk, Result, Ok, Err, int_le, unsigned_abs, and_parts, leb-true, Extra, Operand}
use Rattle.rules_laws.proofs.Common.{same_kind, SlotKind, N, Q, Item, Slot, Locals, FnNote, Notes, Pair, RuleName, State, Ty, Destination}
use Rattle.rules_laws.proofs.Common.{Register, Memory, Distance, target_at, changed, put, extra_distance, also, beside, needs, locals_size}
use Rattle.rules_laws.proofs.Common.{operand_value, drop_to, frame_row, has_room, left_after, loses, pop_destination, pop_row, popped_type}
use Rattle.rules_laws.proofs.Common.{push_row, slot_access, slot_type, top_type, with_item, with_left, without_top, falls, IsNotes, IsKnown}
use Rattle.rules_laws.proofs.Common.{IsState, AreStates}
use Rattle.std.proofs.Common.{map}
use Rattle.std.specs.{Prelude.count_by, Prelude.is_some, List.list_any}
use Rattle.std.proofs.lemmas.{Bool.not-true, List.Sums.sum_by-cons}
use Rattle.note_types.specs.declared.cell.SlotKind.TheVariants.{D}
use Rattle.rules_flow.specs.Frames.{below_top, drop_row, forgotten, is_popped, is_size, item_size, left_item, left_type, make_row}
use Rattle.rules_laws.proofs.Options.{ok_also, ok_anything, ok_beside, ok_choice, ok_map, ok_needs, ok_then}
use Rattle.rules_laws.proofs.LoadsKeep.{LoadKnown, operand_value-known, status_known, signed_status-known}
use Rattle.rules_laws.proofs.MovesKeep.{kept_dword-known, kept_natural-known, with_immediate-known}
use Rattle.rules_laws.proofs.StatesKeep.{ChangeKnown, changed_keeps, DestinationKnown, put_known}
use Rattle.rules_laws.proofs.{PlacesKeep.ParamsKnown, SumsKeep.any_known, SumsKeep.if_known}
use Rattle.note_types.specs.Known.{is_locals, is_slot}
use Rattle.note_types.specs.declared.rule.RuleName.TheVariants as rule
use Rattle.note_types.specs.declared.types.Ty.TheVariants as ty

-- ---- items

-- the types of slots are known
abbrev SlotsKnown : Notes → FnNote → List Item → Type 0
SlotsKnown notes f items = (k : ℕ) (kind : SlotKind) (t : Ty) → slice_get items k ≡ Some (Slot kind t) → IsKnown notes f t

-- where the locals are among items the function has them
abbrev LocalsThere : FnNote → List Item → Type 0
LocalsThere f items = (k : ℕ) → slice_get items k ≡ Some Locals → is_some f.locals ≡ true

slots_push : (notes : Notes) (f : FnNote) (kind : SlotKind) (t : Ty) (items : List Item) → IsKnown notes f t → SlotsKnown notes f items
    → SlotsKnown notes f (Slot kind t ∷ items)
slots_push notes f kind t items h g zero k u e = let P : Ty → Type 0 = IsKnown notes f in let same : t ≡ u = cc in subst P same h
slots_push notes f kind t items h g (suc n) k u e = g n k u e

there_push : (f : FnNote) (kind : SlotKind) (t : Ty) (items : List Item) → LocalsThere f items → LocalsThere f (Slot kind t ∷ items)
there_push f kind t items h zero e = absurd cc
there_push f kind t items h (suc k) e = h k e

slots_locals : (notes : Notes) (f : FnNote) (items : List Item) → SlotsKnown notes f items → SlotsKnown notes f (Locals ∷ items)
slots_locals notes f items g zero k u e = absurd cc
slots_locals notes f items g (suc n) k u e = g n k u e

there_locals : (f : FnNote) (items : List Item) → is_some f.locals ≡ true → LocalsThere f items → LocalsThere f (Locals ∷ items)
there_locals f items e h zero g = e
there_locals f items e h (suc k) g = h k g

-- no locals are counted where there are none
none_counted : (items : List Item) → list_any is_locals items ≡ false → count_by is_locals items ≡ 0
none_counted [] e = refl
none_counted (Slot kind t ∷ items) e = let r = none_counted items e in omega arith
none_counted (Locals ∷ items) e = absurd cc

slot_counted : (kind : SlotKind) (t : Ty) (items : List Item) → count_by is_locals (Slot kind t ∷ items) ≡ count_by is_locals items
slot_counted kind t items = omega arith

locals_counted : (items : List Item) → count_by is_locals (Locals ∷ items) ≡ 1 + count_by is_locals items
locals_counted items = sum_by-cons (λ x. if is_locals x then 1 else 0) Locals items

-- the same of slots
slot_slot : (kind : SlotKind) (t : Ty) (items : List Item) → count_by is_slot (Slot kind t ∷ items) ≡ 1 + count_by is_slot items
slot_slot kind t items = sum_by-cons (λ x. if is_slot x then 1 else 0) (Slot kind t) items

locals_slot : (items : List Item) → count_by is_slot (Locals ∷ items) ≡ count_by is_slot items
locals_slot items = let c = sum_by-cons (λ x. if is_slot x then 1 else 0) Locals items in omega arith

-- ---- items pushed and popped

push_keeps : (notes : Notes) (f : FnNote) (s : State) (kind : SlotKind) (t : Ty) → IsState notes f s → IsKnown notes f t
    → count_by is_slot s.items + 1 ≤ 64 → IsState notes f (with_item s (Slot kind t))
push_keeps notes f s kind t h g room = record {
  few = let c = slot_slot kind t s.items in omega arith;
  eight = h.eight;
  unused = h.unused;
  registers = h.registers;
  slots = slots_push notes f kind t s.items g h.slots;
  once = let c = slot_counted kind t s.items in let o = h.once in omega arith;
  there = there_push f kind t s.items h.there;
  fact = h.fact;
}

make_keeps : (notes : Notes) (f : FnNote) (s : State) → IsState notes f s → is_some f.locals ≡ true → list_any is_locals s.items ≡ false
    → IsState notes f (with_item s Locals)
make_keeps notes f s h e g = record {
  few = let c = locals_slot s.items in let o = h.few in omega arith;
  eight = h.eight;
  unused = h.unused;
  registers = h.registers;
  slots = slots_locals notes f s.items h.slots;
  once = let c = locals_counted s.items in let o = none_counted s.items g in omega arith;
  there = there_locals f s.items e h.there;
  fact = h.fact;
}

slots_below : (notes : Notes) (f : FnNote) (items : List Item) → SlotsKnown notes f items → SlotsKnown notes f (below_top items)
slots_below notes f [] h = h
slots_below notes f (x ∷ items) h = λ k kind t e. h (suc k) kind t e

there_below : (f : FnNote) (items : List Item) → LocalsThere f items → LocalsThere f (below_top items)
there_below f [] h = h
there_below f (x ∷ items) h = λ k e. h (suc k) e

counted_below : (items : List Item) → count_by is_locals (below_top items) ≤ count_by is_locals items
counted_below [] = omega arith
counted_below (Slot kind t ∷ items) = omega arith
counted_below (Locals ∷ items) = let c = locals_counted items in omega arith

slots_counted_below : (items : List Item) → count_by is_slot (below_top items) ≤ count_by is_slot items
slots_counted_below [] = omega arith
slots_counted_below (Slot kind t ∷ items) = let c = slot_slot kind t items in omega arith
slots_counted_below (Locals ∷ items) = let c = locals_slot items in omega arith

pub without_top-keeps : (notes : Notes) (f : FnNote) (s : State) → IsState notes f s → IsState notes f (without_top s)
without_top-keeps notes f s h = record {
  few = let c = slots_counted_below s.items in let o = h.few in omega arith;
  eight = h.eight;
  unused = h.unused;
  registers = h.registers;
  slots = slots_below notes f s.items h.slots;
  once = let c = counted_below s.items in let o = h.once in omega arith;
  there = there_below f s.items h.there;
  fact = h.fact;
}

-- ---- pushes and pops

slot_type-known : (notes : Notes) (f : FnNote) (kind : SlotKind) (t : Ty) → IsKnown notes f t → IsKnown notes f (slot_type kind t)
slot_type-known notes f N t h = kept_natural-known notes f t h
slot_type-known notes f Q t h = h
slot_type-known notes f D t h = kept_dword-known notes f t h

pub fall_state : (notes : Notes) (f : FnNote) (s : State) → IsState notes f s → AreStates notes f (falls s)
fall_state notes f s h = (h, tt)

-- where there is room for a slot, there are fewer than 64
room_left : (notes : Notes) (f : FnNote) (kind : SlotKind) (items : List Item) → has_room notes f (Slot kind ty.Any) items ≡ true
    → count_by is_slot items + 1 ≤ 64
unfolding has_room
room_left notes f kind items e =
    let a = and_parts (nat_lt (length items) 65) _ e in
    let b = and_parts (nat_le (count_by is_slot items + 1) 64) _ a.1 in leb-true (count_by is_slot items + 1) 64 b.0

pub push_row-keeps : (notes : Notes) (f : FnNote) (s : State) (kind : SlotKind) (op : Operand) (extra : Extra) → IsNotes notes
    → ParamsKnown notes f f.params → IsState notes f s → IfOk (push_row notes f s kind op extra) (AreStates notes f)
unfolding push_row
push_row-keeps notes f s kind op extra n p h =
    ok_then (λ v. LoadKnown notes f v × (has_room notes f (Slot kind ty.Any) s.items ≡ true)) (AreStates notes f)
    (also (operand_value notes f s (slot_access kind) op extra) (needs rule.Stack (has_room notes f (Slot kind ty.Any) s.items))) _
    (ok_needs (LoadKnown notes f) (operand_value notes f s (slot_access kind) op extra) rule.Stack
    (has_room notes f (Slot kind ty.Any) s.items) (operand_value-known notes f s (slot_access kind) op extra n p h.registers))
    (λ v i. ok_also (AreStates notes f) (Ok (falls (with_item s (Slot kind (slot_type kind v.ty))))) (needs rule.Thunk v.made)
    (fall_state notes f (with_item s (Slot kind (slot_type kind v.ty)))
    (push_keeps notes f s kind (slot_type kind v.ty) h (slot_type-known notes f kind v.ty i.0) (room_left notes f kind s.items i.1))))

top_type-known : (notes : Notes) (f : FnNote) (kind : SlotKind) (items : List Item) → SlotsKnown notes f items
    → IfOk (top_type kind items) (IsKnown notes f)
top_type-known notes f kind [] h = tt
top_type-known notes f kind (Slot k t ∷ items) h = ok_choice (IsKnown notes f) (same_kind kind k && is_popped kind t) (Ok t)
    (Err rule.Stack) (h 0 k t refl) tt
top_type-known notes f kind (Locals ∷ items) h = tt

popped_register : (b : Bool) (r : ℕ) (a : Result Destination RuleName) (d : Bool) → nat_eq r 0 ≡ b → IfOk a DestinationKnown
    → IfOk (if b then Err rule.Stack else if d then a else Ok (Register r)) DestinationKnown
popped_register true r a d e h = tt
popped_register false zero a d e h = absurd cc
popped_register false (suc r) a true e h = h
popped_register false (suc r) a false e h = omega arith

pop_destination-known : (notes : Notes) (f : FnNote) (s : State) (kind : SlotKind) (op : Operand) (extra : Extra)
    → IfOk (pop_destination notes f s kind op extra) DestinationKnown
pop_destination-known notes f s kind op extra =
    popped_register (nat_eq op.reg 0) op.reg _ op.indirect refl
    (ok_map (λ _. Unit {0}) DestinationKnown Memory (target_at notes f s (slot_access kind) op.reg (extra_distance extra))
    (ok_anything (target_at notes f s (slot_access kind) op.reg (extra_distance extra))) (λ x h. tt))

popped_type-known : (notes : Notes) (f : FnNote) (op : Operand) (extra : Extra) (t : Ty) → IsKnown notes f t
    → IsKnown notes f (popped_type notes op extra t)
popped_type-known notes f op extra t h = if_known notes f op.indirect _ _ (λ e. h) (with_immediate-known notes f notes.shape t extra h)

pub pop_row-keeps : (notes : Notes) (f : FnNote) (s : State) (kind : SlotKind) (op : Operand) (extra : Extra) → IsState notes f s
    → IfOk (pop_row notes f s kind op extra) (AreStates notes f)
unfolding pop_row
pop_row-keeps notes f s kind op extra h =
    ok_then (λ x. IsKnown notes f x.0 × DestinationKnown x.1) (AreStates notes f)
    (beside (top_type kind s.items) (pop_destination notes f s kind op extra)) _
    (ok_beside (IsKnown notes f) DestinationKnown (top_type kind s.items) (pop_destination notes f s kind op extra)
    (top_type-known notes f kind s.items h.slots) (pop_destination-known notes f s kind op extra))
    (λ x i. ok_then (ChangeKnown notes f) (AreStates notes f) (put x.1 (popped_type notes op extra x.0)) _
    (put_known notes f x.1 (popped_type notes op extra x.0) i.1 (popped_type-known notes f op extra x.0 i.0))
    (λ change j. fall_state notes f (changed (without_top s) change)
    (changed_keeps notes f (without_top s) change (without_top-keeps notes f s h) j)))

-- ---- locals made

if_by : {A : Type 0} (P : A → Type 0) (b : Bool) (a q : Result A RuleName) → (b ≡ true → IfOk a P) → IfOk q P → IfOk (if b then a else q) P
if_by P true a q h g = h refl
if_by P false a q h g = g

make_row-keeps : (notes : Notes) (f : FnNote) (s : State) (n c : ℕ) → IsState notes f s → IfOk (make_row notes f s n c) (AreStates notes f)
make_row-keeps notes f s n c h =
    if_by (AreStates notes f) (is_some f.locals && (not (list_any is_locals s.items)
    && (is_size (locals_size notes f) n c && has_room notes f Locals s.items))) _ _
    (λ e. let p = and_parts (is_some f.locals) (not (list_any is_locals s.items)
    && (is_size (locals_size notes f) n c && has_room notes f Locals s.items)) e in
    let q = and_parts (not (list_any is_locals s.items)) (is_size (locals_size notes f) n c && has_room notes f Locals s.items) p.1 in
    fall_state notes f (with_item s Locals) (make_keeps notes f s h p.0 (not-true (list_any is_locals s.items) q.0)))
    tt

-- ---- items dropped

-- each item that is left was there, and no more locals are counted
record IsLeft (items left : List Item) : Type 0 where
  there : (k : ℕ) (x : Item) → slice_get left k ≡ Some x → (j : ℕ) × (slice_get items j ≡ Some x)
  fewer : count_by is_locals left ≤ count_by is_locals items
  slots : count_by is_slot left ≤ count_by is_slot items

same_left : (items : List Item) → IsLeft items items
same_left items = record { there = λ k x e. (k, e); fewer = omega arith; slots = omega arith }

counted_tail : (x : Item) (items : List Item) → count_by is_locals items ≤ count_by is_locals (x ∷ items)
counted_tail (Slot kind t) items = omega arith
counted_tail Locals items = let c = locals_counted items in omega arith

slots_tail : (x : Item) (items : List Item) → count_by is_slot items ≤ count_by is_slot (x ∷ items)
slots_tail (Slot kind t) items = let c = slot_slot kind t items in omega arith
slots_tail Locals items = let c = locals_slot items in omega arith

later_left : (x : Item) (items : List Item) (o : Option (List Item)) → IfSome o (IsLeft items) → IfSome o (IsLeft (x ∷ items))
later_left x items None h = tt
later_left x items (Some left) h = record {
  there = λ k y e. let g = h.there k y e in (suc g.0, g.1);
  fewer = let c = counted_tail x items in let l = h.fewer in omega arith;
  slots = let c = slots_tail x items in let l = h.slots in omega arith;
}

left_if : (b : Bool) (items : List Item) (o q : Option (List Item)) → IfSome o (IsLeft items) → IfSome q (IsLeft items)
    → IfSome (if b then o else q) (IsLeft items)
left_if true items o q h g = h
left_if false items o q h g = g

left_after-left : (locals : Pair) (items : List Item) (n c : ℕ) → IfSome (left_after locals items n c) (IsLeft items)
unfolding left_after
left_after-left locals [] n c = left_if (nat_eq n 0 && nat_eq c 0) [] (Some []) None (same_left []) tt
left_after-left locals (x ∷ items) n c =
    left_if (nat_eq n 0 && nat_eq c 0) (x ∷ items) (Some (x ∷ items)) _ (same_left (x ∷ items))
    (left_if (nat_le (item_size locals x).n n && nat_le (item_size locals x).c c) (x ∷ items) _ None
    (later_left x items (left_after locals items (n - (item_size locals x).n) (c - (item_size locals x).c))
    (left_after-left locals items (n - (item_size locals x).n) (c - (item_size locals x).c))) tt)

forgotten_known : (notes : Notes) (f : FnNote) (t : Ty) → IsKnown notes f t → IsKnown notes f (forgotten t)
forgotten_known notes f (ty.Local x) h = any_known notes f
forgotten_known notes f (ty.Status g) h = status_known notes f
forgotten_known notes f (ty.SignedStatus g) h = signed_status-known notes f
forgotten_known notes f t h = h

left_type-known : (notes : Notes) (f : FnNote) (lost : Bool) (t : Ty) → IsKnown notes f t → IsKnown notes f (left_type lost t)
left_type-known notes f lost t h = if_known notes f lost _ _ (λ e. forgotten_known notes f t h) h

-- the types of the registers, one by one
pub each_register : (P : Ty → Type 0) (a b c d e g h i : Ty) → P ty.Any → P a → P b → P c → P d → P e → P g → P h → P i → (r : ℕ)
    → P (slice_index_or (a ∷ b ∷ c ∷ d ∷ e ∷ g ∷ h ∷ i ∷ []) r ty.Any)
each_register P a b c d e g h i z p q r s t u v w zero = p
each_register P a b c d e g h i z p q r s t u v w (suc zero) = q
each_register P a b c d e g h i z p q r s t u v w (suc (suc zero)) = r
each_register P a b c d e g h i z p q r s t u v w (suc (suc (suc zero))) = s
each_register P a b c d e g h i z p q r s t u v w (suc (suc (suc (suc zero)))) = t
each_register P a b c d e g h i z p q r s t u v w (suc (suc (suc (suc (suc zero))))) = u
each_register P a b c d e g h i z p q r s t u v w (suc (suc (suc (suc (suc (suc zero)))))) = v
each_register P a b c d e g h i z p q r s t u v w (suc (suc (suc (suc (suc (suc (suc zero))))))) = w
each_register P a b c d e g h i z p q r s t u v w (suc (suc (suc (suc (suc (suc (suc (suc n)))))))) = z

-- a slot among items of which less is known was one before
slot_before : (lost : Bool) (x : Item) (kind : SlotKind) (t : Ty) → left_item lost x ≡ Slot kind t → (u : Ty) × (x ≡ Slot kind u)
    × (t ≡ left_type lost u)
slot_before lost (Slot k u) kind t e = (u, cc, cc)
slot_before lost Locals kind t e = absurd cc

locals_before : (lost : Bool) (x : Item) → left_item lost x ≡ Locals → x ≡ Locals
locals_before lost (Slot k u) e = absurd cc
locals_before lost Locals e = refl

mapped_before : (g : Item → Item) (xs : List Item) (k : ℕ) (y : Item) → slice_get (map g xs) k ≡ Some y → (x : Item)
    × (slice_get xs k ≡ Some x) × (g x ≡ y)
mapped_before g [] k y e = absurd cc
mapped_before g (x ∷ xs) zero y e = (x, refl, cc)
mapped_before g (x ∷ xs) (suc k) y e = mapped_before g xs k y e

counted_alike : (lost : Bool) (items : List Item) → count_by is_locals (map (left_item lost) items) ≡ count_by is_locals items
counted_alike lost [] = refl
counted_alike lost (Slot kind t ∷ items) = let r = counted_alike lost items in omega arith
counted_alike lost (Locals ∷ items) = let r = counted_alike lost items in let c = locals_counted items in
    let d = locals_counted (map (left_item lost) items) in omega arith

slots_alike : (lost : Bool) (items : List Item) → count_by is_slot (map (left_item lost) items) ≡ count_by is_slot items
slots_alike lost [] = refl
slots_alike lost (Slot kind t ∷ items) = let r = slots_alike lost items in let c = slot_slot kind t items in
    let d = slot_slot kind (left_type lost t) (map (left_item lost) items) in omega arith
slots_alike lost (Locals ∷ items) = let r = slots_alike lost items in let c = locals_slot items in
    let d = locals_slot (map (left_item lost) items) in omega arith

left_any : (lost : Bool) → left_type lost ty.Any ≡ ty.Any
left_any true = refl
left_any false = refl

with_left-keeps : (notes : Notes) (f : FnNote) (s : State) (lost : Bool) (left : List Item) → IsState notes f s → IsLeft s.items left
    → IsState notes f (with_left s lost left)
unfolding with_left
with_left-keeps notes f s lost left h g = record {
  eight = refl;
  unused = ap (left_type lost) h.unused ∙ left_any lost;
  few = let c = slots_alike lost left in let l = g.slots in let o = h.few in omega arith;
  registers = each_register (IsKnown notes f) _ _ _ _ _ _ _ _ (any_known notes f)
      (left_type-known notes f lost _ (h.registers 0)) (left_type-known notes f lost _ (h.registers 1))
      (left_type-known notes f lost _ (h.registers 2)) (left_type-known notes f lost _ (h.registers 3))
      (left_type-known notes f lost _ (h.registers 4)) (left_type-known notes f lost _ (h.registers 5))
      (left_type-known notes f lost _ (h.registers 6)) (left_type-known notes f lost _ (h.registers 7));
  slots = λ k kind t e.
      let m = mapped_before (left_item lost) left k (Slot kind t) e in
      let b = slot_before lost m.0 kind t m.2 in
      let found : slice_get left k ≡ Some (Slot kind b.0) = cc in
      let j = g.there k (Slot kind b.0) found in
      let P : Ty → Type 0 = IsKnown notes f in
      subst P (sym b.2) (left_type-known notes f lost b.0 (h.slots j.0 kind b.0 j.1));
  once = let c = counted_alike lost left in let l = g.fewer in let o = h.once in omega arith;
  there = λ k e.
      let m = mapped_before (left_item lost) left k Locals e in
      let b = locals_before lost m.0 m.2 in
      let found : slice_get left k ≡ Some Locals = cc in
      let j = g.there k Locals found in h.there j.0 j.1;
  fact = h.fact;
}

drop_keeps : (notes : Notes) (f : FnNote) (s : State) (o : Option (List Item)) → IsState notes f s → IfSome o (IsLeft s.items)
    → IfOk (drop_to s o) (AreStates notes f)
drop_keeps notes f s None h g = tt
drop_keeps notes f s (Some left) h g = fall_state notes f (with_left s (loses s.items left) left)
    (with_left-keeps notes f s (loses s.items left) left h g)

drop_row-keeps : (notes : Notes) (f : FnNote) (s : State) (n c : ℕ) → IsState notes f s → IfOk (drop_row notes f s n c) (AreStates notes f)
drop_row-keeps notes f s n c h = drop_keeps notes f s (left_after (locals_size notes f) s.items n c) h
    (left_after-left (locals_size notes f) s.items n c)

pub frame_row-keeps : (notes : Notes) (f : FnNote) (s : State) (d : Distance) → IsState notes f s
    → IfOk (frame_row notes f s d) (AreStates notes f)
unfolding frame_row
frame_row-keeps notes f s d h =
    ok_choice (AreStates notes f) (int_le (pos 0) d.n && int_le (pos 0) d.c) _ _
    (drop_row-keeps notes f s (unsigned_abs d.n) (unsigned_abs d.c) h)
    (ok_choice (AreStates notes f) (int_le d.n (pos 0) && int_le d.c (pos 0)) _ _
    (make_row-keeps notes f s (unsigned_abs d.n) (unsigned_abs d.c) h) tt)
