-- The points of a record that notes stand for lie in functions, and their states are states of these.
use Rattle.std.proofs.Common.{◌≡◌, ℕ, zero, suc, ◌+◌, ◌<◌, ◌≤◌, Bool, true, false, List, [], ◌∷◌, length, map, get_or, cond, Option, None}
use Rattle.std.proofs.Common.{Some, if◌then◌else◌, refl, ap, sym, subst, ◌∙◌, arith}
use Rattle.std.specs.Prelude.{IfSome, count_by, is_none, is_some, nat_eq, nat_le, nat_lt, option_and_then, option_map, slice_get}
use Rattle.std.specs.Prelude.{slice_index_or, ⊤, ◌&&◌}
use Rattle.std.specs.List.{find, list_all, position_or_len}
use Rattle.std.proofs.lemmas.Bool.{and_parts, leb-true, ltb-false, ltb-true}
use Rattle.std.proofs.lemmas.List.Folds.{find_at}
use Rattle.std.proofs.lemmas.List.Sums.{get_or-le-sum_by, length-filter, sum_by-cons}
use Rattle.std.proofs.lemmas.Option.{cond_some, get_or_from_slice_get, none-some, slice_get-map, slice_get_within}
use Rattle.note_types.specs.Known.{IsKnown, IsState, is_locals, is_slot, local_fields}
use Rattle.note_types.specs.Records.{Each, IsPointNote, function_at}
use Rattle.note_types.specs.Records as records
use Rattle.note_types.specs.declared.items.Item.{Item}
use Rattle.note_types.specs.declared.items.Item.TheVariants as item
use Rattle.note_types.specs.declared.notes.FnNote.{FnNote}
use Rattle.note_types.specs.declared.notes.Notes.{Notes}
use Rattle.note_types.specs.declared.types.Ty.{Ty}
use Rattle.note_types.specs.declared.types.Ty.TheVariants as ty
use Rattle.note_texts.specs.declared.cell.FieldText.{FieldText}
use Rattle.note_texts.specs.declared.slot.ItemText.{ItemText}
use Rattle.note_texts.specs.declared.slot.ItemText.TheVariants as items
use Rattle.note_texts.specs.declared.slot.RegisterText.{RegisterText}
use Rattle.note_draft.specs.declared.draft.FunctionDraft.{FunctionDraft}
use Rattle.note_draft.specs.declared.draft.NotesDraft.{NotesDraft}
use Rattle.note_draft.specs.declared.draft.PointDraft.{PointDraft}
use Rattle.note_draft.specs.declared.tables.NameTables.{NameTables}
use Rattle.note_draft.specs.Known.{knows_item, knows_type}
use Rattle.ebc_base.proofs.TableLaws.{position_or_len-map}
use Rattle.type_notes.specs.Conditions as conditions
use Rattle.type_notes.specs.Conditions.{has_item_fields, has_item_thunk, holds_locals, locals_count, regs_are_local, regs_have_thunks}
use Rattle.type_notes.specs.Conditions.{stack_has_thunks, stack_is_local}
use Rattle.type_notes.specs.Owners.{has_place, owner_of}
use Rattle.type_notes.specs.PointLocals.{PointLocals, locals_fields, locals_in, point_locals}
use Rattle.type_notes.specs.Resolved.{given_or_left_out, left_out, register_type, resolved, resolved_function, resolved_item}
use Rattle.type_notes.specs.Resolved.{resolved_locals, resolved_point, resolved_type, state_of}
use Rattle.type_notes.specs.TypeKinds.{has_fields, has_thunk}
use Rattle.type_notes.proofs.ConditionsMet.{MeetsConditions}
use Rattle.type_notes.proofs.DraftBounds.{IsDraft, IsStack, is_slot_text}
use Rattle.type_notes.proofs.ListBounds.{all_pass, each_first, each_map, each_rest}
use Rattle.type_notes.proofs.NamesFound.{HasNames, KnowsNames}
use Rattle.type_notes.proofs.ResolvedTypes.{field_set-below, field_set-within, locals_long, type_known}
use Rattle.type_notes.proofs.TextBounds.{IsItemBounded, IsTypeBounded}
use Rattle.ebc_base.proofs.Lists.{within_some}

-- ---- the function of a point

some_of : {A : Type 0} (o : Option A) → is_none o ≡ false → (x : A) × (o ≡ Some x)
some_of None e = absurd cc
some_of (Some x) e = (x, refl)

owner_number : (fs : List FunctionDraft) (place i : ℕ) → owner_of fs place ≡ Some i → (position_or_len (has_place place) fs ≡ i)
    × (i < length fs)
unfolding owner_of
owner_number fs place i e =
    let p = cond_some (nat_lt (position_or_len (has_place place) fs) (length fs)) (position_or_len (has_place place) fs) i e in
    let within : position_or_len (has_place place) fs < length fs = ltb-true (position_or_len (has_place place) fs) (length fs) p.0 in
    (p.1, subst (λ k. k < length fs) p.1 within)

-- the first function that holds a place is that of the first draft that does
function_found : (t : NameTables) (d : NotesDraft) (place i : ℕ) (f : FunctionDraft) → owner_of d.function place ≡ Some i
    → slice_get d.function i ≡ Some f → function_at (resolved t d) place ≡ Some (resolved_function t f)
unfolding function_at resolved resolved_function
function_found t d place i f owned there =
    let P : FnNote → Bool = records.has_place place in
    let fs = map (resolved_function t) d.function in
    let first : position_or_len P fs ≡ i = sym (position_or_len-map P (resolved_function t) d.function)
    ∙ (owner_number d.function place i owned).0 in
    find_at P fs ∙ (ap (slice_get fs) first ∙ (slice_get-map (resolved_function t) d.function i
    ∙ ap (option_map (resolved_function t)) there))

-- and what a point there may name is told by it
locals_found : (t : NameTables) (d : NotesDraft) (place i : ℕ) (f : FunctionDraft) → owner_of d.function place ≡ Some i
    → slice_get d.function i ≡ Some f → point_locals t d place ≡ locals_in t d (Some f)
unfolding point_locals
locals_found t d place i f owned there = ap (λ o. locals_in t d (option_and_then (slice_get d.function) o)) owned ∙ ap (locals_in t d) there

-- ---- registers

found_if : {A : Type 0} (P : A → Type 0) (c : Bool) (x : A) (o : Option A) → P x → IfSome o P → IfSome (cond c (Some x) o) P
found_if P true x o h g = h
found_if P false x o h g = g

each_found : {A : Type 0} (P : A → Type 0) (p : A → Bool) (xs : List A) → Each P xs → IfSome (find p xs) P
each_found P p [] h = tt
each_found P p (x ∷ xs) h = found_if P (p x) x (find p xs) (each_first P x xs h) (each_found P p xs (each_rest P x xs h))

saved_or_any : (notes : Notes) (f : FnNote) (c : Bool) (r : ℕ) → (c ≡ true → (1 ≤ r) × (r ≤ 3))
    → IsKnown notes f (if c then ty.Saved r else ty.Any)
saved_or_any notes f true r h = record { bounded = h refl; names = tt }
saved_or_any notes f false r h = record { bounded = tt; names = tt }

left_out_known : (notes : Notes) (f : FnNote) (r : ℕ) → IsKnown notes f (left_out r)
left_out_known notes f r = saved_or_any notes f (nat_le 1 r && nat_le r 3) r
    (λ e. let p = and_parts (nat_le 1 r) (nat_le r 3) e in (leb-true 1 r p.0, leb-true r 3 p.1))

given_known : (notes : Notes) (f : FnNote) (t : NameTables) (fields : List FieldText) (r : ℕ) (o : Option RegisterText)
    → IfSome o (λ x. IsKnown notes f (resolved_type t fields x.ty)) → IsKnown notes f (given_or_left_out t fields r o)
given_known notes f t fields r None h = left_out_known notes f r
given_known notes f t fields r (Some x) h = h

each_register : (P : Ty → Type 0) (x : ℕ → Ty) → P ty.Any → ((r : ℕ) → P (x r)) → (r : ℕ)
    → P (slice_index_or (ty.Any ∷ x 1 ∷ x 2 ∷ x 3 ∷ x 4 ∷ x 5 ∷ x 6 ∷ x 7 ∷ []) r ty.Any)
each_register P x h g zero = h
each_register P x h g (suc zero) = g 1
each_register P x h g (suc (suc zero)) = g 2
each_register P x h g (suc (suc (suc zero))) = g 3
each_register P x h g (suc (suc (suc (suc zero)))) = g 4
each_register P x h g (suc (suc (suc (suc (suc zero))))) = g 5
each_register P x h g (suc (suc (suc (suc (suc (suc zero)))))) = g 6
each_register P x h g (suc (suc (suc (suc (suc (suc (suc zero))))))) = g 7
each_register P x h g (suc (suc (suc (suc (suc (suc (suc (suc r)))))))) = h

-- ---- the stack

-- what a slot holds is known
abbrev IsItemKnown : Notes → FnNote → Item → Type 0
IsItemKnown notes f (item.Slot kind t) = IsKnown notes f t
IsItemKnown notes f item.Locals = ⊤

count_alike : {A B : Type 0} (p : B → Bool) (q : A → Bool) (v : A → B) → ((x : A) → p (v x) ≡ q x) → (xs : List A)
    → count_by p (map v xs) ≡ count_by q xs
count_alike p q v same [] = refl
count_alike p q v same (x ∷ xs) =
    let a : count_by p (map v (x ∷ xs)) ≡ cond (p (v x)) 1 0 + count_by p (map v xs) = sum_by-cons (λ y. cond (p y) 1 0) (v x) (map v xs) in
    let c : count_by q (x ∷ xs) ≡ cond (q x) 1 0 + count_by q xs = sum_by-cons (λ y. cond (q y) 1 0) x xs in
    let one : cond {A = ℕ} (p (v x)) 1 0 ≡ cond (q x) 1 0 = ap (λ z. cond {A = ℕ} z 1 0) (same x) in
    let rest : count_by p (map v xs) ≡ count_by q xs = count_alike p q v same xs in
    omega arith

slot_alike : (t : NameTables) (fields : List FieldText) (x : ItemText) → is_slot (resolved_item t fields x) ≡ is_slot_text x
unfolding resolved_item
slot_alike t fields (items.Slot kind ty) = refl
slot_alike t fields items.Locals = refl

locals_alike : (t : NameTables) (fields : List FieldText) (x : ItemText) → is_locals (resolved_item t fields x) ≡ conditions.is_locals x
unfolding resolved_item
locals_alike t fields (items.Slot kind ty) = refl
locals_alike t fields items.Locals = refl

-- an item that passes is counted
counted : {A : Type 0} (p : A → Bool) (xs : List A) (k : ℕ) (x : A) → slice_get xs k ≡ Some x → p x ≡ true → 1 ≤ count_by p xs
counted p xs k x e h =
    let le : cond (p (get_or xs k x)) 1 0 ≤ count_by p xs = get_or-le-sum_by (λ y. cond (p y) 1 0) xs k x (slice_get_within xs k x e) in
    let one : cond {A = ℕ} (p (get_or xs k x)) 1 0 ≡ 1 = ap (λ y. cond {A = ℕ} (p y) 1 0) (get_or_from_slice_get xs k x x e)
    ∙ ap (λ c. cond {A = ℕ} c 1 0) h in
    omega arith

has_room : (c : Bool) (n : ℕ) → 1 ≤ n → n ≤ (if c then 1 else 0) → c ≡ true
has_room true n h le = refl
has_room false n h le = absurd (omega arith)

one_at_most : (c : Bool) (n : ℕ) → n ≤ (if c then 1 else 0) → n ≤ 1
one_at_most true n le = le
one_at_most false n le = omega arith

-- ---- states

module _ (t : NameTables) (d : NotesDraft) (b : IsDraft d) (n : HasNames d t) where
  -- the types of a point are known, where they name local fields of its function
  module _ (f : FnNote) (locals : PointLocals) (p : PointDraft) (few : length locals.fields ≤ 64)
      (long : length locals.fields ≤ length (local_fields (resolved t d) f)) where
    register_known : Each (λ r. IsTypeBounded r.ty) p.regs → list_all (λ r. knows_type t r.ty) p.regs ≡ true
        → regs_are_local locals p ≡ true → regs_have_thunks (length d.thunk) p ≡ true → (r : ℕ)
        → IsKnown (resolved t d) f (register_type t locals.fields p.regs r)
    unfolding register_type
    register_known bounded knows local thunks r =
        given_known (resolved t d) f t locals.fields r (find (λ x. nat_eq x.register r) p.regs)
        (each_found (λ x. IsKnown (resolved t d) f (resolved_type t locals.fields x.ty)) (λ x. nat_eq x.register r) p.regs
        (λ k x e. type_known t d b n f locals.fields x.ty few long (bounded k x e) (all_pass (λ y. knows_type t y.ty) p.regs knows k x e)
        (all_pass (λ y. has_fields locals.fields y.ty) p.regs local k x e)
        (all_pass (λ y. has_thunk (length d.thunk) y.ty) p.regs thunks k x e)))

    item_known : (x : ItemText) → IsItemBounded x → knows_item t x ≡ true → has_item_fields locals.fields x ≡ true
        → has_item_thunk (length d.thunk) x ≡ true → IsItemKnown (resolved t d) f (resolved_item t locals.fields x)
    unfolding resolved_item
    item_known (items.Slot kind ty) h k l i = type_known t d b n f locals.fields ty few long h k l i
    item_known items.Locals h k l i = tt

    items_known : Each IsItemBounded p.stack → list_all (knows_item t) p.stack ≡ true → stack_is_local locals p ≡ true
        → stack_has_thunks (length d.thunk) p ≡ true → Each (IsItemKnown (resolved t d) f) (map (resolved_item t locals.fields) p.stack)
    items_known bounded knows local thunks =
        each_map (IsItemKnown (resolved t d) f) (resolved_item t locals.fields) p.stack
        (λ k x e. item_known x (bounded k x e) (all_pass (knows_item t) p.stack knows k x e)
        (all_pass (has_item_fields locals.fields) p.stack local k x e)
        (all_pass (has_item_thunk (length d.thunk)) p.stack thunks k x e))

    -- the state at a point is a state of its function
    state_known : locals.has_locals ≡ is_some f.locals → Each (λ r. IsTypeBounded r.ty) p.regs → IsStack p.stack
        → list_all (λ r. knows_type t r.ty) p.regs ≡ true → list_all (knows_item t) p.stack ≡ true
        → regs_are_local locals p ≡ true → stack_is_local locals p ≡ true → regs_have_thunks (length d.thunk) p ≡ true
        → stack_has_thunks (length d.thunk) p ≡ true → holds_locals locals p ≡ true
        → IsState (resolved t d) f (state_of t locals.fields p)
    unfolding state_of
    state_known has bounded stack knows_regs knows_stack local_regs local_stack thunk_regs thunk_stack holds =
        let slots : count_by is_slot (map (resolved_item t locals.fields) p.stack) ≡ count_by is_slot_text p.stack =
        count_alike is_slot is_slot_text (resolved_item t locals.fields) (slot_alike t locals.fields) p.stack in
        let same : count_by is_locals (map (resolved_item t locals.fields) p.stack) ≡ count_by conditions.is_locals p.stack =
        count_alike is_locals conditions.is_locals (resolved_item t locals.fields) (locals_alike t locals.fields) p.stack in
        let length_is : locals_count p ≡ count_by conditions.is_locals p.stack = length-filter conditions.is_locals p.stack in
        let room : locals_count p ≤ (if locals.has_locals then 1 else 0) =
        leb-true (locals_count p) (if locals.has_locals then 1 else 0) holds in
        let all : count_by is_locals (map (resolved_item t locals.fields) p.stack) ≤ (if locals.has_locals then 1 else 0) =
        subst (λ z. z ≤ (if locals.has_locals then 1 else 0)) (length_is ∙ sym same) room in
        let at_most : count_by is_slot_text p.stack ≤ 64 = stack.few in
        record {
          eight = refl;
          unused = refl;
          registers = each_register (IsKnown (resolved t d) f) (register_type t locals.fields p.regs) (record { bounded = tt; names = tt })
              (register_known bounded knows_regs local_regs thunk_regs);
          slots = λ k kind x e. items_known stack.slots knows_stack local_stack thunk_stack k (item.Slot kind x) e;
          few = omega arith;
          once = one_at_most locals.has_locals (count_by is_locals (map (resolved_item t locals.fields) p.stack)) all;
          there = λ k e. sym has ∙ has_room locals.has_locals (count_by is_locals (map (resolved_item t locals.fields) p.stack))
              (counted is_locals (map (resolved_item t locals.fields) p.stack) k item.Locals e refl) all;
          fact = λ x e. absurd (none-some x e);
        }

  -- ---- points

  has_alike : (o : Option (List ℕ)) → is_some o ≡ is_some (resolved_locals t o)
  unfolding resolved_locals
  has_alike None = refl
  has_alike (Some name) = refl

  -- a function has locals where its draft has
  locals_there : (f : FunctionDraft) → is_some f.locals ≡ is_some (resolved_function t f).locals
  unfolding resolved_function
  locals_there f = has_alike f.locals

  pub point_note : KnowsNames t d → MeetsConditions t d → (k : ℕ) (p : PointDraft) → slice_get d.point k ≡ Some p
      → IsPointNote (resolved t d) (resolved_point t d p)
  unfolding resolved_point state_of
  point_note w m k p e =
      let h = b.point.1 k p e in
      let owned = some_of (owner_of d.function p.place) (m.ordered.owned k p e) in
      let found = within_some d.function owned.0 (owner_number d.function p.place owned.0 owned.1).1 in
      let f = found.0 in
      let locals = point_locals t d p.place in
      let here : locals ≡ locals_in t d (Some f) = locals_found t d p.place owned.0 f owned.1 found.1 in
      let same : length locals.fields ≡ length (locals_fields t d f.locals) = ap (λ l. length l.fields) here in
      let many : length (locals_fields t d f.locals) ≤ 64 = ltb-false 64 (length (locals_fields t d f.locals))
      (m.met.locals owned.0 f found.1) in
      let as_long : length (local_fields (resolved t d) (resolved_function t f)) ≡ length (locals_fields t d f.locals) =
      locals_long t d b n f in
      let few : length locals.fields ≤ 64 = omega arith in
      let long : length locals.fields ≤ length (local_fields (resolved t d) (resolved_function t f)) = omega arith in
      record {
        place = h.place;
        owner = resolved_function t f;
        there = function_found t d p.place owned.0 f owned.1 found.1;
        state = state_known (resolved_function t f) locals p few long (ap (λ l. l.has_locals) here ∙ locals_there f) h.regs h.stack
            (w.regs k p e) (w.stacks k p e) (m.met.regs k p e) (m.met.stack k p e) (m.met.reg_thunks k p e) (m.met.stack_thunks k p e)
            (m.met.holds k p e);
        written = λ x i. let l : x < length locals.fields = field_set-within locals.fields p.written x i in omega arith;
        set = field_set-below locals.fields p.written;
        made = h.made;
        fact = refl;
      }
