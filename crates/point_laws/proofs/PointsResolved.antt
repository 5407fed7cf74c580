-- The draft of a point stands for the point, and is accepted: what it names is there.
use Rattle.point_laws.proofs.Common.{ap, Ty, [], ◌≡◌, ◌≤◌}
use Rattle.point_laws.proofs.Common.{AreFields, get_or_from_slice_get, given_or_left_out, IsStrictlyIncreasing, IsStrictlyIncreasing-filter}
use Rattle.point_laws.proofs.Common.{arith, Cell, false, Field, length, lt-ltb, map-id, nat_eq, nat_le, Notes, Point, Shape, State, subst}
use Rattle.point_laws.proofs.Common.{Bool, has_item_fields, has_item_thunk, range_with_len, register_draft, regs_are_local, resolved_locals}
use Rattle.point_laws.proofs.Common.{bytes_eq, count_by, draft_in, eqb-true, is_field, is_locals, is_named, ItemText, nat_tests, slice_get}
use Rattle.point_laws.proofs.Common.{CellNames, field_names, fill_by_all, is_left_out, IsPointNote, local_fields, point_locals, PointLocals}
use Rattle.point_laws.proofs.Common.{cond, find, has, Item, List, map, None, not, refl, Some, suc, sym, true, zero, ◌+◌, ◌<◌, ◌^◌, ◌∙◌, ◌∷◌}
use Rattle.point_laws.proofs.Common.{field_name, FnNote, has_fields, has_repeat, item_draft, knows_cell, knows_item, knows_regs, knows_type}
use Rattle.point_laws.proofs.Common.{field_number, holds_locals, resolved_cell, resolved_item, resolved_type, same_register, slice_get-map}
use Rattle.point_laws.proofs.Common.{field_set, FieldText, has_field, has_thunk, length-map, named_cell, named_type, shape_name, told_up_to}
use Rattle.point_laws.proofs.Common.{filter, is_none, is_some, IsKnown, IsState, left_out, list_all, Option, owner_of, resolved, type_of, ℕ}
use Rattle.point_laws.proofs.Common.{if◌then◌else◌, length-filter, NameTables, option_map_or, register_type, resolved_field, stack_is_local}
use Rattle.point_laws.proofs.Common.{knows_stack, list_any_at, method_name, name_number, names_below, NotesDraft, PointDraft, within_some}
use Rattle.point_laws.proofs.Common.{RegisterText, regs_have_thunks, repeats_register, slice_get_within, stack_has_thunks, written_is_local}
use Rattle.point_laws.proofs.NamesNumbered.{field_again, name_kept, number_of_name, Once, same, set_again}
use Rattle.point_laws.proofs.NoneAgain.{all_kept, all_of, all_pass, all_range, each_of, map_same, none_again, range_up}
use Rattle.point_laws.proofs.TextsRead.{AllKnown, KnownItem}
use Rattle.note_types.specs.declared.cell.Cell.TheVariants as cell
use Rattle.note_types.specs.declared.items.Item.TheVariants as item
use Rattle.note_types.specs.declared.types.Ty.TheVariants as ty
use Rattle.type_notes.specs.Conditions as conditions

-- names and tables of names agree with notes, and these fields with their texts
pub record AreNamesOf (t : NameTables) (notes : Notes) (f : FnNote) (fs : List FieldText) : Type 0 where
  pub shapes : t.shape ≡ map (λ (s : Shape). s.name) notes.shape
  pub shapes_once : Once (λ name. name) t.shape
  pub methods : t.method ≡ notes.methods
  pub methods_once : Once (λ name. name) t.method
  pub fields : local_fields notes f ≡ map (resolved_field t) fs
  pub fields_once : Once (λ (g : FieldText). g.name) fs
  pub few : length fs ≤ 64

-- the name of a thing that is there
pub name_there : {A : Type 0} (name : A → List ℕ) (xs : List A) (names : List (List ℕ)) (k : ℕ) → names ≡ map name xs → k < length xs
    → slice_get names k ≡ Some (option_map_or name (slice_get xs k) [])
name_there name xs names k same within =
    let x = within_some xs k within in
    rw (same, slice_get-map name xs k, x.1) refl

-- a name that is there is among the names
named_at : (names : List (List ℕ)) (k : ℕ) (name : List ℕ) → slice_get names k ≡ Some name → is_named name names ≡ true
named_at names k name there =
    list_any_at (bytes_eq name) names k name (slice_get_within names k name there)
    (ap (bytes_eq name) (get_or_from_slice_get names k name name there) ∙ same name)

module _ (t : NameTables) (notes : Notes) (f : FnNote) (fs : List FieldText) (a : AreNamesOf t notes f fs) where
  shape_again : (s : ℕ) → s < length notes.shape → name_number (shape_name notes s) t.shape ≡ s
  shape_again s within = number_of_name t.shape a.shapes_once s (shape_name notes s)
      (name_there (λ (x : Shape). x.name) notes.shape t.shape s a.shapes within)

  method_again : (m : ℕ) → m < length notes.methods → name_number (method_name notes m) t.method ≡ m
  method_again m within = number_of_name t.method a.methods_once m (method_name notes m)
      (name_there (λ n. n) notes.methods t.method m (a.methods ∙ sym (map-id notes.methods)) within)

  cell_again : (c : Cell) → CellNames notes c → resolved_cell t (named_cell notes c) ≡ c
  unfolding resolved_cell named_cell
  cell_again (cell.Ptr s k null) n = ap (λ x. cell.Ptr x k null) (shape_again s n)
  cell_again (cell.P64 s k null) n = ap (λ x. cell.P64 x k null) (shape_again s n)
  cell_again (cell.Method m) n = ap (λ x. cell.Method x) (method_again m n)
  cell_again c n = refl

  pub long : length (local_fields notes f) ≡ length fs
  long = ap length a.fields ∙ length-map fs (resolved_field t)

  field_read : (x : ℕ) → x < length (local_fields notes f) → field_number fs (field_name (local_fields notes f) x) ≡ x
  field_read x within =
      let e = long in
      ap (λ fields. field_number fs (field_name fields x)) a.fields ∙ field_again t fs a.fields_once a.few x (omega arith)

  pub set_read : (set : ℕ) → AreFields notes f set → set < 2 ^ 64 → field_set fs (field_names (local_fields notes f) set) ≡ set
  set_read set known small =
      let e = long in
      ap (λ fields. field_set fs (field_names fields set)) a.fields
      ∙ set_again t fs a.fields_once a.few set (λ x h. let w = known x h in omega arith) small

  type_again : (x : Ty) → IsKnown notes f x → resolved_type t fs (named_type notes (local_fields notes f) x) ≡ x
  unfolding resolved_type named_type
  type_again (ty.Ptr s count n c null) k = ap (λ y. ty.Ptr y count n c null) (shape_again s k.names)
  type_again (ty.Local x) k = ap (λ y. ty.Local y) (field_read x k.names)
  type_again (ty.Lent c) k = ap (λ y. ty.Lent y) (cell_again c k.names)
  type_again (ty.Status set) k = ap (λ y. ty.Status y) (set_read set k.names k.bounded)
  type_again (ty.SignedStatus set) k = ap (λ y. ty.SignedStatus y) (set_read set k.names k.bounded)
  type_again (ty.Method m) k = ap (λ y. ty.Method y) (method_again m k.names)
  type_again t k = refl

  -- ---- items

  item_again : (x : Item) → KnownItem notes f x → resolved_item t fs (item_draft notes (local_fields notes f) x) ≡ x
  unfolding resolved_item
  item_again (item.Slot kind x) k = ap (λ y. item.Slot kind y) (type_again x k)
  item_again item.Locals k = refl

  pub items_again : (xs : List Item) → AllKnown notes f xs
      → map (resolved_item t fs) (map (item_draft notes (local_fields notes f)) xs) ≡ xs
  items_again [] k = refl
  items_again (x ∷ xs) k = rw (item_again x k.0, items_again xs k.1) refl

  -- ---- registers

  -- a register is found among those that are told
  module _ (s : State) (p : ℕ → Bool) where
    abbrev draft : ℕ → RegisterText
    draft r = register_draft notes (local_fields notes f) s r

    sought : ℕ → List ℕ → Option RegisterText
    sought r ns = find (λ (x : RegisterText). nat_eq x.register r) (map draft ns)

    not_found : (r a n : ℕ) → r < a → sought r (filter p (range_with_len a n)) ≡ None
    unfolding sought
    not_found r a zero above = refl
    not_found r a (suc n) above = grind (arith, nat_tests, not_found r (a + 1) n)

    found_told : (r a n : ℕ) → a ≤ r → r < a + n → sought r (filter p (range_with_len a n)) ≡ cond (p r) (Some (draft r)) None
    unfolding sought
    found_told r a zero low high = absurd (omega arith)
    found_told r a (suc n) low high = grind (arith, nat_tests, found_told r (a + 1) n, not_found r (a + 1) n)

  left : (r : ℕ) (x : Ty) → 1 ≤ r → is_left_out r x ≡ true → left_out r ≡ x
  left r ty.Any low e = grind (arith, nat_tests)
  left r (ty.Saved y) low e = grind (arith, nat_tests)
  left r t low e = absurd cc

  told_or_left : (s : State) (r : ℕ) (b : Bool) → 1 ≤ r → IsKnown notes f (type_of s r) → is_left_out r (type_of s r) ≡ b
      → given_or_left_out t fs r (cond (not b) (Some (register_draft notes (local_fields notes f) s r)) None) ≡ type_of s r
  told_or_left s r true low k e = left r (type_of s r) low e
  told_or_left s r false low k e = type_again (type_of s r) k

  told_found : (s : State) (r n : ℕ) → 1 ≤ r → r ≤ n
      → sought s (λ x. not (is_left_out x (type_of s x))) r (told_up_to s n)
      ≡ cond (not (is_left_out r (type_of s r))) (Some (register_draft notes (local_fields notes f) s r)) None
  unfolding told_up_to
  told_found s r n low high = found_told s (λ x. not (is_left_out x (type_of s x))) r 1 n low (omega arith)

  -- the type of a register, by those that are told
  abbrev told_type : State → ℕ → Ty
  told_type s r = register_type t fs (map (register_draft notes (local_fields notes f) s) (told_up_to s 7)) r

  register_again : (s : State) → IsState notes f s → (r : ℕ) → 1 ≤ r → r ≤ 7 → told_type s r ≡ type_of s r
  unfolding register_type sought
  register_again s k r low high =
      ap (given_or_left_out t fs r) (told_found s r 7 low high)
      ∙ told_or_left s r (is_left_out r (type_of s r)) low (k.registers r) refl

  pub registers_again : (s : State) → IsState notes f s → ty.Any ∷ map (told_type s) (range_with_len 1 7) ≡ s.regs
  registers_again s k =
      let all : s.regs ≡ map (type_of s) (range_with_len 0 8) = fill_by_all (type_of s) s.regs 8 ty.Any k.eight (λ j h. refl) in
      ap (λ xs. ty.Any ∷ xs) (map_same (told_type s) (type_of s) (range_with_len 1 7)
      (all_range (λ r. told_type s r ≡ type_of s r) 1 7 (λ r low high. register_again s k r low (omega arith))))
      ∙ (ap (λ (x : Ty). x ∷ map (type_of s) (range_with_len 1 7)) (sym k.unused) ∙ sym all)

  -- ---- what a printed type names is there

  shape_there : (s : ℕ) → s < length notes.shape → is_named (shape_name notes s) t.shape ≡ true
  shape_there s within = named_at t.shape s (shape_name notes s) (name_there (λ (x : Shape). x.name) notes.shape t.shape s a.shapes within)

  method_there : (m : ℕ) → m < length notes.methods → is_named (method_name notes m) t.method ≡ true
  method_there m within = named_at t.method m (method_name notes m)
      (name_there (λ n. n) notes.methods t.method m (a.methods ∙ sym (map-id notes.methods)) within)

  cell_there : (c : Cell) → CellNames notes c → knows_cell t (named_cell notes c) ≡ true
  unfolding named_cell
  cell_there (cell.Ptr s k null) n = shape_there s n
  cell_there (cell.P64 s k null) n = shape_there s n
  cell_there (cell.Method m) n = method_there m n
  cell_there c n = refl

  pub type_there : (x : Ty) → IsKnown notes f x → knows_type t (named_type notes (local_fields notes f) x) ≡ true
  unfolding named_type
  type_there (ty.Ptr s count n c null) k = shape_there s k.names
  type_there (ty.Lent c) k = cell_there c k.names
  type_there (ty.Method m) k = method_there m k.names
  type_there t k = refl

  -- ---- fields

  field_there : (x : ℕ) → x < length (local_fields notes f) → is_field fs (field_name (local_fields notes f) x) ≡ true
  field_there x within =
      let n = long in
      let g = within_some fs x (omega arith) in
      let name : field_name (local_fields notes f) x ≡ g.0.name = ap (λ fields. field_name fields x) a.fields
      ∙ name_kept t fs a.fields_once a.few x g.0 g.1 in
      ap (is_field fs) name
      ∙ list_any_at (λ (y : FieldText). bytes_eq y.name g.0.name) fs x g.0 (omega arith)
      (ap (λ (y : FieldText). bytes_eq y.name g.0.name) (get_or_from_slice_get fs x g.0 g.0 g.1) ∙ same g.0.name)

  below_there : (set n : ℕ) → AreFields notes f set → list_all (is_field fs) (names_below (local_fields notes f) set n) ≡ true
  unfolding names_below
  below_there set n known =
      let P : ℕ → Type 0 = λ n. is_field fs (field_name (local_fields notes f) n) ≡ true in
      let ns = range_with_len 0 n in
      all_pass (is_field fs) (field_name (local_fields notes f)) (filter (has_field set) ns)
      (all_kept P (has_field set) ns (all_of (λ n. has_field set n ≡ true → P n) ns (λ n e. field_there n (known n (has set n e)))))

  pub set_there : (set : ℕ) → AreFields notes f set → list_all (is_field fs) (field_names (local_fields notes f) set) ≡ true
  set_there set known = below_there set 64 known

  pub fields_there : (x : Ty) → IsKnown notes f x → has_fields fs (named_type notes (local_fields notes f) x) ≡ true
  unfolding named_type
  fields_there (ty.Local x) k = field_there x k.names
  fields_there (ty.Status set) k = set_there set k.names
  fields_there (ty.SignedStatus set) k = set_there set k.names
  fields_there t k = refl

  -- ---- thunk cells

  pub thunk_there : (thunks : ℕ) → length notes.thunk ≡ thunks → (x : Ty) → IsKnown notes f x
      → has_thunk thunks (named_type notes (local_fields notes f) x) ≡ true
  unfolding named_type
  thunk_there thunks n (ty.ThunkAt i) k = lt-ltb i thunks (omega arith)
  thunk_there thunks n t k = refl

-- ---- what is printed of points that ascend is accepted in place of a draft's own points

-- ---- registers

-- registers that are told are each another one
registers_of : (notes : Notes) (fields : List Field) (s : State) (ns : List ℕ)
    → map (λ (x : RegisterText). x.register) (map (register_draft notes fields s) ns) ≡ ns
registers_of notes fields s [] = refl
registers_of notes fields s (n ∷ ns) = ap (λ xs. n ∷ xs) (registers_of notes fields s ns)

told_up : (s : State) (n : ℕ) → IsStrictlyIncreasing (told_up_to s n)
unfolding told_up_to
told_up s n = IsStrictlyIncreasing-filter _ (range_with_len 1 n) (range_up 1 n)

registers_once : (notes : Notes) (fields : List Field) (s : State)
    → has_repeat same_register (map (register_draft notes fields s) (told_up_to s 7)) ≡ false
unfolding has_repeat
registers_once notes fields s =
    ap is_some (none_again (λ (x : RegisterText). x.register) same_register (map (register_draft notes fields s) (told_up_to s 7))
    (λ x y e. eqb-true x.register y.register e)
    (subst IsStrictlyIncreasing (sym (registers_of notes fields s (told_up_to s 7))) (told_up s 7)))

-- ---- the locals on the stack

-- where the function has none, none are on the stack
no_locals : (locals : Option ℕ) (xs : List Item) → is_some locals ≡ false
    → ((k : ℕ) → slice_get xs k ≡ Some item.Locals → is_some locals ≡ true) → length (filter is_locals xs) ≡ 0
no_locals locals [] none there = refl
no_locals locals (item.Slot kind t ∷ xs) none there = no_locals locals xs none (λ k. there (suc k))
no_locals locals (item.Locals ∷ xs) none there = absurd (let e = there 0 refl in cc)

count_drafts : (notes : Notes) (fields : List Field) (xs : List Item)
    → length (filter conditions.is_locals (map (item_draft notes fields) xs)) ≡ length (filter is_locals xs)
count_drafts notes fields [] = refl
count_drafts notes fields (item.Slot kind t ∷ xs) = count_drafts notes fields xs
count_drafts notes fields (item.Locals ∷ xs) = let e = count_drafts notes fields xs in omega arith

pub has_as_many : (t : NameTables) (locals : Option (List ℕ)) → is_some (resolved_locals t locals) ≡ is_some locals
unfolding resolved_locals
has_as_many t None = refl
has_as_many t (Some name) = refl

holds_by : (n : ℕ) (b : Bool) → n ≤ 1 → (b ≡ false → n ≡ 0) → nat_le n (if b then 1 else 0) ≡ true
holds_by n b few none = grind (arith, nat_tests)

-- ---- one point

-- the reader finds no fault in a point
pub record IsAccepted (t : NameTables) (d : NotesDraft) (q : PointDraft) : Type 0 where
  pub regs_known : knows_regs t q ≡ true
  pub stack_known : knows_stack t q ≡ true
  pub regs_once : repeats_register q ≡ false
  pub owned : is_none (owner_of d.function q.place) ≡ false
  pub regs_local : regs_are_local (point_locals t d q.place) q ≡ true
  pub stack_local : stack_is_local (point_locals t d q.place) q ≡ true
  pub written_local : written_is_local (point_locals t d q.place) q ≡ true
  pub regs_thunks : regs_have_thunks (length d.thunk) q ≡ true
  pub stack_thunks : stack_has_thunks (length d.thunk) q ≡ true
  pub holds : holds_locals (point_locals t d q.place) q ≡ true

module _ (d : NotesDraft) (t : NameTables) (p : Point) (n : IsPointNote (resolved t d) p) (fs : List FieldText)
    (a : AreNamesOf t (resolved t d) n.owner fs) (thunks : length (resolved t d).thunk ≡ length d.thunk)
    (known : AllKnown (resolved t d) n.owner p.state.items) where
  abbrev fields : List Field
  fields = local_fields (resolved t d) n.owner

  -- what holds of each known type holds of the registers
  by_register : (q : RegisterText → Bool) → ((r : ℕ) → q (register_draft (resolved t d) fields p.state r) ≡ true)
      → list_all q (map (register_draft (resolved t d) fields p.state) (told_up_to p.state 7)) ≡ true
  by_register q h = all_pass q (register_draft (resolved t d) fields p.state) (told_up_to p.state 7)
      (all_of (λ r. q (register_draft (resolved t d) fields p.state r) ≡ true) (told_up_to p.state 7) h)

  -- and of the items
  by_item : (q : ItemText → Bool) → ((x : Item) → KnownItem (resolved t d) n.owner x → q (item_draft (resolved t d) fields x) ≡ true)
      → list_all q (map (item_draft (resolved t d) fields) p.state.items) ≡ true
  by_item q h =
      all_pass q (item_draft (resolved t d) fields) p.state.items
      (each_of (KnownItem (resolved t d) n.owner) (λ x. q (item_draft (resolved t d) fields x) ≡ true) p.state.items h known)

  item_there : (x : Item) → KnownItem (resolved t d) n.owner x → knows_item t (item_draft (resolved t d) fields x) ≡ true
  item_there (item.Slot kind x) k = type_there t (resolved t d) n.owner fs a x k
  item_there item.Locals k = refl

  item_fields : (x : Item) → KnownItem (resolved t d) n.owner x → has_item_fields fs (item_draft (resolved t d) fields x) ≡ true
  item_fields (item.Slot kind x) k = fields_there t (resolved t d) n.owner fs a x k
  item_fields item.Locals k = refl

  item_thunk : (x : Item) → KnownItem (resolved t d) n.owner x
      → has_item_thunk (length d.thunk) (item_draft (resolved t d) fields x) ≡ true
  item_thunk (item.Slot kind x) k = thunk_there t (resolved t d) n.owner fs a (length d.thunk) thunks x k
  item_thunk item.Locals k = refl

  holds_at : (locals : PointLocals) → locals.has_locals ≡ is_some n.owner.locals
      → holds_locals locals (draft_in (resolved t d) fields p) ≡ true
  holds_at locals has =
      let counted = count_drafts (resolved t d) fields p.state.items in
      let long : length (filter is_locals p.state.items) ≡ count_by is_locals p.state.items = length-filter is_locals p.state.items in
      holds_by (length (filter conditions.is_locals (map (item_draft (resolved t d) fields) p.state.items))) locals.has_locals (omega arith)
      (λ none. counted ∙ no_locals n.owner.locals p.state.items (sym has ∙ none) n.state.there)

  pub accepted : (point_locals t d p.place).fields ≡ fs → (point_locals t d p.place).has_locals ≡ is_some n.owner.locals
      → is_none (owner_of d.function p.place) ≡ false → IsAccepted t d (draft_in (resolved t d) fields p)
  accepted fl hl held =
      let regs = map (register_draft (resolved t d) fields p.state) (told_up_to p.state 7) in
      let stack = map (item_draft (resolved t d) fields) p.state.items in
      record {
        regs_known = by_register (λ r. knows_type t r.ty)
            (λ r. type_there t (resolved t d) n.owner fs a (type_of p.state r) (n.state.registers r));
        stack_known = by_item (knows_item t) item_there;
        regs_once = registers_once (resolved t d) fields p.state;
        owned = held;
        regs_local = ap (λ (fl : List FieldText). list_all (λ (r : RegisterText). has_fields fl r.ty) regs) fl
            ∙ by_register (λ r. has_fields fs r.ty)
            (λ r. fields_there t (resolved t d) n.owner fs a (type_of p.state r) (n.state.registers r));
        stack_local = ap (λ (fl : List FieldText). list_all (has_item_fields fl) stack) fl
            ∙ by_item (has_item_fields fs) item_fields;
        written_local = ap (λ (fl : List FieldText). list_all (is_field fl) (field_names fields p.state.written)) fl
            ∙ set_there t (resolved t d) n.owner fs a p.state.written n.written;
        regs_thunks = by_register (λ r. has_thunk (length d.thunk) r.ty)
            (λ r. thunk_there t (resolved t d) n.owner fs a (length d.thunk) thunks (type_of p.state r) (n.state.registers r));
        stack_thunks = by_item (has_item_thunk (length d.thunk)) item_thunk;
        holds = holds_at (point_locals t d p.place) hl;
      }
