-- Under notes that a text stands for, what is printed of points is a document of TOML, and is read as the points.
use Rattle.point_laws.proofs.Common.{AllByRecursion, is_utf8-from_IsUtf8, position_or_len-map, PrintedPointsAreRead, PrintedPointsAreTables}
use Rattle.point_laws.proofs.Common.{ap, each, item, once, refl, true, zero, ◌++◌, ◌+◌, ◌||◌, ◌∙◌, ◌∷◌, ◌≡◌, ◌≤◌}
use Rattle.point_laws.proofs.Common.{AreNames, array_at, bytes_eq, count_by, document, draft_in, draft_of, HasNames, SlotKind, tables_of, ℕ}
use Rattle.point_laws.proofs.Common.{arith, array, codes, cond, count, Each, Fact, false, IfOk, Item, known, List, None, Some, subst, table}
use Rattle.point_laws.proofs.Common.{below_are, each_none, fields_at, fields_of, FieldText, has_field, HaveNames, IsReading, Ok, told_up_to}
use Rattle.point_laws.proofs.Common.{Bool, field_name, item_draft, item_texts, NameTables, NotesDraft, ShapeDraft, some_of_map, sum_by-cons}
use Rattle.point_laws.proofs.Common.{count_beside, FunctionDraft, locals_fields, option_map_or}
use Rattle.point_laws.proofs.Common.{point_members, register_type_text, slice_get-map}
use Rattle.point_laws.proofs.Common.{each_map, flat_map, has_text, notes_in, notes_of, ok_given, owner_of, point_of, resolved, state_of, Ty}
use Rattle.point_laws.proofs.Common.{Field, filter, le-leb, length, lt-ltb, member, nat_le, Notes, Option, Point, Shape, State, strings, []}
use Rattle.point_laws.proofs.Common.{field_names, flat_map-map, function_at, IsAscii, IsPointNote, local_fields, point_locals, shape_fields}
use Rattle.point_laws.proofs.Common.{find_at, is_none, is_slot, IsKnown, IsNotes, item_of, list_at, name_of, ok_next, ok_then, rows_of, sym}
use Rattle.point_laws.proofs.Common.{FnNote, range_with_len, register_draft, register_texts, resolved_field, resolved_point, resolved_shape}
use Rattle.point_laws.proofs.Common.{greatest_32, greatest_64, known_names, name_number, names_below, point_draft, point_limit, register_of}
use Rattle.point_laws.proofs.Common.{has_place, is_locals, item_text, locals_in, nat_tests, none-some, only_keys, slice_get, suc, tables_at}
use Rattle.point_laws.proofs.Common.{IsAscii-append, map, notes_of-notes, option_and_then, points_members, position_or_len, resolved_locals}
use Rattle.point_laws.proofs.Common.{IsAscii-nil, IsUtf8-from_ascii, known_names-are, resolved_function, slice_get_within, slots_and_locals}
use Rattle.point_laws.proofs.Common.{IsName, last_place, length-map, members_in, no_members, option_map, point_made, point_text, read_names}
use Rattle.point_laws.proofs.NamesGiven.{draft_named, HasNamesOnce, IsNamedShape, names_once}
use Rattle.point_laws.proofs.PointsDocument.{AllToldPlain, IsToldPlain, told_ascii, told_document, told_members, told_parsed, told_text}
use Rattle.point_laws.proofs.PointsDocument.{Told}
use Rattle.point_laws.proofs.TextsRead.{AllKnown, KnownItem, texts_found}
use Rattle.point_laws.proofs.TextsRead.{beside_found, count_strings, names_again, names_are_plain, number_found, tables_read, texts_again}
use Rattle.point_laws.proofs.{NamesNumbered.Once, NoneAgain.all_each, NoneAgain.all_map, NoneAgain.each_of, PointsResolved.AreNamesOf}
use Rattle.note_types.specs.Records as records
use Rattle.note_types.specs.declared.cell.SlotKind.TheVariants as kinds
use Rattle.note_types.specs.declared.items.Item.TheVariants as items
use Rattle.type_notes.proofs.NamesFound as found
use Rattle.point_laws.proofs.PointsResolved as resolving
use Rattle.point_laws.proofs.TextsRead as reading

-- ---- the function of a point, and its locals

-- the function of a place is that of a draft, whose locals a point there may name
pub record IsOwned (t : NameTables) (d : NotesDraft) (place : ℕ) (f : FnNote) : Type 0 where
  pub number : ℕ
  pub draft : FunctionDraft
  pub same : resolved_function t draft ≡ f
  pub there : slice_get (resolved t d).function number ≡ Some f
  pub held : is_none (owner_of d.function place) ≡ false
  pub locals : point_locals t d place ≡ locals_in t d (Some draft)

pub owned : (t : NameTables) (d : NotesDraft) (place : ℕ) (f : FnNote) → function_at (resolved t d) place ≡ Some f → IsOwned t d place f
unfolding function_at resolved resolved_function owner_of point_locals
owned t d place f there =
    let P : FnNote → Bool = records.has_place place in
    let fs = map (resolved_function t) d.function in
    let k = position_or_len (has_place place) d.function in
    let first : position_or_len P fs ≡ k = sym (position_or_len-map P (resolved_function t) d.function) in
    let here : slice_get fs k ≡ Some f = ap (slice_get fs) (sym first) ∙ (sym (find_at P fs) ∙ there) in
    let g = some_of_map (resolved_function t) (slice_get d.function k) f (sym (slice_get-map (resolved_function t) d.function k) ∙ here) in
    let owner : owner_of d.function place ≡ Some k = rw (lt-ltb k (length d.function) (slice_get_within d.function k g.0 g.1)) refl in
    record {
      number = k;
      draft = g.0;
      same = g.2;
      there = here;
      held = ap is_none owner;
      locals = ap (λ o. locals_in t d (option_and_then (slice_get d.function) o)) owner ∙ ap (locals_in t d) g.1;
    }

fields_by : (t : NameTables) (o : Option ShapeDraft) → fields_of (option_map (resolved_shape t) o) ≡ map (resolved_field t) (shape_fields o)
unfolding resolved_shape
fields_by t None = refl
fields_by t (Some s) = refl

locals_by : (t : NameTables) (d : NotesDraft) (locals : Option (List ℕ))
    → fields_of (option_and_then (slice_get (map (resolved_shape t) d.shape)) (resolved_locals t locals))
    ≡ map (resolved_field t) (locals_fields t d locals)
unfolding resolved_locals locals_fields
locals_by t d None = refl
locals_by t d (Some name) =
    ap fields_of (slice_get-map (resolved_shape t) d.shape (name_number name t.shape))
    ∙ fields_by t (slice_get d.shape (name_number name t.shape))

-- the fields of its locals are those that the draft has
pub its_fields : (t : NameTables) (d : NotesDraft) (g : FunctionDraft)
    → local_fields (resolved t d) (resolved_function t g) ≡ map (resolved_field t) (locals_fields t d g.locals)
unfolding local_fields resolved resolved_function
its_fields t d g = locals_by t d g.locals

-- ---- what a reading gives

-- what is known of notes that a text stands for
pub record IsRead (d : NotesDraft) (t : NameTables) : Type 0 where
  pub notes : IsNotes (resolved t d)
  pub names : found.HasNames d t
  pub shapes : Each IsNamedShape d.shape
  pub once : HasNamesOnce d
  pub given : HasNames (resolved t d)

once_known : (d : NotesDraft) → IfOk (known_names d) (λ t. HasNamesOnce d)
unfolding known_names
once_known d = ok_then (λ _. HasNamesOnce d) (λ t. HasNamesOnce d) (once d) _ (names_once d)
    (λ t h. ok_next (λ t. HasNamesOnce d) (known t d) _ (λ _. h))

pub is_read : (text : List ℕ) (d : NotesDraft) (t : NameTables) → IsReading text d t → IsRead d t
unfolding notes_of notes_in known_names
is_read text d t h =
    let read : notes_of text ≡ Ok (resolved t d) = rw (h.document, h.draft, h.names, h.conditions) refl in
    record {
      notes = ok_given IsNotes (notes_of text) (resolved t d) read (notes_of-notes text);
      names = (ok_given _ (known_names d) t h.names (known_names-are d)).0;
      shapes = ok_given _ (draft_of h.members) d h.draft (draft_named h.members);
      once = ok_given _ (known_names d) t h.names (once_known d);
      given = read_names text (resolved t d) read;
    }

-- ---- names

no_fields : Each (λ (x : FieldText). IsName x.name) []
no_fields = each_none (λ (x : FieldText). IsName x.name)

none_once : Once (λ (x : FieldText). x.name) []
none_once j k x y first second e = absurd (none-some x first)

named_by : (o : Option ShapeDraft) → ((s : ShapeDraft) → o ≡ Some s → IsNamedShape s)
    → Each (λ (x : FieldText). IsName x.name) (shape_fields o)
named_by None h = no_fields
named_by (Some s) h = (h s refl).fields

once_in : (o : Option ShapeDraft) → ((s : ShapeDraft) → o ≡ Some s → Once (λ (x : FieldText). x.name) s.fields)
    → Once (λ (x : FieldText). x.name) (shape_fields o)
once_in None h = none_once
once_in (Some s) h = h s refl

-- the names of the shapes of the record are those of the draft
shape_names_kept : (t : NameTables) (ss : List ShapeDraft)
    → map (λ (s : Shape). s.name) (map (resolved_shape t) ss) ≡ map (λ (s : ShapeDraft). s.name) ss
unfolding resolved_shape
shape_names_kept t [] = refl
shape_names_kept t (s ∷ ss) = ap (λ names. s.name ∷ names) (shape_names_kept t ss)

module _ (d : NotesDraft) (t : NameTables) (r : IsRead d t) where
  locals_named : (locals : Option (List ℕ)) → Each (λ (x : FieldText). IsName x.name) (locals_fields t d locals)
  unfolding locals_fields
  locals_named None = no_fields
  locals_named (Some name) = named_by (slice_get d.shape (name_number name t.shape)) (λ s e. r.shapes (name_number name t.shape) s e)

  pub locals_once : (locals : Option (List ℕ)) → Once (λ (x : FieldText). x.name) (locals_fields t d locals)
  unfolding locals_fields
  locals_once None = none_once
  locals_once (Some name) = once_in (slice_get d.shape (name_number name t.shape)) (λ s e. r.once.fields (name_number name t.shape) s e)

  have_names : (f : FnNote) (fs : List FieldText) → local_fields (resolved t d) f ≡ map (resolved_field t) fs
      → Each (λ (x : FieldText). IsName x.name) fs → HaveNames (resolved t d) (local_fields (resolved t d) f)
  unfolding resolved resolved_shape resolved_field
  have_names f fs same named =
      record {
        shapes = each_map (λ (s : Shape). IsName s.name) (resolved_shape t) d.shape (λ k s at. (r.shapes k s at).name);
        methods = r.given.methods;
        fields = subst (Each (λ (x : Field). IsName x.name)) (sym same)
            (each_map (λ (x : Field). IsName x.name) (resolved_field t) fs named);
      }

  pub are_names : (f : FnNote) (fs : List FieldText) → local_fields (resolved t d) f ≡ map (resolved_field t) fs
      → Once (λ (x : FieldText). x.name) fs → length (local_fields (resolved t d) f) ≤ 64 → AreNamesOf t (resolved t d) f fs
  unfolding resolved
  are_names f fs same once few =
      let long : length (local_fields (resolved t d) f) ≡ length fs = ap length same ∙ length-map fs (resolved_field t) in
      record {
        shapes = r.names.shape ∙ sym (shape_names_kept t d.shape);
        shapes_once = subst (Once (λ name. name)) (sym r.names.shape) r.once.shapes;
        methods = refl;
        methods_once = r.given.methods_once;
        fields = same;
        fields_once = once;
        few = omega arith;
      }

-- ---- items of the stack

one_known : (notes : Notes) (f : FnNote) (x : Item) → ((kind : SlotKind) (t : Ty) → x ≡ items.Slot kind t → IsKnown notes f t)
    → KnownItem notes f x
one_known notes f (items.Slot kind t) h = h kind t refl
one_known notes f items.Locals h = tt

pub all_known : (notes : Notes) (f : FnNote) (xs : List Item)
    → ((k : ℕ) (kind : SlotKind) (t : Ty) → slice_get xs k ≡ Some (items.Slot kind t) → IsKnown notes f t) → AllKnown notes f xs
all_known notes f xs h = all_each (KnownItem notes f) xs (λ k x at. one_known notes f x (λ kind t e. h k kind t (at ∙ ap Some e)))

slot_other : (notes : Notes) (fields : List Field) (kind : SlotKind) (t : Ty)
    → bytes_eq (item_text notes fields (items.Slot kind t)) (codes "locals") ≡ false
slot_other notes fields kinds.N t = refl
slot_other notes fields kinds.Q t = refl
slot_other notes fields kinds.D t = refl

-- where no text is `locals`, no item is
no_locals : (notes : Notes) (fields : List Field) (xs : List Item)
    → has_text (codes "locals") (strings (item_texts notes fields xs)) ≡ false → count_by is_locals xs ≡ 0
no_locals notes fields [] e = refl
no_locals notes fields (items.Slot kind t ∷ xs) e =
    let rest = no_locals notes fields xs (sym (ap (λ b. b || has_text (codes "locals") (strings (item_texts notes fields xs)))
    (slot_other notes fields kind t)) ∙ e) in
    let b = sum_by-cons (λ y. cond (is_locals y) 1 0) (items.Slot kind t) xs in
    omega arith
no_locals notes fields (items.Locals ∷ xs) e = absurd cc

few_beside : (notes : Notes) (fields : List Field) (xs : List Item) → count_by is_slot xs ≤ 64 → count_by is_locals xs ≤ 1
    → nat_le (count_beside (codes "locals") (strings (item_texts notes fields xs))) 64 ≡ true
few_beside notes fields xs few once =
    let ts = item_texts notes fields xs in
    let long : count (strings ts) ≡ length xs = count_strings ts ∙ length-map xs (item_text notes fields) in
    grind (arith, nat_tests, slots_and_locals xs, no_locals notes fields xs, long)

-- ---- one point

kept_short : (p : ℕ → Bool) (a n : ℕ) → length (filter p (range_with_len a n)) ≤ n
kept_short p a zero = omega arith
kept_short p a (suc n) = grind (arith, kept_short p (a + 1) n)

told_short : (s : State) (n : ℕ) → length (told_up_to s n) ≤ n
unfolding told_up_to
told_short s n = kept_short _ 1 n

names_short : (fields : List Field) (set n : ℕ) → length (names_below fields set n) ≤ n
unfolding names_below
names_short fields set n =
    let short = kept_short (has_field set) 0 n in
    let kept = filter (has_field set) (range_with_len 0 n) in
    let long : length (map (field_name fields) kept) ≡ length kept = length-map kept (field_name fields) in
    omega arith

same_state : (s : State) (regs : List Ty) (stack : List Item) (written : ℕ) (fact : Option Fact) → regs ≡ s.regs → stack ≡ s.items
    → written ≡ s.written → fact ≡ s.fact
    → record { regs = regs; items = stack; written = written; made = s.made; fact = fact } ≡ s
same_state s regs stack written fact a b c e = rw (a, b, c, e) refl

abbrev told_in : Notes → List Field → Point → Told
told_in notes fl p = record {
  place = p.place;
  made = p.state.made;
  regs = register_texts notes fl p.state;
  stack = item_texts notes fl p.state.items;
  written = field_names fl p.state.written;
}

abbrev told_of : Notes → Point → Told
told_of notes p = told_in notes (fields_at notes p.place) p

-- what is printed of a point where the locals have these fields, and what it is read as
pub record PrintedWith (t : NameTables) (d : NotesDraft) (p : Point) (fl : List Field) : Type 0 where
  pub table : (prefix : List ℕ) → point_of prefix (members_in (resolved t d) fl p) ≡ Ok (draft_in (resolved t d) fl p)
  pub point : resolved_point t d (draft_in (resolved t d) fl p) ≡ p
  pub plain : IsToldPlain (told_in (resolved t d) fl p)

abbrev pub IsPrinted : NameTables → NotesDraft → Point → Type 0
IsPrinted t d p = PrintedWith t d p (fields_at (resolved t d) p.place)

pub here : (notes : Notes) (p : Point) (n : IsPointNote notes p) → fields_at notes p.place ≡ local_fields notes n.owner
unfolding fields_at
here notes p n = ap (λ o. option_map_or (local_fields notes) o []) n.there

module _ (d : NotesDraft) (t : NameTables) (p : Point) (n : IsPointNote (resolved t d) p) (fs : List FieldText)
    (h : HaveNames (resolved t d) (local_fields (resolved t d) n.owner)) (a : AreNamesOf t (resolved t d) n.owner fs) where
  abbrev fields : List Field
  fields = local_fields (resolved t d) n.owner

  items_known : AllKnown (resolved t d) n.owner p.state.items
  items_known = all_known (resolved t d) n.owner p.state.items n.state.slots

  written_named : AreNames (field_names fields p.state.written)
  written_named = below_are (resolved t d) n.owner p.state.written 64 h n.written

  table_again : (prefix : List ℕ) → point_of prefix (members_in (resolved t d) fields p) ≡ Ok (draft_in (resolved t d) fields p)
  unfolding point_of point_made only_keys
  table_again prefix =
      let told = told_short p.state 7 in
      let long = length-map (told_up_to p.state 7) (register_type_text (resolved t d) fields p.state) in
      let short = names_short fields p.state.written 64 in
      let ms = members_in (resolved t d) fields p in
      let regs = texts_again register_of (register_type_text (resolved t d) fields p.state) (register_draft (resolved t d) fields p.state)
      (prefix ++ codes "regs") (told_up_to p.state 7) (reading.registers_read (resolved t d) n.owner h p.state n.state) in
      let stack = texts_again item_of (item_text (resolved t d) fields) (item_draft (resolved t d) fields) (prefix ++ codes "stack")
      p.state.items (reading.items_read (resolved t d) n.owner h p.state.items items_known) in
      rw (
        number_found prefix (codes "place") 0 last_place p.place ms refl (omega arith) (omega arith),
        texts_found register_of prefix (codes "regs") greatest_64 ms _ _ refl (omega arith) regs,
        beside_found item_of prefix (codes "stack") (codes "locals") 64 ms _ _ refl
            (few_beside (resolved t d) fields p.state.items n.state.few n.state.once) stack,
        texts_found name_of prefix (codes "written") greatest_64 ms _ _ refl (omega arith)
            (names_again (prefix ++ codes "written") (field_names fields p.state.written) written_named),
        number_found prefix (codes "made") 0 greatest_32 p.state.made ms refl (omega arith) (omega arith),
      ) refl

  state_again : state_of t fs (draft_in (resolved t d) fields p) ≡ p.state
  unfolding state_of
  state_again = same_state p.state _ _ _ None (resolving.registers_again t (resolved t d) n.owner fs a p.state n.state)
      (resolving.items_again t (resolved t d) n.owner fs a p.state.items items_known)
      (resolving.set_read t (resolved t d) n.owner fs a p.state.written n.written n.set) (sym n.fact)

  point_again : (point_locals t d p.place).fields ≡ fs → resolved_point t d (draft_in (resolved t d) fields p) ≡ p
  unfolding resolved_point
  point_again same =
      ap (λ (fl : List FieldText). record { place = p.place; state = state_of t fl (draft_in (resolved t d) fields p) }) same
      ∙ ap (λ (s : State). record { place = p.place; state = s }) state_again

  printed : (point_locals t d p.place).fields ≡ fs → IsPrinted t d p
  printed same = subst (PrintedWith t d p) (sym (here (resolved t d) p n)) (record {
    table = table_again;
    point = point_again same;
    plain = record {
      place = omega (arith, n.place);
      made = omega (arith, n.made);
      regs = reading.registers_plain (resolved t d) n.owner h p.state n.state;
      stack = reading.items_plain (resolved t d) n.owner h p.state.items items_known;
      written = names_are_plain (field_names fields p.state.written) written_named;
    };
  })

pub is_printed : (d : NotesDraft) (t : NameTables) → IsRead d t → (p : Point) → IsPointNote (resolved t d) p → IsPrinted t d p
is_printed d t r p n =
    let o = owned t d p.place n.owner n.there in
    let fs = locals_fields t d o.draft.locals in
    let same = ap (local_fields (resolved t d)) (sym o.same) ∙ its_fields t d o.draft in
    let few : length (local_fields (resolved t d) n.owner) ≤ 64 = (r.notes.functions o.number n.owner o.there).fields in
    printed d t p n fs (have_names d t r n.owner fs same (locals_named d t r o.draft.locals))
    (are_names d t r n.owner fs same (locals_once d t r o.draft.locals) few) (ap (λ l. l.fields) o.locals)

-- ---- the points

abbrev pub AllPrinted : NameTables → NotesDraft → List Point → Type 0
AllPrinted t d ps = AllByRecursion (IsPrinted t d) ps

pub all_printed : (d : NotesDraft) (t : NameTables) → IsRead d t → (ps : List Point) → Each (IsPointNote (resolved t d)) ps
    → AllPrinted t d ps
all_printed d t r ps h =
    each_of (IsPointNote (resolved t d)) (IsPrinted t d) ps (is_printed d t r) (all_each (IsPointNote (resolved t d)) ps h)

all_plain : (d : NotesDraft) (t : NameTables) (ps : List Point) → AllPrinted t d ps → AllToldPlain (map (told_of (resolved t d)) ps)
all_plain d t ps h =
    all_map IsToldPlain (told_of (resolved t d)) ps
    (each_of (IsPrinted t d) (λ p. IsToldPlain (told_of (resolved t d) p)) ps (λ p h. h.plain) h)

tables_told : (notes : Notes) (ps : List Point) → tables_of told_members (map (told_of notes) ps) ≡ tables_of (point_members notes) ps
tables_told notes [] = refl
tables_told notes (p ∷ ps) = ap (item (table (point_members notes p))) (tables_told notes ps)

document_told : (notes : Notes) (ps : List Point) → told_document (map (told_of notes) ps) ≡ points_members notes ps
document_told notes [] = refl
document_told notes (p ∷ ps) =
    ap (λ ds. member (codes "point") (array (item (table (point_members notes p)) ds)) no_members) (tables_told notes ps)

all_ascii : (xs : List Told) → AllToldPlain xs → IsAscii (flat_map told_text xs)
all_ascii [] h = IsAscii-nil
all_ascii (x ∷ xs) h = IsAscii-append (told_text x) (flat_map told_text xs) (told_ascii x h.0) (all_ascii xs h.1)

document_of : (xs : List Told) → AllToldPlain xs → document (flat_map told_text xs) ≡ Ok (told_document xs)
unfolding document
document_of xs h =
    let text = flat_map told_text xs in
    rw (is_utf8-from_IsUtf8 text (IsUtf8-from_ascii text (all_ascii xs h)), told_parsed xs h) refl

pub printed_tables : PrintedPointsAreTables
unfolding point_text
printed_tables text d t h ps n =
    let notes = resolved t d in
    let all = all_printed d t (is_read text d t h) ps n in
    ap document (sym (flat_map-map told_text (told_of notes) ps))
    ∙ (document_of (map (told_of notes) ps) (all_plain d t ps all) ∙ ap (λ m. Ok m) (document_told notes ps))

pub all_points : (d : NotesDraft) (t : NameTables) (ps : List Point) → AllPrinted t d ps
    → map (resolved_point t d) (map (point_draft (resolved t d)) ps) ≡ ps
all_points d t [] h = refl
all_points d t (p ∷ ps) h = rw (h.0.point, all_points d t ps h.1) refl

no_tables : (limit : ℕ) → tables_at point_of [] (codes "point") limit no_members ≡ Ok []
unfolding tables_at list_at array_at rows_of each
no_tables limit = rw (le-leb 0 limit (omega arith)) refl

pub tables_again : (d : NotesDraft) (t : NameTables) (ps : List Point) (limit : ℕ) → AllPrinted t d ps → length ps ≤ limit
    → tables_at point_of [] (codes "point") limit (points_members (resolved t d) ps) ≡ Ok (map (point_draft (resolved t d)) ps)
tables_again d t [] limit h few = no_tables limit
tables_again d t (p ∷ ps) limit h few =
    tables_read point_of (point_members (resolved t d)) (point_draft (resolved t d)) (codes "point") limit
    (points_members (resolved t d) (p ∷ ps)) (p ∷ ps) refl few
    (each_of (IsPrinted t d) (λ p. (prefix : List ℕ) → point_of prefix (point_members (resolved t d) p) ≡ Ok (point_draft (resolved t d) p))
    (p ∷ ps) (λ p h. h.table) h)

pub printed_points : PrintedPointsAreRead
printed_points text d t h ps n few =
    let notes = resolved t d in
    let all = all_printed d t (is_read text d t h) ps n in
    rw (printed_tables text d t h ps n, tables_again d t ps (point_limit d.version) all few) (ap (λ xs. Ok xs) (all_points d t ps all))
