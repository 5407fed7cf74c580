-- The call step that accepts: a run that stands for a configuration stands for it with the objects that the call makes.
use Rattle.host_laws.proofs.Common.{◌≡◌, ℕ, zero, suc, ◌+◌, ◌-◌, ◌*◌, ◌%◌, ◌^◌, ◌<◌, ◌≤◌, ◌⊎◌, if◌then◌else◌, nat_lt, List, [], ◌∷◌, ◌++◌}
use Rattle.host_laws.proofs.Common.{map, length, Option, Some, None, refl, sym, ap, ap₂, ◌∙◌, subst, subst₂, arith, inl, inr, ⊎_elim}
use Rattle.host_laws.proofs.Common.{slice_get, AllZip, AllByRecursion, option_map, option_and_then, zero-mod, lt-ltb, le-ltb, cases_lt}
use Rattle.host_laws.proofs.Common.{same_Some, none-some, slice_get_within, little_endian-agree, IsWidth, little_endian, cell_size, Range}
use Rattle.host_laws.proofs.Common.{Concrete, Store, Accepts, field_at, with_objects, after_stores, performed, TypedObject, script_object}
use Rattle.host_laws.proofs.Common.{made_objects, placed_objects, Placement, stack_bytes, object_at, object_bytes, IsPlacement, stack_end}
use Rattle.host_laws.proofs.Common.{object_address, Accepted, ScriptPlace, RunState, Event, FnNote, Thunk, ScriptCall, Field, Config}
use Rattle.host_laws.proofs.Common.{call_under_way, with_call, slots_asked, addresses, total, memory_of, cell_field, CellShows, ThunkShows}
use Rattle.host_laws.proofs.Common.{MachineStands, Stands, Neutral, CellPlace, FieldOf, FieldOfLocals, Shows, ShowsIn, null, World}
use Rattle.host_laws.proofs.Common.{WorldFits, frames_agree, in_object_at, ObjectCell, object_cell, object_place, end_small}
use Rattle.host_laws.proofs.Common.{slice_get-append_left, slice_get-append_right, lies, objects_off, Lies, off_thunk, off_code, width_le}
use Rattle.host_laws.proofs.Common.{StoreNames, with_new}
use Rattle.host_model.specs.HostSteps.{call_under_way as marks_under_way, slots_asked as numbers_asked}
use Rattle.host_model.specs.{Objects.shape_of, Progress.one_entry}
use Rattle.neutral_machine.specs.NeutralHost.{with_objects as neutral_objects, performed as neutral_performed}
use Rattle.neutral_machine.specs.Stands.{cell_address, in_object}
use Rattle.neutral_machine.proofs.{Cells.InObject, Cells.in_locals_at, Cells.local_cell, Placed.off_stack}
use Rattle.host_laws.proofs.Growing.{made_more, ranges_of, ranges_more, all_zeroed, others_stay, inside_zero, zeroed_small, objects_placed}
use Rattle.host_laws.proofs.{Marks.extends_marked, Marks.machine_marked, Marks.machine_told, Things.base_is, Replies.call_more}
use Rattle.host_laws.proofs.{Replies.hosts_more, Replies.hosts_marked, Stores.stores_stand}

-- a range among those of objects is that of an object
pub record OfObject (w : ℕ) (world : World) (P : Placement) (k : ℕ) (os : List TypedObject) (i : ℕ) (r : Range) : Type 0 where
  pub object : TypedObject
  pub there : slice_get os i ≡ Some object
  pub base : r.base ≡ object_at world.notes P (k + i)
  pub size : r.size ≡ object_bytes w world.notes object

pub of_object : (w : ℕ) (world : World) (P : Placement) (k : ℕ) (os : List TypedObject) (i : ℕ) (r : Range)
    → slice_get (ranges_of w world.notes P k os) i ≡ Some r → OfObject w world P k os i r
unfolding ranges_of
of_object w world P k [] i r e = absurd (none-some r e)
of_object w world P k (o ∷ os) zero r e =
    let same = same_Some (record { base = object_at world.notes P k; size = object_bytes w world.notes o }) r e in
    record {
      object = o;
      there = refl;
      base = ap (λ (q : Range). q.base) (sym same)
          ∙ ap (object_at world.notes P) (omega arith);
      size = ap (λ (q : Range). q.size) (sym same);
    }
of_object w world P k (o ∷ os) (suc i) r e =
    let q = of_object w world P (suc k) os i r e in
    record { object = q.object; there = q.there; base = q.base ∙ ap (object_at world.notes P) (omega arith); size = q.size }

pub its_range : (w : ℕ) (world : World) (P : Placement) (k : ℕ) (os : List TypedObject) (i : ℕ) (o : TypedObject) → slice_get os i ≡ Some o
    → slice_get (ranges_of w world.notes P k os) i ≡ Some (record {
      base = object_at world.notes P (k + i);
      size = object_bytes w world.notes o;
    })
unfolding ranges_of
its_range w world P k [] i o e = absurd (none-some o e)
its_range w world P k (q ∷ os) zero o e = ap₂ (λ x (y : TypedObject). Some
    (record { base = object_at world.notes P x; size = object_bytes w world.notes y })) (omega arith) (same_Some q o e)
its_range w world P k (q ∷ os) (suc i) o e = its_range w world P (suc k) os i o e
    ∙ ap (λ x. Some (record { base = object_at world.notes P x; size = object_bytes w world.notes o })) (omega arith)

-- zero bytes spell zero
pub read_zero : (b : ℕ → ℕ) (a k : ℕ) → ((x : ℕ) → a ≤ x → x < a + k → b x ≡ 0) → little_endian b a k ≡ 0
unfolding little_endian
read_zero b a zero f = refl
read_zero b a (suc k) f = ap₂ (λ x y. x + 256 * y) (f a (omega arith) (omega arith))
    (read_zero b (a + 1) k (λ x l m. f x (omega (arith, l)) (omega (arith, m))))

module _ (w : ℕ) (world : World) (P : Placement) (mapped : ℕ → ℕ) (h : IsWidth w) (ok : WorldFits world) (pl : IsPlacement w world P) where
  module _ (a : Config) (s : Concrete) (c : ScriptCall) (call : slice_get world.script.call a.script.entries ≡ Some c)
      (room : total w a.frames ≤ stack_bytes w world.notes) (st : MachineStands w world P mapped None a s) where
    n : ℕ
    n = a.script.entries

    abbrev first : ℕ
    first = length (made_objects world.notes world.script a.script.entries)

    abbrev new : List TypedObject
    new = map script_object c.make

    abbrev grown : List TypedObject
    grown = made_objects world.notes world.script a.script.entries ++ map script_object c.make

    -- the configuration with the objects
    abbrev larger : Config
    larger = record a {
      script = one_entry a.script;
      cells = neutral_objects world.notes
          (made_objects world.notes world.script a.script.entries ++ map script_object c.make)
          (length (made_objects world.notes world.script a.script.entries)) a.cells;
    }

    made_are : made_objects world.notes world.script (a.script.entries + 1) ≡ grown
    made_are = made_more world a.script.entries c call

    zeroed_bytes : ℕ → ℕ
    zeroed_bytes = all_zeroed s.byte (ranges_of w world.notes P first new)

    -- a new object lies somewhere
    new_there : (i : ℕ) (o : TypedObject) → slice_get new i ≡ Some o
        → slice_get (made_objects world.notes world.script (a.script.entries + 1)) (first + i) ≡ Some o
    new_there i o e = ap (λ z. slice_get z (first + i)) made_are
        ∙ slice_get-append_right (made_objects world.notes world.script a.script.entries) new (first + i) (omega arith)
        ∙ ap (slice_get new) (omega arith) ∙ e

    new_lies : (i : ℕ) (o : TypedObject) → slice_get new i ≡ Some o → Lies w world P (a.script.entries + 1) (first + i) o
    new_lies i o e = lies w world P h ok pl (a.script.entries + 1) (first + i) o (new_there i o e)

    old_there : (k : ℕ) (o : TypedObject) → slice_get (made_objects world.notes world.script a.script.entries) k ≡ Some o
        → slice_get (made_objects world.notes world.script (a.script.entries + 1)) k ≡ Some o
    old_there k o e = ap (λ z. slice_get z k) made_are ∙ slice_get-append_left
        (made_objects world.notes world.script a.script.entries) new k
        (slice_get_within (made_objects world.notes world.script a.script.entries) k o e) ∙ e

    -- bytes that no new object has stay
    kept_bytes : (from size : ℕ) → ((i : ℕ) (o : TypedObject) (e : slice_get new i ≡ Some o) → (from + size ≤ (new_lies i o e).base)
        ⊎ ((new_lies i o e).base + object_bytes w world.notes o ≤ from))
        → (x : ℕ) → from ≤ x → x < from + size → zeroed_bytes x ≡ s.byte x
    unfolding zeroed_bytes
    kept_bytes from size off x l m = others_stay (ranges_of w world.notes P first new) s.byte x (λ i r e.
        let q = of_object w world P first new i r e in
        let at = new_lies i q.object q.there in
        let base : r.base ≡ at.base = q.base ∙ base_is w world P h ok pl (first + i) at.base at.address in
        let size_is = q.size in
        ⊎_elim (λ y. inl (omega (arith, y, m, base))) (λ y. inr (omega (arith, y, l, base, size_is))) (off i q.object q.there))

    read_kept : (from size : ℕ) → ((i : ℕ) (o : TypedObject) (e : slice_get new i ≡ Some o) → (from + size ≤ (new_lies i o e).base)
        ⊎ ((new_lies i o e).base + object_bytes w world.notes o ≤ from))
        → little_endian s.byte from size ≡ little_endian zeroed_bytes from size
    read_kept from size off = little_endian-agree s.byte zeroed_bytes from size (λ x l m. sym (kept_bytes from size off x l m))

    -- the stack's bytes stay
    stack_kept : (x : ℕ) → P.stack ≤ x → x < P.stack + stack_bytes w world.notes → zeroed_bytes x ≡ s.byte x
    stack_kept x l m = kept_bytes P.stack (stack_bytes w world.notes)
        (λ i o e. off_stack w world P h ok pl (a.script.entries + 1) (first + i) o (new_lies i o e)) x l m

    -- ---- cells

    cells_larger : (p : CellPlace) (z : Field) (v : Neutral) → cell_field world.notes (memory_of world larger) p ≡ Some z
        → larger.cells p ≡ Some v
        → CellShows w (addresses w world.notes P a.frames) zeroed_bytes (cell_address w world P larger p z) (cell_size w z.cell) v
    unfolding neutral_objects field_at zeroed_bytes
    cells_larger (FieldOfLocals d f) z v g e =
        let old = st.cells (FieldOfLocals d f) z v g e in
        let l = local_cell w world P h ok pl a d f z room st.locals (in_locals_at world a d f z g) in
        let same : l.address ≡ old.address = same_Some _ _ (sym l.address_is ∙ old.there) in
        let below = l.within.below in
        let above = l.within.above in
        record {
          address = old.address;
          there = old.there;
          shows = subst (ShowsIn w (addresses w world.notes P a.frames) (cell_size w z.cell) v)
              (little_endian-agree s.byte zeroed_bytes old.address (cell_size w z.cell)
              (λ x q r. sym (stack_kept x (omega (arith, q, same, above, room)) (omega (arith, r, same, below))))) old.shows;
        }
    cells_larger (FieldOf k i f) z v g e =
        let cell = in_object_at world larger k i f z g in
        let at = object_cell w world P h ok pl (a.script.entries + 1) k i f z cell in
        ⊎_elim (λ l. old_cell l cell at) (λ l. new_cell l cell at) (cases_lt k first)
      where
        old_cell : k < first → (cell : InObject world (a.script.entries + 1) k i f z)
            → ObjectCell w world P h ok pl (a.script.entries + 1) k i f z cell
            → CellShows w (addresses w world.notes P a.frames) zeroed_bytes (cell_address w world P larger (FieldOf k i f) z)
            (cell_size w z.cell) v
        old_cell l cell at =
            let there : slice_get (made_objects world.notes world.script a.script.entries) k ≡ Some cell.object =
            sym (slice_get-append_left (made_objects world.notes world.script a.script.entries) new k l)
            ∙ ap (λ y. slice_get y k) (sym made_are) ∙ cell.there in
            let g' : cell_field world.notes (memory_of world a) (FieldOf k i f) ≡ Some z =
            ap (option_and_then (λ (o : TypedObject). if nat_lt i o.count then slice_get (shape_of world.notes o.shape).fields f
            else None)) there
            ∙ ap (λ b. if b then slice_get (shape_of world.notes cell.object.shape).fields f else None)
            (lt-ltb i cell.object.count cell.within) ∙ cell.get in
            let e' : a.cells (FieldOf k i f) ≡ Some v = sym (ap
            (λ b. if b then a.cells (FieldOf k i f) else option_map (λ (x : Field). null)
            (option_and_then (λ (o : TypedObject). if nat_lt i o.count then slice_get (shape_of world.notes o.shape).fields f else None)
            (slice_get grown k))) (lt-ltb k first l)) ∙ e in
            let old = st.cells (FieldOf k i f) z v g' e' in
            let same_object : cell_address w world P a (FieldOf k i f) z ≡ cell_address w world P larger (FieldOf k i f) z =
            ap (λ o. in_object w world i z o (object_address world.notes P k)) (there ∙ sym cell.there) in
            let place : old.address ≡ object_place w world P h ok pl at = same_Some _ _ (sym old.there ∙ same_object ∙ at.address_is) in
            let inside = at.inside in
            record {
              address = old.address;
              there = sym same_object ∙ old.there;
              shows = subst (ShowsIn w (addresses w world.notes P a.frames) (cell_size w z.cell) v)
                  (read_kept old.address (cell_size w z.cell) (λ j o q.
                  let off = objects_off w world P h ok pl (a.script.entries + 1) k (first + j) cell.object o at.lies (new_lies j o q)
                  (λ y. omega (arith, y, l)) in
                  ⊎_elim (λ y. inl (omega (arith, y, place, inside))) (λ y. inr (omega (arith, y, place))) off)) old.shows;
            }

        new_cell : first ≤ k → (cell : InObject world (a.script.entries + 1) k i f z)
            → ObjectCell w world P h ok pl (a.script.entries + 1) k i f z cell
            → CellShows w (addresses w world.notes P a.frames) zeroed_bytes (cell_address w world P larger (FieldOf k i f) z)
            (cell_size w z.cell) v
        new_cell l cell at =
            let j = k - first in
            let there : slice_get new j ≡ Some cell.object = sym
            (slice_get-append_right (made_objects world.notes world.script a.script.entries) new k l)
            ∙ ap (λ y. slice_get y k) (sym made_are) ∙ cell.there in
            let r = its_range w world P first new j cell.object there in
            let base : object_at world.notes P (first + j) ≡ at.lies.base =
            ap (object_at world.notes P) (let q : first + (k - first) ≡ k = omega (arith, l) in q)
            ∙ base_is w world P h ok pl k at.lies.base at.lies.address in
            let x = object_place w world P h ok pl at in
            let inside = at.inside in
            let zero_bytes : little_endian zeroed_bytes x (cell_size w z.cell) ≡ 0 =
            read_zero zeroed_bytes x (cell_size w z.cell) (λ y p q. zero_at j
            (record { base = object_at world.notes P (first + j); size = object_bytes w world.notes cell.object }) r y
            (omega (arith, p, base)) (omega (arith, q, base, inside))) in
            let v_is : null ≡ v = null_there (slice_get grown k) (ap (λ y. slice_get y k) (sym made_are) ∙ cell.there)
            (sym (ap (λ b. if b then a.cells (FieldOf k i f) else option_map (λ (q : Field). null)
            (option_and_then (λ (o : TypedObject). if nat_lt i o.count then slice_get (shape_of world.notes o.shape).fields f else None)
            (slice_get grown k))) (le-ltb k first l)) ∙ e) in
            record {
              address = x;
              there = at.address_is;
              shows = subst₂ (λ u m. ShowsIn w (addresses w world.notes P a.frames) (cell_size w z.cell) u m) v_is (sym zero_bytes)
                  (record { whole = 0; shows = omega arith; cut = zero_cut });
            }
          where
            zero_cut : 0 ≡ 0 % 2 ^ (8 * cell_size w z.cell)
            zero_cut = sym (zero-mod (2 ^ (8 * cell_size w z.cell)))

            zero_at : (j : ℕ) (r : Range) → slice_get (ranges_of w world.notes P first new) j ≡ Some r → (y : ℕ) → r.base ≤ y
                → y < r.base + r.size → zeroed_bytes y ≡ 0
            zero_at j r e y p q = inside_zero (ranges_of w world.notes P first new) s.byte y j r e p q

            null_there : (o : Option TypedObject) → o ≡ Some cell.object
                → option_map (λ (q : Field). null) (option_and_then
                (λ (o : TypedObject). if nat_lt i o.count then slice_get (shape_of world.notes o.shape).fields f else None) o) ≡ Some v
                → null ≡ v
            null_there o oe ve = same_Some null v (sym (ap (λ y. option_map (λ (q : Field). null)
                (option_and_then (λ (o : TypedObject). if nat_lt i o.count then slice_get (shape_of world.notes o.shape).fields f
                else None) y)) oe
                ∙ ap (λ b. option_map (λ (q : Field). null) (if b then slice_get (shape_of world.notes cell.object.shape).fields f
                else None)) (lt-ltb i cell.object.count cell.within) ∙ ap (option_map (λ (q : Field). null)) cell.get) ∙ ve)

    -- ---- the image

    image_kept : (from size : ℕ) → ((i : ℕ) (o : TypedObject) (e : slice_get new i ≡ Some o) → (from + size ≤ (new_lies i o e).base)
        ⊎ ((new_lies i o e).base + object_bytes w world.notes o ≤ from))
        → (x : ℕ) → from ≤ x → x < from + size → zeroed_bytes x ≡ s.byte x
    image_kept from size off x l m = kept_bytes from size off x l m

    thunk_larger : (i : ℕ) (t : Thunk) → slice_get world.notes.thunk i ≡ Some t → ThunkShows w world P mapped s.byte a.made i t
        → ThunkShows w world P mapped zeroed_bytes a.made i t
    thunk_larger i t g sh =
        let off : (j : ℕ) (o : TypedObject) (e : slice_get new j ≡ Some o) → (P.image + t.place + 8 ≤ (new_lies j o e).base)
        ⊎ ((new_lies j o e).base + object_bytes w world.notes o ≤ P.image + t.place) =
        λ j o e. off_thunk w world P h ok pl (a.script.entries + 1) (first + j) i o t (new_lies j o e) g in
        let w8 = width_le w h in (
          (λ l. sh.0 l ∙ ap Some (little_endian-agree s.byte zeroed_bytes (P.image + t.place) w
              (λ x p q. sym (image_kept (P.image + t.place) 8 off x p (omega (arith, q, w8)))))),
          (λ l j m. image_kept (P.image + t.place) 8 off (P.image + (t.place + j)) (omega arith) (omega (arith, m)) ∙ sh.1 l j m),
        )

    code_larger : (j : ℕ) (f : FnNote) (x : ℕ) → slice_get world.notes.function j ≡ Some f → f.place ≤ x → x < f.end
        → zeroed_bytes (P.image + x) ≡ s.byte (P.image + x)
    code_larger j f x g l m =
        image_kept (P.image + f.place) (f.end - f.place) (λ i o e. off_code w world P h ok pl (a.script.entries + 1) (first + i) j o f
        (new_lies i o e) g) (P.image + x) (omega (arith, l)) (omega (arith, l, m))

    -- the machine with the objects stands for the configuration with them
    grown_stands : MachineStands w world P mapped None larger (with_objects w world.notes P first new s)
    unfolding zeroed_bytes
    grown_stands = subst (λ (t : Concrete). MachineStands w world P mapped None larger t) (sym (objects_placed w world.notes P first new s))
        (record {
          eight = st.eight;
          words = st.words;
          small = zeroed_small (ranges_of w world.notes P first new) s.byte st.small;
          registers = st.registers;
          locals = st.locals;
          top = st.top;
          frames = frames_agree w (stack_end w world.notes P) h (end_small w world P h ok pl)
              (addresses w world.notes P a.frames) P s.byte zeroed_bytes a.frames (omega (arith, room))
              (record { by = λ x l m. sym (stack_kept x (omega (arith, l, room)) (omega (arith, m))) }) st.frames;
          cells = cells_larger;
          thunks = λ i t g n. thunk_larger i t g (st.thunks i t g n);
          code = λ j f x g l m. code_larger j f x g l m ∙ st.code j f x g l m;
          objects = ap (λ y. y ++ ranges_of w world.notes P first new) st.objects
              ∙ sym (ranges_more w world P mapped h ok pl a.script.entries c call);
          flags = st.flags;
          gate = st.gate;
          spot = st.spot;
        })

  -- a call is accepted
  pub accept_stands : (a : Config) (r : RunState) (e : Event) (c : ScriptCall) (stores : List Store)
      → slice_get world.script.call a.script.entries ≡ Some c → total w a.frames ≤ stack_bytes w world.notes → Stands w world P mapped a r
      → AllByRecursion (StoreNames world (with_new world a c) []) stores
      → AllZip (Shows w (addresses w world.notes P a.frames)) (slots_asked world a (call_under_way a.frames))
      (numbers_asked w world r (marks_under_way r.hosts))
      → Stands w world P mapped (neutral_performed world a (Accepts e a.script.entries (map script_object c.make) stores))
      (performed w world P r (Accepts e a.script.entries (map script_object c.make) stores))
  unfolding with_new neutral_performed performed made_objects placed_objects
  accept_stands a r e c stores call room st names shown =
      let A = addresses w world.notes P a.frames in
      let new = map script_object c.make in
      let made = made_objects world.notes world.script a.script.entries ++ new in
      let marks = Accepted a.script.entries 0 (slots_asked world a (call_under_way a.frames)) in
      let numbers = Accepted a.script.entries 0 (numbers_asked w world r (marks_under_way r.hosts)) in
      let bigger = grown_stands a r.machine c call room st.machine in
      let filled = stores_stand w world P mapped h ok pl stores (with_new world a c)
      (with_objects w world.notes P (length (made_objects world.notes world.script a.script.entries)) new r.machine) None made [] []
      (sym (made_more world a.script.entries c call)) room bigger tt names in
      let marked = machine_marked marks w world P mapped h (end_small w world P h ok pl) None _ _ filled in
      let ext = extends_marked marks w world P mapped a.frames in
      let same : made_objects world.notes world.script a.script.entries ≡ made_objects world.notes world.script r.script.entries =
      ap (λ (p : ScriptPlace). made_objects world.notes world.script p.entries) (sym st.script) in
      record {
        machine = subst (λ m. MachineStands w world P mapped None (neutral_performed world a (Accepts e a.script.entries new stores))
            (after_stores w world.notes P (m ++ new) [] stores (with_objects w world.notes P (length m) new r.machine))) same
            (machine_told w world P mapped None _ _ (a.trace ++ e ∷ []) a.ending marked);
        hosts = hosts_marked w world P mapped h ok pl (addresses w world.notes P (with_call marks a.frames)) marks numbers a.frames r.hosts
            (call_more w world P mapped h ok pl A _ marks numbers ext (refl, refl, shown))
            (hosts_more w world P mapped h ok pl A _ a.frames r.hosts ext st.hosts);
        script = ap one_entry st.script;
        trace = ap (λ t. t ++ e ∷ []) st.trace;
        ending = st.ending;
      }
