-- What cells hold is read at either width as the neutral machine's cells are: those of typed objects, and the locals that a native
-- call under way was lent to be read.
use Rattle.twin_run.proofs.Common.{◌≡◌, ◌⊎◌, ℕ, zero, suc, ◌+◌, ◌*◌, ◌-◌, ◌%◌, ◌^◌, ◌<◌, ◌≤◌, Bool, true, false, if◌then◌else◌, List, []}
use Rattle.twin_run.proofs.Common.{◌∷◌, Option, Some, None, refl, sym, ap, ◌∙◌, subst, arith, ⊎_elim, pos, ◌&&◌, nat_lt, slice_get}
use Rattle.twin_run.proofs.Common.{slice_index, same_Some, none-some, false≢true, IsWidth, little_endian, Image, mapped, Notes, Field}
use Rattle.twin_run.proofs.Common.{TypedObject, made_objects, shape_of, Placement, IsPlacement, RunState, World, Config, ScriptCall}
use Rattle.twin_run.proofs.Common.{NativeCall, NoCall, Asked, Accepted, ScriptPlace, Value, call_under_way}
use Rattle.std.proofs.Common.{mod-eq_of_lt, ◌||◌}
use Rattle.std.proofs.lemmas.{Bool.lt-ltb, Option.slice_get-get_or, Option.get_or_from_slice_get}
use Rattle.std.specs.{List.AllZip, Option.option_map, Option.option_map_or, Option.option_and_then}
use Rattle.ebc_base.proofs.Given.{some_of_map}
use Rattle.ebc_width.proofs.Laws.{by_width}
use Rattle.note_types.specs.{Cells.IsBoundedCell, Cells.cell_size, Cells.content_type, Records.IsKnownWant}
use Rattle.note_types.specs.declared.{cell.Cell.Cell, notes.Signature.Signature, notes.Want.Want, notes.WantParam.WantParam}
use Rattle.host_model.specs.HostPlans.{field_at, signature_params}
use Rattle.host_model.specs.{HostSteps.cell_address, Objects.no_shape, Placements.object_address, Placements.stack_bytes}
use Rattle.host_model.specs.Readings.{Sort, Number, Pointer, HandleOf, EntryOf, StatusOf, MethodOf, reading_of, sort_of_cell}
use Rattle.host_model.specs.Values.{Neutral, At, Method, LocalOf, FieldOf, FieldOfLocals, Addresses, IsPast, Shows, ShowsIn, null, word}
use Rattle.neutral_machine.specs.CellLaw.{AreSmall, IsReduced}
use Rattle.neutral_machine.specs.Fits.{IsError, IsNumber, IsPointer, IsHandle, IsEntry, IsSuccess, IsLent, FitsPlain, OrNull}
use Rattle.neutral_machine.specs.Locations.{fits_cell, is_instance}
use Rattle.neutral_machine.specs.NeutralReadings.{as_pointer, local_named, neutral_reading, neutral_result}
use Rattle.neutral_machine.specs.Operations.{Instance, instance_of, is_null}
use Rattle.neutral_machine.specs.Stands.{CallShows, Stands, field_address, in_object}
use Rattle.neutral_machine.specs.{Config.call_under_way as neutral_call, Layout.addresses, Layout.total, Memory.Memory, Memory.cell_field}
use Rattle.neutral_machine.specs.{Memory.memory_of, Named.Named, Stands.cell_address as stands_address, WorldFits.WorldFits}
use Rattle.neutral_machine.proofs.{Bounds.bounded, CellTakes.cells_take_what_fits, Cells.in_object_at, ReadingAlike.reads_alike}
use Rattle.neutral_machine.proofs.{ReadingAlike.results_alike, Values.Bounded, Values.whole_shows, Words.width_word}
use Rattle.host_laws.proofs.{Replies.marks_show, SeenStands.cell_address_is, Things.base_is, Things.named, ViewAlike.and_then_some}
use Rattle.instruction_laws.proofs.Worlds.{world_meets}
use Rattle.invariant_laws.specs.{Asked.ArgumentFits, Asked.ArgumentsFit, Sound.CellsFit}
use Rattle.invariant_laws.proofs.Readings.{lent_named}
use Rattle.step_sound.specs.ReadWorld.{IsReadWorld}
use Rattle.step_sound.proofs.{Read.read_is_run, Worlds.are_small}
use Rattle.twin_run.specs.Behaviour.{cell_read, cell_seen, content_seen, lent_in, lent_seen, read_by}
use Rattle.note_types.specs.declared.cell.Cell.TheVariants as cell
use Rattle.note_types.specs.declared.notes.Want.TheVariants as want
use Rattle.note_types.specs.declared.value.Value.TheVariants as value

-- ---- what a cell holds

module _ (w : ℕ) (notes : Notes) (P : Placement) (made : List TypedObject) (A : Addresses) (h : IsWidth w) (ok : Named w notes P made A)
    (small : AreSmall notes made) (b : Bounded w A) where
  -- that a value is read as its number is, as a sort
  abbrev ReadAs : Sort → Neutral → ℕ → Type 0
  ReadAs sort v x = neutral_reading notes made sort v ≡ Some (reading_of w notes P made sort x)

  -- a number in so many bytes
  number_read : (k hi x : ℕ) (v : Neutral) → hi < 2 ^ (8 * k) → hi < 2 ^ 64 → IsNumber 0 hi 1 v → ShowsIn w A k v x → ReadAs Number v x
  unfolding neutral_reading reading_of
  number_read k hi x v l m f s =
      let t = subst (λ u. ShowsIn w A k u x) f.is s in
      let top = f.to in
      let at : t.whole ≡ word (0 * w + f.x) = t.shows in
      let whole : t.whole ≡ f.x = omega (arith, at, top, m) in
      let is : x ≡ f.x = t.cut ∙ ap (λ y. y % 2 ^ (8 * k)) whole ∙ mod-eq_of_lt (omega (arith, top, l)) in
      let same : word f.x ≡ x = omega (arith, is, top, m) in
      ap (neutral_reading notes made Number) f.is ∙ ap (λ y. Some (value.Int y)) same

  -- a value of natural size
  natural_read : (sort : Sort) (x : ℕ) (v : Neutral) (t : Value) → neutral_reading notes made sort v ≡ Some t
      → neutral_result notes made sort v ≡ Some t → ShowsIn w A w v x → ReadAs sort v x
  natural_read sort x v t e n s =
      e ∙ ap Some (sym (ap (reading_of w notes P made sort) s.cut ∙ results_alike w notes P made A ok sort v s.whole t n s.shows))

  instance_reads : (s k : ℕ) (v : Neutral) → IsBoundedCell (cell.Ptr s k false) → IsPointer notes made s k (pos 0) (pos 0) v
      → (t : Value) × (neutral_reading notes made Pointer v ≡ Some t)
  unfolding neutral_reading fits_cell
  instance_reads s k v few p = go (instance_of notes made v) refl taken
    where
      reduced : IsReduced v
      reduced = subst IsReduced (sym p.is) (omega arith, omega arith)

      taken : fits_cell notes made (cell.Ptr s k false) v ≡ true
      taken = (cells_take_what_fits notes made small (cell.Ptr s k false) few v reduced).1 p

      go : (o : Option Instance) → instance_of notes made v ≡ o
          → (is_instance made s k (instance_of notes made v) || (false && is_null v)) ≡ true → (t : Value)
          × (neutral_reading notes made Pointer v ≡ Some t)
      go (Some q) e t = (
        as_pointer q,
        ap (neutral_reading notes made Pointer) p.is ∙ ap (λ u. option_map as_pointer (instance_of notes made u)) (sym p.is)
            ∙ ap (option_map as_pointer) e,
      )
      go None e t = absurd (false≢true (sym (ap (λ o. is_instance made s k o || (false && is_null v)) e) ∙ t))

  null_reads : (v : Neutral) → v ≡ null → (neutral_reading notes made Pointer v ≡ Some value.Null)
      × (neutral_reading notes made HandleOf v ≡ Some value.Null) × (neutral_reading notes made EntryOf v ≡ Some value.Null)
  unfolding neutral_reading
  null_reads v e = (
    ap (neutral_reading notes made Pointer) e,
    ap (neutral_reading notes made HandleOf) e,
    ap (neutral_reading notes made EntryOf) e,
  )

  pointer_reads : (s k : ℕ) (may : Bool) (v : Neutral) → IsBoundedCell (cell.Ptr s k false)
      → OrNull may v (IsPointer notes made s k (pos 0) (pos 0) v) → (t : Value) × (neutral_reading notes made Pointer v ≡ Some t)
  pointer_reads s k true v few x = ⊎_elim (instance_reads s k v few) (λ e. (value.Null, (null_reads v e).0)) x
  pointer_reads s k false v few x = instance_reads s k v few x

  handle_reads : (v : Neutral) → IsHandle v ⊎ (v ≡ null) → (t : Value) × (neutral_reading notes made HandleOf v ≡ Some t)
  unfolding neutral_reading
  handle_reads v x = ⊎_elim (λ (p : IsHandle v). (value.Handle p.k, ap (neutral_reading notes made HandleOf) p.is))
      (λ e. (value.Null, (null_reads v e).1)) x

  entry_reads : (v : Neutral) → IsEntry v ⊎ (v ≡ null) → (t : Value) × (neutral_reading notes made EntryOf v ≡ Some t)
  unfolding neutral_reading
  entry_reads v x = ⊎_elim (λ (p : IsEntry v). (value.Entry p.func, ap (neutral_reading notes made EntryOf) p.is))
      (λ e. (value.Null, (null_reads v e).2)) x

  status_reads : (v : Neutral) → IsError v ⊎ IsSuccess v → (t : Value) × (neutral_reading notes made StatusOf v ≡ Some t)
  unfolding neutral_reading
  status_reads v x = ⊎_elim
      (λ (e : IsError v). (value.StatusError e.code, ap (neutral_reading notes made StatusOf) e.is))
      (λ (s : IsSuccess v).
      let few : nat_lt (word s.code) (2 ^ 31) ≡ true = lt-ltb (word s.code) (2 ^ 31) (let y = s.small in omega (arith, y)) in (
        value.StatusOk (word s.code),
        ap (neutral_reading notes made StatusOf) s.is
            ∙ ap (λ b. if b then Some (value.StatusOk (word s.code)) else None) few,
      )) x

  method_reads : (m : ℕ) (v : Neutral) → v ≡ Method m → neutral_reading notes made MethodOf v ≡ Some (value.Method m)
  unfolding neutral_reading
  method_reads m v e = ap (neutral_reading notes made MethodOf) e

  -- what fits a cell's content type, and shows in it
  content_read : (c : Cell) (v : Neutral) (x : ℕ) → IsBoundedCell c → FitsPlain notes made (content_type c) v
      → ShowsIn w A (cell_size w c) v x → ReadAs (sort_of_cell c) v x
  unfolding neutral_result
  content_read cell.I8 v x k f s = number_read 1 (2 ^ 8 - 1) x v (omega arith) (omega arith) f s
  content_read cell.I16 v x k f s = number_read 2 (2 ^ 16 - 1) x v (omega arith) (omega arith) f s
  content_read cell.I32 v x k f s = number_read 4 (2 ^ 32 - 1) x v (omega arith) (omega arith) f s
  content_read cell.I64 v x k f s = number_read 8 (2 ^ 64 - 1) x v (omega arith) (omega arith) f s
  content_read cell.N v x k f s =
      number_read w (2 ^ 32 - 1) x v (by_width (λ u. 2 ^ 32 - 1 < 2 ^ (8 * u)) w h (omega arith) (omega arith)) (omega arith) f s
  content_read cell.Stat v x k f s = let r = status_reads v f in natural_read StatusOf x v r.0 r.1 r.1 s
  content_read cell.Handle v x k f s = let r = handle_reads v f in natural_read HandleOf x v r.0 r.1 r.1 s
  content_read cell.Entry v x k f s = let r = entry_reads v f in natural_read EntryOf x v r.0 r.1 r.1 s
  content_read (cell.Ptr t n may) v x k f s = let r = pointer_reads t n may v k f in natural_read Pointer x v r.0 r.1 r.1 s
  content_read (cell.P64 t n may) v x k f s =
      let r = pointer_reads t n may v k f in
      r.1 ∙ ap Some (sym (reads_alike w notes P made A ok Pointer v x r.0 r.1 (whole_shows w A v x h b s)))
  content_read (cell.Method m) v x k f s = let r = method_reads m v f in natural_read MethodOf x v (value.Method m) r r s

-- ---- lists side by side

beside : {A B : Type 0} (R : A → B → Type 0) (xs : List A) (ys : List B) → AllZip R xs ys → (k : ℕ) (x : A) → slice_get xs k ≡ Some x
    → (y : B) × (slice_get ys k ≡ Some y) × R x y
beside R [] ys z k x e = absurd (none-some x e)
beside R (u ∷ xs) [] z k x e = absurd z
beside R (u ∷ xs) (y ∷ ys) z zero x e = (y, refl, subst (λ v. R v y) (same_Some u x e) z.0)
beside R (u ∷ xs) (y ∷ ys) z (suc k) x e = beside R xs ys z.1 k x e

-- ---- in the neutral machine

-- the typed objects that are made
abbrev objects_in : World → Config → List TypedObject
objects_in world a = made_objects world.notes world.script a.script.entries

-- what the cell of a field of an instance of a typed object is read as
abbrev pub neutral_cell : World → Config → (object instance field : ℕ) → Option Value
neutral_cell world a object instance field =
    option_and_then (λ (x : Field). option_and_then (neutral_reading world.notes (objects_in world a) (sort_of_cell x.cell))
    (a.cells (FieldOf object instance field))) (field_at world.notes (objects_in world a) object instance field)

-- what the cell is read as whose address the argument of that number is, of a native call that the script answers
abbrev pub neutral_lent : World → Config → NativeCall Neutral → (argument : ℕ) → Option Value
neutral_lent world a (Accepted entry callbacks values) argument =
    option_and_then (λ c. option_and_then (neutral_reading world.notes (objects_in world a) (sort_of_cell c))
    (option_and_then a.cells (option_and_then (local_named a.frames c) (slice_get values argument)))) (read_by world entry argument)
neutral_lent world a _ argument = None

-- what a native call that the script answers was given, in some frame
pub record WasGiven (world : World) (m : Memory) (entry : ℕ) (values : List Neutral) : Type 0 where
  pub depth : ℕ
  pub call : ScriptCall
  pub entry_is : slice_get world.script.call entry ≡ Some call
  pub signature : Signature
  pub there : slice_get world.notes.signature call.signature ≡ Some signature
  pub fit : ArgumentsFit world.notes m depth signature.params values

-- ---- at a width

module _ (w : ℕ) (image : Image) (world : World) (P : Placement) (h : IsWidth w) (read : IsReadWorld image world)
    (pl : IsPlacement w world P) where
  ok : WorldFits world
  ok = world_meets image world (read_is_run image world read)

  module _ (a : Config) (r : RunState) (st : Stands w world P (mapped image P.image) a r) (fits : CellsFit world.notes (memory_of world a))
      (room : total w a.frames ≤ stack_bytes w world.notes) where
    A : Addresses
    A = addresses w world.notes P a.frames

    below : Bounded w A
    unfolding A
    below = bounded w world P h ok pl a.frames room st.machine.locals

    -- the objects that are made are the configuration's
    same_objects : made_objects world.notes world.script r.script.entries ≡ objects_in world a
    same_objects = ap (λ (p : ScriptPlace). made_objects world.notes world.script p.entries) st.script

    -- the number in a cell is read as the cell's value is
    content_is : (c : Cell) (v : Neutral) (x : ℕ) → IsBoundedCell c → FitsPlain world.notes (objects_in world a) (content_type c) v
        → ShowsIn w A (cell_size w c) v (little_endian r.machine.byte x (cell_size w c))
        → neutral_reading world.notes (objects_in world a) (sort_of_cell c) v ≡ Some (content_seen w world P r c x)
    unfolding A
    content_is c v x k f s =
        content_read w world.notes P (objects_in world a) A h (named w world P h ok pl a.script.entries a.frames)
        (are_small image world read a.script.entries) below c v _ k f s
        ∙ ap (λ (os : List TypedObject). Some (reading_of w world.notes P os (sort_of_cell c)
        (little_endian r.machine.byte x (cell_size w c)))) (sym same_objects)

    -- ---- typed objects

    bounded_field : (k i f : ℕ) (x : Field) → cell_field world.notes (memory_of world a) (FieldOf k i f) ≡ Some x → IsBoundedCell x.cell
    bounded_field k i f x g =
        let c = in_object_at world a k i f x g in
        let shape = slice_get-get_or world.notes.shape c.object.shape no_shape (ok.objects a.script.entries k c.object c.there).0 in
        ((read.notes.shapes c.object.shape (shape_of world.notes c.object.shape) shape).fields f x c.get).cell.bounded

    -- the address of a cell, by either name
    address_is : (k i f : ℕ) (x : Field) (address : ℕ) → field_at world.notes (objects_in world a) k i f ≡ Some x
        → stands_address w world P a (FieldOf k i f) x ≡ Some address
        → cell_address w world.notes P (objects_in world a) k i x ≡ address
    unfolding field_at
    address_is k i f x address g e =
        let c = in_object_at world a k i f x g in
        let at : in_object w world i x (Some c.object) (object_address world.notes P k) ≡ Some address =
        ap (λ q. in_object w world i x q (object_address world.notes P k)) (sym c.there) ∙ e in
        let b = some_of_map (field_address w world i x c.object) (object_address world.notes P k) address at in
        cell_address_is w world P (mapped image P.image) h ok pl a k i f x g b.0 c.object c.there (base_is w world P h ok pl k b.0 b.1)
        ∙ b.2

    field_shown : (k i f : ℕ) (x : Field) → field_at world.notes (objects_in world a) k i f ≡ Some x
        → option_and_then (neutral_reading world.notes (objects_in world a) (sort_of_cell x.cell)) (a.cells (FieldOf k i f))
        ≡ Some (content_seen w world P r x.cell (cell_address w world.notes P (objects_in world a) k i x))
    unfolding field_at A
    field_shown k i f x g =
        let v = fits.all k i f x g in
        let c = st.machine.cells (FieldOf k i f) x v.0 g v.1 in
        let at = address_is k i f x c.address g c.there in
        ap (option_and_then (neutral_reading world.notes (objects_in world a) (sort_of_cell x.cell))) v.1
        ∙ content_is x.cell v.0 _ (bounded_field k i f x g) (fits.fit (FieldOf k i f) x v.0 g v.1)
        (subst (λ y. ShowsIn w A (cell_size w x.cell) v.0 (little_endian r.machine.byte y (cell_size w x.cell))) (sym at) c.shows)

    pub cell_shown : (k i f : ℕ) → cell_seen w world P r k i f ≡ neutral_cell world a k i f
    cell_shown k i f =
        ap (λ (os : List TypedObject). option_map (λ (x : Field). content_seen w world P r x.cell
        (cell_address w world.notes P os k i x)) (field_at world.notes os k i f)) same_objects
        ∙ go (field_at world.notes (objects_in world a) k i f) refl
      where
        go : (q : Option Field) → field_at world.notes (objects_in world a) k i f ≡ q
            → option_map (λ (x : Field). content_seen w world P r x.cell (cell_address w world.notes P (objects_in world a) k i x)) q
            ≡ option_and_then (λ (x : Field). option_and_then (neutral_reading world.notes (objects_in world a) (sort_of_cell x.cell))
            (a.cells (FieldOf k i f))) q
        go None g = refl
        go (Some x) g = sym (field_shown k i f x g)

    -- ---- what a native call was lent

    wanted_cell : (q : Want) (c : Cell) → cell_read q ≡ Some c → q ≡ want.Inout c
    wanted_cell (want.Inout d) c e = ap want.Inout (same_Some d c e)
    wanted_cell q c e = absurd (none-some c e)

    -- the address of a written local is that of its cell
    local_is : (d f x address : ℕ) (v : Neutral) → v ≡ At (LocalOf d f) 0 0 → Shows w A v x → A.anchor (LocalOf d f) ≡ Some address
        → x ≡ address
    local_is d f x address v e s at =
        let past : IsPast (A.anchor (LocalOf d f)) (0 * w + 0) x = subst (λ u. Shows w A u x) e s in
        let from : past.from ≡ address = same_Some past.from address (sym past.there ∙ at) in
        let few = below.local d f address at in
        let wide = width_word w h in
        let is = past.is in
        omega (arith, is, from, few, wide)

    lent_shown : (slots : List ℕ) (values : List Neutral) (entry argument : ℕ) (c : Cell) → AllZip (Shows w A) values slots
        → WasGiven world (memory_of world a) entry values → read_by world entry argument ≡ Some c
        → option_and_then (neutral_reading world.notes (objects_in world a) (sort_of_cell c))
        (option_and_then a.cells (option_and_then (local_named a.frames c) (slice_get values argument)))
        ≡ Some (content_seen w world P r c (slice_index slots argument))
    unfolding A
    lent_shown slots values entry argument c z g e =
        let params = signature_params world.notes g.call.signature in
        let at : option_and_then (λ (p : WantParam). cell_read p.want) (slice_get params argument) ≡ Some c =
        ap (option_and_then (λ (y : ScriptCall). option_and_then (λ (p : WantParam). cell_read p.want)
        (slice_get (signature_params world.notes y.signature) argument))) (sym g.entry_is) ∙ e in
        let p = and_then_some (λ (p : WantParam). cell_read p.want) (slice_get params argument) c at in
        let wanted = wanted_cell p.0.want c p.2 in
        let params_are : params ≡ g.signature.params = ap (λ (o : Option Signature). option_map_or
        (λ (s : Signature). s.params) o []) g.there in
        let listed : slice_get g.signature.params argument ≡ Some p.0 = ap (λ ps. slice_get ps argument) (sym params_are) ∙ p.1 in
        let v = beside (λ (q : WantParam) u. ArgumentFits world.notes (memory_of world a) g.depth q.want u) g.signature.params values
        g.fit argument p.0 listed in
        let x = beside (Shows w A) values slots z argument v.0 v.1 in
        let lent : IsLent world.notes (memory_of world a) (suc g.depth) c v.0 =
        subst (λ q. ArgumentFits world.notes (memory_of world a) g.depth q v.0) wanted v.2 in
        let b = lent.cell_below in
        let held = lent.written in
        let s = st.machine.cells (FieldOfLocals b.e b.f) b.field held.value b.there held.is in
        let there : x.0 ≡ s.address = local_is b.e b.f x.0 s.address v.0 b.is x.2 s.there in
        let slot : slice_index slots argument ≡ x.0 = get_or_from_slice_get slots argument x.0 0 x.1 in
        let known = subst (λ q. IsKnownWant world.notes q) wanted
        ((read.notes.signatures g.call.signature g.signature g.there).params argument p.0 listed).known in
        let f = subst (λ y. FitsPlain world.notes (objects_in world a) (content_type y) held.value) b.cell_is
        (fits.fit (FieldOfLocals b.e b.f) b.field held.value b.there held.is) in
        let shown = subst (λ y. ShowsIn w A (cell_size w y) held.value (little_endian r.machine.byte s.address (cell_size w y))) b.cell_is
        s.shows in
        ap (λ o. option_and_then (neutral_reading world.notes (objects_in world a) (sort_of_cell c))
        (option_and_then a.cells (option_and_then (local_named a.frames c) o))) v.1
        ∙ ap (λ o. option_and_then (neutral_reading world.notes (objects_in world a) (sort_of_cell c)) (option_and_then a.cells o))
        (lent_named world.notes (memory_of world a) (suc g.depth) a.frames c v.0 (λ e. refl) b)
        ∙ ap (option_and_then (neutral_reading world.notes (objects_in world a) (sort_of_cell c))) held.is
        ∙ content_is c held.value _ known.bounded f
        (subst (λ y. ShowsIn w A (cell_size w c) held.value (little_endian r.machine.byte y (cell_size w c))) (sym (slot ∙ there)) shown)

    pub lents_shown : ((entry callbacks : ℕ) (values : List Neutral) → neutral_call a.frames ≡ Accepted entry callbacks values
        → WasGiven world (memory_of world a) entry values) → (argument : ℕ)
        → lent_seen w world P r argument ≡ neutral_lent world a (neutral_call a.frames) argument
    unfolding A
    lents_shown given argument =
        go (neutral_call a.frames) (call_under_way r.hosts)
        (marks_show w world P (mapped image P.image) h ok pl A a.frames r.hosts st.hosts) given
      where
        go : (c : NativeCall Neutral) (d : NativeCall ℕ) → CallShows w A c d
            → ((entry callbacks : ℕ) (values : List Neutral) → c ≡ Accepted entry callbacks values
            → WasGiven world (memory_of world a) entry values)
            → lent_in w world P r d argument ≡ neutral_lent world a c argument
        go NoCall NoCall s g = refl
        go (Asked p v) (Asked q x) s g = refl
        go (Accepted e n vs) (Accepted f m xs) s g =
            ap (λ k. option_map (λ c. content_seen w world P r c (slice_index xs argument)) (read_by world k argument)) (sym s.0)
            ∙ by (read_by world e argument) refl
          where
            by : (q : Option Cell) → read_by world e argument ≡ q
                → option_map (λ c. content_seen w world P r c (slice_index xs argument)) q
                ≡ option_and_then (λ c. option_and_then (neutral_reading world.notes (objects_in world a) (sort_of_cell c))
                (option_and_then a.cells (option_and_then (local_named a.frames c) (slice_get vs argument)))) q
            by None q = refl
            by (Some c) q = sym (lent_shown xs vs e argument c s.2 (g e n vs refl) q)
        go c d s g = absurd s
