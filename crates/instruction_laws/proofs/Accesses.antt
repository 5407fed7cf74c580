-- Loads and stores by a register and a pair: the machine does what the neutral machine does, unless that is stuck.
use Rattle.instruction_laws.proofs.Common.{◌≡◌, ℕ, zero, suc, ◌+◌, ◌-◌, ◌*◌, ◌%◌, ◌^◌, ◌<◌, ◌≤◌, Bool, true, false, ◌&&◌, if◌then◌else◌}
use Rattle.instruction_laws.proofs.Common.{nat_eq, nat_lt, List, [], ◌∷◌, Option, Some, None, Result, Ok, Err, refl, sym, ap, ap₂, ◌∙◌}
use Rattle.instruction_laws.proofs.Common.{subst, subst₂, arith, ⊎_elim, slice_get, option_map, option_and_then, mod-eq_of_lt, ltb-true}
use Rattle.instruction_laws.proofs.Common.{eqb-true, eqb-false, eq-eqb, and_parts, or_cases, false≢true, same_Some, none-some}
use Rattle.instruction_laws.proofs.Common.{little_endian, put, by_width, IsWidth, cut_at, address, sum_at, loaded_at, stored_at, or_else}
use Rattle.instruction_laws.proofs.Common.{Concrete, register, loaded, holds, size_at, start_at, SlotKind, N, Exception, Thunk, Field}
use Rattle.instruction_laws.proofs.Common.{Shape, ObjectOf, ThunkOf, Neutral, Num, At, Addresses, Shows, ShowsIn, FieldOfLocals, word}
use Rattle.instruction_laws.proofs.Common.{minus, option_or, StackItem, Pushed, LocalsOf, FunctionFrame, Frame, Function, Host, Config}
use Rattle.instruction_laws.proofs.Common.{depth, locals_among, World, TypedObject, Placement, IsPlacement, slot_bytes, stack_bytes}
use Rattle.instruction_laws.proofs.Common.{stack_end, thunk_cell_address, return_cell, addresses, total, height, top_of, local_address}
use Rattle.instruction_laws.proofs.Common.{memory_of, cell_field, with_cell, Outcome, Gives, Raises, Stuck, or_stuck, Does, Access, Move}
use Rattle.instruction_laws.proofs.Common.{Form, Signed, access_bytes, kept, Offset, Location, CellAt, ParamAt, ThunkAt, parameters_of}
use Rattle.instruction_laws.proofs.Common.{located_on_stack, offset_of, moved_by, located_by, loaded_by, stored_by, OwnLocalsAll}
use Rattle.instruction_laws.proofs.Common.{MachineStands, WorldFits, minus-is, stack_holds, stack_within, cell_positive, fits_at, end_small}
use Rattle.instruction_laws.proofs.Common.{kept_shows, bounded, objects_below, field_there, some_of_map, width_word}
use Rattle.std.proofs.Common.{le_refl}
use Rattle.ebc_width.proofs.ByteLaws.{little_endian-below}
use Rattle.note_types.specs.{Cells.cell_size, Concrete.stored}
use Rattle.note_types.specs.declared.{cell.Cell.Cell, cell.SlotKind.TheVariants.Q, notes.Notes.Notes}
use Rattle.host_model.specs.Values.{LocalOf, Method, Entry, CellPlace}
use Rattle.neutral_machine.specs.Locations.{item_units, item_bytes, find_field, local_field, is_byte, is_word, is_dword, is_qword}
use Rattle.neutral_machine.specs.Locations.{is_natural, is_signed, reads, writes, reads_slot, cell_in, items_below, parameter_count}
use Rattle.neutral_machine.specs.Locations.{located_past, located_among, parameter_at, value_at, cell_value, slot_value, entry_if}
use Rattle.neutral_machine.specs.Locations.{fits_cell, stored_in}
use Rattle.neutral_machine.specs.Stands.{ItemsShow, FramesShow, cell_address}
use Rattle.neutral_machine.proofs.{Placed.image_holds, Agree.slot_positive, Agree.powers, Locals.locals_fit, Cells.CellLies}
use Rattle.neutral_machine.proofs.{Cells.cell_lies, Values.sum_shows, Locate.names, Locate.address_of_named, Stack.item_pair}
use Rattle.neutral_machine.proofs.{Stack.slot_there, Stored.stored_stands, Stored.width_le}
use Rattle.ebc_insn.specs.declared.Size.TheVariants as sizes
use Rattle.note_types.specs.declared.cell.Cell.TheVariants as cell
use Rattle.neutral_machine.specs.Locations as locations

-- ---- the sizes of accesses

byte_size : (w : ℕ) (a : Access) → is_byte a ≡ true → access_bytes w a ≡ 1
byte_size w (Move sizes.Byte) e = refl
byte_size w _ e = absurd (false≢true e)

word_size : (w : ℕ) (a : Access) → is_word a ≡ true → access_bytes w a ≡ 2
word_size w (Move sizes.Word) e = refl
word_size w _ e = absurd (false≢true e)

dword_size : (w : ℕ) (a : Access) → is_dword a ≡ true → access_bytes w a ≡ 4
dword_size w (Move sizes.Dword) e = refl
dword_size w (Form false) e = refl
dword_size w _ e = absurd (false≢true e)

qword_size : (w : ℕ) (a : Access) → is_qword a ≡ true → access_bytes w a ≡ 8
qword_size w (Move sizes.Qword) e = refl
qword_size w (Form true) e = refl
qword_size w _ e = absurd (false≢true e)

natural_size : (w : ℕ) (a : Access) → is_natural a ≡ true → access_bytes w a ≡ w
natural_size w (Move sizes.Natural) e = refl
natural_size w _ e = absurd (false≢true e)

signed_size : (w : ℕ) (a : Access) → is_signed a ≡ true → access_bytes w a ≡ w
signed_size w Signed e = refl
signed_size w _ e = absurd (false≢true e)

-- an access that reads a cell has its size
pub reads_size : (w : ℕ) (a : Access) (c : Cell) → reads a c ≡ true → cell_size w c ≡ access_bytes w a
reads_size w a cell.I8 e = sym (byte_size w a e)
reads_size w a cell.I16 e = sym (word_size w a e)
reads_size w a cell.I32 e = sym (dword_size w a e)
reads_size w a cell.I64 e = sym (qword_size w a e)
reads_size w a cell.Stat e = ⊎_elim (λ x. sym (natural_size w a x)) (λ x. sym (signed_size w a x)) (or_cases (is_natural a) (is_signed a) e)
reads_size w a (cell.P64 s k may) e = sym (qword_size w a e)
reads_size w a c e = sym (natural_size w a e)

pub writes_size : (w : ℕ) (a : Access) (c : Cell) → writes a c ≡ true → cell_size w c ≡ access_bytes w a
writes_size w a cell.Stat e = sym (natural_size w a e)
writes_size w a (cell.Method m) e = absurd (false≢true e)
writes_size w a c e = reads_size w a c e

-- an access to a slot reads no more bytes than the slot has
slot_reads_within : (w : ℕ) (a : Access) (k : SlotKind) → IsWidth w → reads_slot a k ≡ true → access_bytes w a ≤ slot_bytes w k
slot_reads_within w (Move sizes.Natural) N h e = le_refl w
slot_reads_within w Signed N h e = le_refl w
slot_reads_within w Signed Q h e = by_width (λ v. v ≤ 8) w h (omega arith) (omega arith)
slot_reads_within w (Move sizes.Qword) Q h e = le_refl 8
slot_reads_within w _ _ h e = absurd (false≢true e)

-- the low four of eight bytes
low_half : (b : ℕ → ℕ) (x : ℕ) → ((q : ℕ) → b q < 256) → little_endian b x 4 ≡ little_endian b x 8 % 2 ^ 32
unfolding little_endian
low_half b x small =
    let p = small x in
    let q = small (x + 1) in
    let r = small (x + 1 + 1) in
    let s = small (x + 1 + 1 + 1) in
    omega (arith, p, q, r, s)

-- what shows in a slot shows in the bytes of it that an access reads
slot_shows : (w : ℕ) (A : Addresses) (b : ℕ → ℕ) (x : ℕ) (v : Neutral) (a : Access) (k : SlotKind) → IsWidth w → ((q : ℕ) → b q < 256)
    → reads_slot a k ≡ true → ShowsIn w A (slot_bytes w k) v (little_endian b x (slot_bytes w k))
    → ShowsIn w A (access_bytes w a) v (little_endian b x (access_bytes w a))
slot_shows w A b x v (Move sizes.Natural) N h small e s = s
slot_shows w A b x v Signed N h small e s = s
slot_shows w A b x v (Move sizes.Qword) Q h small e s = s
slot_shows w A b x v Signed Q h small e s =
    by_width (λ u. ShowsIn u A 8 v (little_endian b x 8) → ShowsIn u A u v (little_endian b x u)) w h
    (λ t. record {
      whole = t.whole;
      shows = t.shows;
      cut = low_half b x small ∙ ap (λ z. z % 2 ^ 32) t.cut
          ∙ (let m : t.whole % 2 ^ 64 % 2 ^ 32 ≡ t.whole % 2 ^ 32 = omega arith in m);
    })
    (λ t. t)
    s
slot_shows w A b x v _ _ h small e s = absurd (false≢true e)

module _ (w : ℕ) (world : World) (P : Placement) (mapped : ℕ → ℕ) (h : IsWidth w) (ok : WorldFits world) (pl : IsPlacement w world P) where
  -- what stands beside a register is the same on both sides
  abbrev pub Beside : Option Offset → ℕ → Type 0
  Beside o x = x ≡ word ((offset_of o).n * w + (offset_of o).c)

  -- a register's value and what stands beside it
  pub moved_shows : (A : Addresses) (v : Neutral) (x y : ℕ) (o : Option Offset) → x < 2 ^ 64 → Shows w A v x → Beside o y
      → Shows w A (moved_by v o) (word (x + y))
  moved_shows A v x y None l s e = subst (Shows w A v) (let r : x ≡ word (x + y) = omega (arith, l, e) in r) s
  moved_shows A v x y (Some p) l s e = sum_shows w A v (Num p.n p.c) x y s e

  -- ---- a cell's address

  abbrev End : ℕ
  End = stack_end w world.notes P

  -- R0 at the top of a function frame
  pub top_is : (x : ℕ) (fs : List Frame) → 0 < total w fs → total w fs ≤ stack_bytes w world.notes → x ≡ top_of w End fs
      → x ≡ End - total w fs
  top_is x fs p room e = e ∙ minus-is End (total w fs) p (omega (arith, room)) (end_small w world P h ok pl)

  pub top_address : (r0 y X T far start p : ℕ) → r0 ≡ End - T → T ≤ End → y ≡ word X → X + far ≡ T + start → far ≤ T → start < far
      → p ≡ word (minus End far + start) → minus End far ≡ End - far → word (r0 + y) ≡ p
  top_address r0 y X T far start p e l f g m n q r =
      let s = end_small w world P h ok pl in
      let a : End - far + start < 2 ^ 64 = omega (arith, s, m, n, l) in
      let b : p ≡ End - far + start = q ∙ ap (λ z. word (z + start)) r ∙ mod-eq_of_lt a in
      let c : X < 2 ^ 64 = omega (arith, g, n, l, s, m) in
      let d : y ≡ X = f ∙ mod-eq_of_lt c in
      let k : r0 + y ≡ End - far + start = omega (arith, e, d, g, l, m) in
      ap word k ∙ mod-eq_of_lt a ∙ sym b

  pub locals_fit_at : (t : Shape) (f : ℕ) (z : Field) (fs : List Frame) (i : FunctionFrame) → OwnLocalsAll world.notes (Function i ∷ fs)
      → locals_among i.items ≡ Some t → slice_get t.fields f ≡ Some z → start_at w z + cell_size w z.cell ≤ size_at w t
  locals_fit_at t f z fs i own k m = (fits_at w t h (locals_fit world (Function i ∷ fs) (depth fs) t ok own
      (rw (eq-eqb (depth fs) (depth fs) refl) k))).inside f z m

  -- what a register and a pair name is at the address that the machine makes of them
  cell_named : (but : Option ℕ) (a : Config) (s : Concrete) (r y : ℕ) (o : Option Offset) (p : CellPlace) (z : Field)
      (c : CellLies w world P h ok pl a p z) → r < 8 → total w a.frames ≤ stack_bytes w world.notes → MachineStands w world P mapped but a s
      → Beside o y → located_by world a r o ≡ Some (CellAt p) → cell_field world.notes (memory_of world a) p ≡ Some z
      → address w s r y ≡ c.address
  unfolding address sum_at located_on_stack
  cell_named but a s r y o p z c lt room st e g q = go (nat_eq r 0) refl g
    where
      on_stack : (fs : List Frame) → a.frames ≡ fs → register s 0 ≡ top_of w End fs → OwnLocalsAll world.notes fs
          → total w fs ≤ stack_bytes w world.notes → located_on_stack world.notes fs (offset_of o) ≡ Some (CellAt p)
          → cut_at w (word (register s 0 + y)) ≡ c.address
      on_stack [] fr top own rm g = absurd (none-some _ g)
      on_stack (Host i ∷ fs) fr top own rm g = absurd (none-some _ g)
      on_stack (Function i ∷ fs) fr top own rm g =
          let U = return_cell + total w fs in
          let T = total w (Function i ∷ fs) in
          let there = field_there w End h (end_small w world P h ok pl) world.notes i.func U (offset_of o) (depth fs) 0 0
          (parameters_of world.notes (Function i ∷ fs)) i.items p own.0 g in
          let fit : start_at w there.z + cell_size w there.z.cell ≤ size_at w there.shape =
          (locals_fit_at there.shape there.f there.z fs i own there.among there.get) in
          let pos = cell_positive w there.z.cell h in
          let at : local_address w End (Function i ∷ fs) (depth fs) there.f ≡ Some (word (minus End there.far + start_at w there.z)) =
          rw (eq-eqb (depth fs) (depth fs) refl) there.address in
          let ca : cell_address w world P a p z ≡ Some (word (minus End there.far + start_at w there.z)) =
          ap (λ u. cell_address w world P a u z) there.is_local ∙ ap (λ u. local_address w End u (depth fs) there.f) fr ∙ at in
          let same : c.address ≡ word (minus End there.far + start_at w there.z) = same_Some _ _ (sym c.there ∙ ca) in
          let low = minus-is End there.far (omega (arith, fit, there.room, pos)) (omega (arith, there.within, rm))
          (end_small w world P h ok pl) in
          let sum : word (register s 0 + y) ≡ c.address = top_address (register s 0) y _ T there.far (start_at w there.z) c.address
          (top_is (register s 0) (Function i ∷ fs) (omega arith) rm top) (omega (arith, rm)) e
          (there.offset ∙ (let k : 0 * w + 0 + (height w i.items + U) + start_at w there.z ≡ T + start_at w there.z = omega arith in
          k)) there.within (omega (arith, fit, there.room, pos)) same low in
          let pz = cell_positive w z.cell h in
          ap (cut_at w) sum ∙ mod-eq_of_lt (omega (arith, c.bounded, pz))

      go : (t : Bool) → nat_eq r 0 ≡ t → (if t then located_on_stack world.notes a.frames (offset_of o)
          else located_past world.notes (memory_of world a).objects (moved_by (a.registers r) o)) ≡ Some (CellAt p)
          → cut_at w ((register s r + y) % 2 ^ 64) ≡ c.address
      go true t g = subst (λ u. cut_at w (word (register s u + y)) ≡ c.address) (sym (eqb-true r 0 t))
          (on_stack a.frames refl st.top st.locals room g)
      go false t g =
          let pos : 0 < r = positive r (eqb-false r 0 t) in
          address_of_named w world P h ok pl a (moved_by (a.registers r) o) (word (register s r + y)) p z c q
          (moved_shows (addresses w world.notes P a.frames) (a.registers r) (register s r) y o (st.words r) (st.registers r pos lt) e)
          (names w world P h ok pl a (moved_by (a.registers r) o) p g)
        where
          positive : (r : ℕ) → (r ≡ 0 → ⊥) → 0 < r
          positive zero f = absurd (f refl)
          positive (suc r) f = omega arith

  -- ---- what is read

  bytes_word : (access : Access) → 2 ^ (8 * access_bytes w access) ≤ 2 ^ 64
  bytes_word (Move sizes.Natural) = width_word w h
  bytes_word (Form true) = omega arith
  bytes_word Signed = width_word w h
  bytes_word c = omega arith

  -- the machine reads a number that a value shows as
  pub record Reads (a : Config) (s : Concrete) (r y : ℕ) (access : Access) (v : Neutral) : Type 0 where
    pub number : ℕ
    pub there : loaded s (address w s r y) (access_bytes w access) ≡ Some number
    pub small : number < 2 ^ (8 * access_bytes w access)
    pub shows : ShowsIn w (addresses w world.notes P a.frames) (access_bytes w access) v number

  -- from an address that an object holds
  reads_at : (a : Config) (s : Concrete) (r y x : ℕ) (access : Access) (v : Neutral) → ((q : ℕ) → s.byte q < 256) → address w s r y ≡ x
      → holds s.objects x (access_bytes w access) ≡ true → ShowsIn w (addresses w world.notes P a.frames) (access_bytes w access) v
      (little_endian s.byte x (access_bytes w access)) → Reads a s r y access v
  unfolding loaded
  reads_at a s r y x access v small e held sh = record {
    number = little_endian s.byte x (access_bytes w access);
    there = rw e (rw held refl);
    small = subst (λ z. little_endian s.byte x (access_bytes w access) < z) (powers (access_bytes w access))
        (little_endian-below s.byte x (access_bytes w access) small);
    shows = sh;
  }

  cell_reads : (a : Config) (s : Concrete) (r y : ℕ) (o : Option Offset) (access : Access) (p : CellPlace) (v : Neutral) → r < 8
      → total w a.frames ≤ stack_bytes w world.notes → MachineStands w world P mapped None a s → Beside o y
      → located_by world a r o ≡ Some (CellAt p) → value_at world a access (CellAt p) ≡ Some v → Reads a s r y access v
  unfolding value_at
  cell_reads a s r y o access p v lt room st e g q = by_field (cell_field world.notes (memory_of world a) p) refl q
    where
      by_cell : (z : Field) → cell_field world.notes (memory_of world a) p ≡ Some z → (t : Bool) → reads access z.cell ≡ t
          → (if t then a.cells p else None) ≡ Some v → Reads a s r y access v
      by_cell z f true t q =
          let c = cell_lies w world P h ok pl a p z room st.locals f in
          let k : cell_size w z.cell ≡ access_bytes w access = reads_size w access z.cell t in
          let sh = st.cells p z v f q in
          let at : sh.address ≡ c.address = same_Some _ _ (sym sh.there ∙ c.there) in
          reads_at a s r y c.address access v st.small (cell_named None a s r y o p z c lt room st e g f)
          (subst₂ (λ u n. holds u c.address n ≡ true) (sym st.objects) k c.held)
          (subst₂ (λ u n. ShowsIn w (addresses w world.notes P a.frames) n v (little_endian s.byte u n)) at k sh.shows)
      by_cell z f false t q = absurd (none-some _ q)

      by_field : (f : Option Field) → cell_field world.notes (memory_of world a) p ≡ f → cell_value world a access p f ≡ Some v
          → Reads a s r y access v
      by_field None f q = absurd (none-some _ q)
      by_field (Some z) f q = by_cell z f (reads access z.cell) refl q

  -- ---- parameters

  no_param_past : (notes : Notes) (objects : List TypedObject) (v : Neutral) (j : ℕ) → located_past notes objects v ≡ Some (ParamAt j) → ⊥
  unfolding located_past
  no_param_past notes objects (At (ObjectOf k) n c) j g =
      let r = some_of_map CellAt (option_and_then (cell_in notes k n c) (slice_get objects k)) (ParamAt j) g in cell_param r.0 j r.2
    where
      cell_param : (p : CellPlace) (j : ℕ) → CellAt p ≡ ParamAt j → ⊥
      cell_param p j e = absurd (cc)
  no_param_past notes objects (At (ThunkOf i) n c) j g = go (nat_eq n 0 && nat_eq c 0) g
    where
      thunk_param : (i j : ℕ) → ThunkAt i ≡ ParamAt j → ⊥
      thunk_param i j e = absurd (cc)

      go : (t : Bool) → (if t then Some (ThunkAt i) else None) ≡ Some (ParamAt j) → ⊥
      go true g = thunk_param i j (same_Some _ _ g)
      go false g = none-some _ g
  no_param_past notes objects (At (LocalOf d f) n c) j g = go (nat_eq n 0 && nat_eq c 0) g
    where
      cell_param : (p : CellPlace) (j : ℕ) → CellAt p ≡ ParamAt j → ⊥
      cell_param p j e = absurd (cc)

      go : (t : Bool) → (if t then Some (CellAt (FieldOfLocals d f)) else None) ≡ Some (ParamAt j) → ⊥
      go true g = cell_param (FieldOfLocals d f) j (same_Some _ _ g)
      go false g = none-some _ g
  no_param_past notes objects v j g = none-some _ g

  -- a pair that names a parameter is found past the items
  param_past : (at : Offset) (d n c j : ℕ) (params is : List StackItem) → located_among at d n c params is ≡ Some (ParamAt j) → (m b : ℕ)
      × (m * w + b ≡ n * w + c + height w is) × (parameter_at at 0 m (b + 16) params ≡ Some (ParamAt j))
  param_past at d n c j params [] g = (n, c, (omega arith), g)
  param_past at d n c j params (Pushed kind v ∷ is) g =
      let r = param_past at d (n + item_units (Pushed kind v)) (c + item_bytes (Pushed kind v)) j params is g in
      let e = item_pair w (Pushed kind v) in (
        r.0,
        r.1,
        (r.2 ∙ (let k : (n + item_units (Pushed kind v)) * w + (c + item_bytes (Pushed kind v)) + height w is ≡ n * w + c +
            (slot_bytes w kind + height w is) = omega (arith, e) in k)),
        r.3,
      )
  param_past at d n c j params (LocalsOf s ∷ is) g = go (local_field at d n c s) refl g
      (λ g. param_past at d (n + s.n) (c + s.c) j params is g)
    where
      cell_param : (p : CellPlace) (j : ℕ) → CellAt p ≡ ParamAt j → ⊥
      cell_param p j e = absurd (cc)

      go : (o : Option Location) → local_field at d n c s ≡ o → option_or o (located_among at d (n + s.n) (c + s.c) params is) ≡ Some
          (ParamAt j)
          → (located_among at d (n + s.n) (c + s.c) params is ≡ Some (ParamAt j) → (m b : ℕ)
          × (m * w + b ≡ (n + s.n) * w + (c + s.c) + height w is) × (parameter_at at 0 m (b + 16) params ≡ Some (ParamAt j)))
          → (m b : ℕ) × (m * w + b ≡ n * w + c + (size_at w s + height w is)) × (parameter_at at 0 m (b + 16) params ≡ Some (ParamAt j))
      go None e g next = let r = next g in (
        r.0,
        r.1,
        (r.2 ∙ (let k : (n + s.n) * w + (c + s.c) + height w is ≡ n * w + c +
            (size_at w s + height w is) = omega arith in k)),
        r.3,
      )
      go (Some l) e g next =
          let r = some_of_map (λ f. CellAt (FieldOfLocals d f))
          (find_field (λ (z : Field). nat_eq at.n (n + z.n) && nat_eq at.c (c + z.c)) 0 s.fields) l e in
          absurd (cell_param (FieldOfLocals d r.0) j (r.2 ∙ same_Some _ _ g))

  -- the items below a function, and what they lie upon
  under_of : List Frame → ℕ
  under_of [] = 0
  under_of (Function g ∷ fs) = return_cell + total w fs
  under_of (Host g ∷ fs) = total w fs

  below_total : (fs : List Frame) → total w fs ≡ height w (items_below fs) + under_of fs
  unfolding under_of
  below_total [] = refl
  below_total (Function g ∷ fs) = refl
  below_total (Host g ∷ fs) = refl

  below_show : (A : Addresses) (b : ℕ → ℕ) (fs : List Frame) → FramesShow w A b End P fs
      → ItemsShow w A b End (under_of fs) (items_below fs)
  unfolding under_of
  below_show A b [] s = tt
  below_show A b (Function g ∷ fs) s = s.0
  below_show A b (Host g ∷ fs) s = s.0

  param_reads : (a : Config) (s : Concrete) (r y : ℕ) (o : Option Offset) (access : Access) (j : ℕ) (v : Neutral)
      → total w a.frames ≤ stack_bytes w world.notes → MachineStands w world P mapped None a s → Beside o y
      → located_by world a r o ≡ Some (ParamAt j) → value_at world a access (ParamAt j) ≡ Some v → Reads a s r y access v
  unfolding value_at address sum_at located_on_stack
  param_reads a s r y o access j v room st e g q = go (nat_eq r 0) refl g
    where
      by_slot : (t : FunctionFrame) (fs : List Frame) → a.frames ≡ Function t ∷ fs → register s 0 ≡ top_of w End (Function t ∷ fs)
          → total w (Function t ∷ fs) ≤ stack_bytes w world.notes
          → FramesShow w (addresses w world.notes P a.frames) s.byte End P (Function t ∷ fs)
          → located_among (offset_of o) (depth fs) 0 0 (parameters_of world.notes (Function t ∷ fs)) t.items ≡ Some (ParamAt j)
          → (x : Option StackItem) → slice_get (parameters_of world.notes (Function t ∷ fs)) j ≡ x → slot_value access x ≡ Some v → r ≡ 0
          → Reads a s r y access v
      by_slot t fs fr top rm sh g None k q z = absurd (none-some _ q)
      by_slot t fs fr top rm sh g (Some (LocalsOf u)) k q z = absurd (none-some _ q)
      by_slot t fs fr top rm sh g (Some (Pushed kind u)) k q z = by_kind (reads_slot access kind) refl q
        where
          T : ℕ
          T = total w (Function t ∷ fs)

          by_kind : (b : Bool) → reads_slot access kind ≡ b → (if b then Some u else None) ≡ Some v → Reads a s r y access v
          by_kind false b q = absurd (none-some _ q)
          by_kind true b q =
              let n = param_past (offset_of o) (depth fs) 0 0 j (parameters_of world.notes (Function t ∷ fs)) t.items g in
              let bt = below_total fs in
              let m = slot_there w End h (end_small w world P h ok pl) (addresses w world.notes P a.frames) s.byte (under_of fs)
              (offset_of o) 0 n.0 (n.1 + 16) (parameter_count (slice_get world.notes.function t.func)) (items_below fs) j kind u
              (below_show (addresses w world.notes P a.frames) s.byte fs sh.2)
              (subst (λ i. parameter_at (offset_of o) 0 n.0 (n.1 + 16) (parameters_of world.notes (Function t ∷ fs)) ≡ Some (ParamAt i))
              (let i : j ≡ 0 + j = omega arith in i) n.3) k in
              let pk = slot_positive w kind h in
              let low = minus-is End m.far (omega (arith, m.past, pk)) (omega (arith, m.within, bt, rm)) (end_small w world P h ok pl) in
              let sum : word (register s 0 + y) ≡ word (minus End m.far + 0) =
              top_address (register s 0) y _ T m.far 0 (word (minus End m.far + 0))
              (top_is (register s 0) (Function t ∷ fs) (omega arith) rm top) (omega (arith, rm)) e
              (m.offset ∙ (let i : n.0 * w + (n.1 + 16) + (height w (items_below fs) + under_of fs) ≡ T + 0 = omega (arith, n.2, bt) in i))
              (omega (arith, m.within, bt)) (omega (arith, m.past, pk)) refl low in
              let sw = stack_within w world P h ok pl in
              let es = end_small w world P h ok pl in
              let flat : word (minus End m.far + 0) ≡ minus End m.far = omega (arith, low, es, m.past, pk, m.within, bt, rm) in
              let at : cut_at w (word (register s r + y)) ≡ minus End m.far =
              ap (λ i. cut_at w (word (register s i + y))) z ∙ ap (cut_at w) (sum ∙ flat)
              ∙ mod-eq_of_lt (omega (arith, low, sw.below, m.past, pk, m.within, bt, rm)) in
              let size = slot_reads_within w access kind h b in
              let held = stack_holds w world P h ok pl a.script.entries (minus End m.far) (access_bytes w access)
              (omega (arith, low, m.within, bt, rm)) (omega (arith, low, m.past, m.within, bt, rm, size)) in
              reads_at a s r y (minus End m.far) access v st.small at
              (subst (λ i. holds i (minus End m.far) (access_bytes w access) ≡ true) (sym st.objects) held)
              (subst (λ i. ShowsIn w (addresses w world.notes P a.frames) (access_bytes w access) i
              (little_endian s.byte (minus End m.far) (access_bytes w access))) (same_Some u v q)
              (slot_shows w (addresses w world.notes P a.frames) s.byte (minus End m.far) u access kind h st.small b m.shows))

      on_stack : (fs : List Frame) → a.frames ≡ fs → register s 0 ≡ top_of w End fs → total w fs ≤ stack_bytes w world.notes
          → FramesShow w (addresses w world.notes P a.frames) s.byte End P fs
          → located_on_stack world.notes fs (offset_of o) ≡ Some (ParamAt j)
          → slot_value access (slice_get (parameters_of world.notes fs) j) ≡ Some v → r ≡ 0 → Reads a s r y access v
      on_stack [] fr top rm sh g q z = absurd (none-some _ g)
      on_stack (Host i ∷ fs) fr top rm sh g q z = absurd (none-some _ g)
      on_stack (Function t ∷ fs) fr top rm sh g q z = by_slot t fs fr top rm sh g
          (slice_get (parameters_of world.notes (Function t ∷ fs)) j) refl q z

      go : (t : Bool) → nat_eq r 0 ≡ t → (if t then located_on_stack world.notes a.frames (offset_of o)
          else located_past world.notes (memory_of world a).objects (moved_by (a.registers r) o)) ≡ Some (ParamAt j)
          → Reads a s r y access v
      go true t g = on_stack a.frames refl st.top room st.frames g q (eqb-true r 0 t)
      go false t g = absurd (no_param_past world.notes (memory_of world a).objects (moved_by (a.registers r) o) j g)

  -- ---- thunk cells

  -- what names a thunk cell is its address, past no register but a value
  pub record NamesThunk (notes : Notes) (objects : List TypedObject) (v : Neutral) (i : ℕ) : Type 0 where
    pub is : v ≡ At (ThunkOf i) 0 0

  thunk_past : (notes : Notes) (objects : List TypedObject) (v : Neutral) (j : ℕ) → located_past notes objects v ≡ Some (ThunkAt j)
      → NamesThunk notes objects v j
  unfolding located_past
  thunk_past notes objects (At (ObjectOf k) n c) j g =
      let r = some_of_map CellAt (option_and_then (cell_in notes k n c) (slice_get objects k)) (ThunkAt j) g in
      absurd (cell_thunk r.0 j r.2)
    where
      cell_thunk : (p : CellPlace) (j : ℕ) → CellAt p ≡ ThunkAt j → ⊥
      cell_thunk p j e = absurd (cc)
  thunk_past notes objects (At (ThunkOf i) n c) j g = go (nat_eq n 0 && nat_eq c 0) refl g
    where
      one : (i j : ℕ) → ThunkAt i ≡ ThunkAt j → i ≡ j
      one i j e = cc

      go : (t : Bool) → (nat_eq n 0 && nat_eq c 0) ≡ t → (if t then Some (ThunkAt i) else None) ≡ Some (ThunkAt j)
          → NamesThunk notes objects (At (ThunkOf i) n c) j
      go true t g =
          let e = and_parts (nat_eq n 0) (nat_eq c 0) t in
          record {
            is = ap₂ (At (ThunkOf i)) (eqb-true n 0 e.0) (eqb-true c 0 e.1)
                ∙ ap (λ z. At (ThunkOf z) 0 0) (one i j (same_Some _ _ g));
          }
      go false t g = absurd (none-some _ g)
  thunk_past notes objects (At (LocalOf d f) n c) j g = go (nat_eq n 0 && nat_eq c 0) g
    where
      cell_thunk : (p : CellPlace) (j : ℕ) → CellAt p ≡ ThunkAt j → ⊥
      cell_thunk p j e = absurd (cc)

      go : (t : Bool) → (if t then Some (CellAt (FieldOfLocals d f)) else None) ≡ Some (ThunkAt j)
          → NamesThunk notes objects (At (LocalOf d f) n c) j
      go true g = absurd (cell_thunk (FieldOfLocals d f) j (same_Some _ _ g))
      go false g = absurd (none-some _ g)
  thunk_past notes objects v j g = absurd (none-some _ g)

  no_thunk_param : (at : Offset) (j n c i : ℕ) (is : List StackItem) → parameter_at at j n c is ≡ Some (ThunkAt i) → ⊥
  no_thunk_param at j n c i [] g = none-some _ g
  no_thunk_param at j n c i (x ∷ is) g = go (nat_eq at.n n && nat_eq at.c c) g
      (λ g. no_thunk_param at (suc j) (n + item_units x) (c + item_bytes x) i is g)
    where
      param_thunk : (j i : ℕ) → ParamAt j ≡ ThunkAt i → ⊥
      param_thunk j i e = absurd (cc)

      go : (t : Bool) → (if t then Some (ParamAt j) else parameter_at at (suc j) (n + item_units x) (c + item_bytes x) is) ≡ Some
          (ThunkAt i) → (parameter_at at (suc j) (n + item_units x) (c + item_bytes x) is ≡ Some (ThunkAt i) → ⊥) → ⊥
      go true g next = param_thunk j i (same_Some _ _ g)
      go false g next = next g

  no_thunk_among : (at : Offset) (d n c i : ℕ) (params is : List StackItem) → located_among at d n c params is ≡ Some (ThunkAt i) → ⊥
  no_thunk_among at d n c i params [] g = no_thunk_param at 0 n (c + 16) i params g
  no_thunk_among at d n c i params (Pushed kind v ∷ is) g = no_thunk_among at d (n + item_units (Pushed kind v))
      (c + item_bytes (Pushed kind v)) i params is g
  no_thunk_among at d n c i params (LocalsOf s ∷ is) g = go (local_field at d n c s) refl g
      (λ g. no_thunk_among at d (n + s.n) (c + s.c) i params is g)
    where
      cell_thunk : (p : CellPlace) (j : ℕ) → CellAt p ≡ ThunkAt j → ⊥
      cell_thunk p j e = absurd (cc)

      go : (o : Option Location) → local_field at d n c s ≡ o → option_or o (located_among at d (n + s.n) (c + s.c) params is) ≡ Some
          (ThunkAt i) → (located_among at d (n + s.n) (c + s.c) params is ≡ Some (ThunkAt i) → ⊥) → ⊥
      go None e g next = next g
      go (Some l) e g next =
          let r = some_of_map (λ f. CellAt (FieldOfLocals d f))
          (find_field (λ (z : Field). nat_eq at.n (n + z.n) && nat_eq at.c (c + z.c)) 0 s.fields) l e in
          cell_thunk (FieldOfLocals d r.0) i (r.2 ∙ same_Some _ _ g)

  positive : (r : ℕ) → (r ≡ 0 → ⊥) → 0 < r
  positive zero f = absurd (f refl)
  positive (suc r) f = omega arith

  thunk_reads : (a : Config) (s : Concrete) (r y : ℕ) (o : Option Offset) (access : Access) (i : ℕ) (v : Neutral) → r < 8
      → total w a.frames ≤ stack_bytes w world.notes → MachineStands w world P mapped None a s → Beside o y
      → located_by world a r o ≡ Some (ThunkAt i) → value_at world a access (ThunkAt i) ≡ Some v → Reads a s r y access v
  unfolding value_at address sum_at located_on_stack
  thunk_reads a s r y o access i v lt room st e g q = go (nat_eq r 0) refl g
    where
      A : Addresses
      A = addresses w world.notes P a.frames

      on_stack : (fs : List Frame) → located_on_stack world.notes fs (offset_of o) ≡ Some (ThunkAt i) → ⊥
      on_stack [] g = none-some _ g
      on_stack (Host t ∷ fs) g = none-some _ g
      on_stack (Function t ∷ fs) g = no_thunk_among (offset_of o) (depth fs) 0 0 i (parameters_of world.notes (Function t ∷ fs)) t.items g

      made : (t : Thunk) → slice_get world.notes.thunk i ≡ Some t → is_natural access ≡ true → i < a.made → Entry t.function ≡ v → (x : ℕ)
          → cut_at w (word (register s r + y)) ≡ x → x ≡ P.image + t.place → Reads a s r y access v
      made t k n l ev x c xe =
          let sh = (st.thunks i t k (λ z. none-some i z)).0 l in
          let size : w ≡ access_bytes w access = sym (natural_size w access n) in
          let inside = ok.thunks_inside i t k in
          let w8 = width_le w h in
          let held = image_holds w world P h ok pl a.script.entries (P.image + t.place) w (omega arith) (omega (arith, inside, w8)) in
          let fits : ShowsIn w A w (Entry t.function) (little_endian s.byte (P.image + t.place) w) = record {
            whole = little_endian s.byte (P.image + t.place) w;
            shows = sh;
            cut = sym (mod-eq_of_lt (subst (λ z. little_endian s.byte (P.image + t.place) w < z) (powers w)
                (little_endian-below s.byte (P.image + t.place) w st.small)));
          } in
          reads_at a s r y (P.image + t.place) access v st.small (c ∙ xe)
          (subst₂ (λ u n. holds u (P.image + t.place) n ≡ true) (sym st.objects) size held)
          (subst₂ (λ u n. ShowsIn w A n u (little_endian s.byte (P.image + t.place) n)) ev size fits)

      by_test : (b : Bool) → (is_natural access && nat_lt i a.made) ≡ b
          → (if b then entry_if (slice_get world.notes.thunk i) else None) ≡ Some v → (x : ℕ) → cut_at w (word (register s r + y)) ≡ x
          → thunk_cell_address world.notes P i ≡ Some x → Reads a s r y access v
      by_test false b q x c xe = absurd (none-some _ q)
      by_test true b q x c xe = by_thunk (slice_get world.notes.thunk i) refl q xe
        where
          by_thunk : (t : Option Thunk) → slice_get world.notes.thunk i ≡ t → entry_if t ≡ Some v
              → option_map (λ (t : Thunk). P.image + t.place) t ≡ Some x → Reads a s r y access v
          by_thunk None k q xe = absurd (none-some _ q)
          by_thunk (Some t) k q xe =
              let p = and_parts (is_natural access) (nat_lt i a.made) b in
              made t k p.0 (ltb-true i a.made p.1) (same_Some _ _ q) x c (sym (same_Some _ _ xe))

      go : (t : Bool) → nat_eq r 0 ≡ t → (if t then located_on_stack world.notes a.frames (offset_of o)
          else located_past world.notes (memory_of world a).objects (moved_by (a.registers r) o)) ≡ Some (ThunkAt i)
          → Reads a s r y access v
      go true t g = absurd (on_stack a.frames g)
      go false t g =
          let n = thunk_past world.notes (memory_of world a).objects (moved_by (a.registers r) o) i g in
          let sh = subst (λ u. Shows w A u (word (register s r + y))) n.is
          (moved_shows A (a.registers r) (register s r) y o (st.words r) (st.registers r (positive r (eqb-false r 0 t)) lt) e) in
          let b = (bounded w world P h ok pl a.frames room st.locals).thunk i sh.from sh.there in
          let m = width_word w h in
          let flat : word (register s r + y) ≡ sh.from = sh.is ∙ (let z : word (sh.from + (0 * w + 0)) ≡ sh.from = omega (arith, b, m) in
          z) in
          by_test (is_natural access && nat_lt i a.made) refl q sh.from (ap (cut_at w) flat ∙ mod-eq_of_lt b) sh.there

  -- ---- loads

  location_reads : (a : Config) (s : Concrete) (r y : ℕ) (o : Option Offset) (access : Access) (l : Location) (v : Neutral) → r < 8
      → total w a.frames ≤ stack_bytes w world.notes → MachineStands w world P mapped None a s → Beside o y
      → located_by world a r o ≡ Some l → value_at world a access l ≡ Some v → Reads a s r y access v
  location_reads a s r y o access (CellAt p) v lt room st e g q = cell_reads a s r y o access p v lt room st e g q
  location_reads a s r y o access (ParamAt j) v lt room st e g q = param_reads a s r y o access j v room st e g q
  location_reads a s r y o access (ThunkAt i) v lt room st e g q = thunk_reads a s r y o access i v lt room st e g q

  -- a number of 64 bits that a value shows as
  abbrev pub ShowsWord : Config → Neutral → ℕ → Type 0
  ShowsWord a v x = (x < 2 ^ 64) × Shows w (addresses w world.notes P a.frames) v x

  -- a number of so many bytes that a value shows as
  abbrev pub ShowsBytes : Config → ℕ → Neutral → ℕ → Type 0
  ShowsBytes a k v x = (x < 2 ^ (8 * k)) × Shows w (addresses w world.notes P a.frames) v x

  -- A load: what the neutral machine keeps of the value there shows as the number that the machine loads.
  pub loads_bytes : (a : Config) (s : Concrete) (raised : Exception) (r y : ℕ) (o : Option Offset) (access : Access) → r < 8
      → total w a.frames ≤ stack_bytes w world.notes → MachineStands w world P mapped None a s → Beside o y
      → Does (ShowsBytes a (access_bytes w access)) (loaded_by world a access r o) (loaded_at w s raised (access_bytes w access) r y)
  unfolding loaded_by loaded_at
  loads_bytes a s raised r y o access lt room st e = by_location (located_by world a r o) refl
    where
      A : Addresses
      A = addresses w world.notes P a.frames

      by_value : (l : Location) → located_by world a r o ≡ Some l → (x : Option Neutral) → value_at world a access l ≡ x
          → Does (ShowsBytes a (access_bytes w access)) (or_stuck (option_map (kept world.notes (memory_of world a).objects access) x))
          (or_else raised (loaded s (address w s r y) (access_bytes w access)))
      by_value l g None q = tt
      by_value l g (Some v) q =
          let n = location_reads a s r y o access l v lt room st e g q in
          rw n.there (
            n.small,
            kept_shows w world.notes (memory_of world a).objects A access v n.number h
                (bounded w world P h ok pl a.frames room st.locals) (objects_below w world P h ok pl a.script.entries a.frames) n.shows,
          )

      by_location : (x : Option Location) → located_by world a r o ≡ x
          → Does (ShowsBytes a (access_bytes w access)) (or_stuck
          (option_map (kept world.notes (memory_of world a).objects access) (option_and_then (value_at world a access) x)))
          (or_else raised (loaded s (address w s r y) (access_bytes w access)))
      by_location None g = tt
      by_location (Some l) g = by_value l g (value_at world a access l) refl

  weaker : {B C : Type 0} (R S : B → C → Type 0) (m : Outcome B) (o : Result C Exception) → Does R m o → ((x : B) (y : C) → R x y → S x y)
      → Does S m o
  weaker R S Stuck o d f = tt
  weaker R S (Raises e) (Ok y) d f = d
  weaker R S (Raises e) (Err x) d f = d
  weaker R S (Gives x) (Ok y) d f = f x y d
  weaker R S (Gives x) (Err e) d f = d

  pub loads : (a : Config) (s : Concrete) (raised : Exception) (r y : ℕ) (o : Option Offset) (access : Access) → r < 8
      → total w a.frames ≤ stack_bytes w world.notes → MachineStands w world P mapped None a s → Beside o y
      → Does (ShowsWord a) (loaded_by world a access r o) (loaded_at w s raised (access_bytes w access) r y)
  loads a s raised r y o access lt room st e = weaker (ShowsBytes a (access_bytes w access)) (ShowsWord a) _ _
      (loads_bytes a s raised r y o access lt room st e) (λ v x p. let m = bytes_word access in (omega (arith, p.0, m), p.1))

  -- ---- stores

  -- A store: where the neutral machine stores a value, the machine stores its number, and stands for the configuration then.
  pub stores : (a : Config) (s : Concrete) (raised : Exception) (r y : ℕ) (o : Option Offset) (access : Access) (v : Neutral) (x : ℕ)
      → r < 8 → total w a.frames ≤ stack_bytes w world.notes → MachineStands w world P mapped None a s → Beside o y
      → ShowsIn w (addresses w world.notes P a.frames) (access_bytes w access) v (x % 2 ^ (8 * access_bytes w access))
      → Does (MachineStands w world P mapped None) (stored_by world a access r o v) (stored_at w s raised (access_bytes w access) r y x)
  unfolding stored_by stored_at stored locations.stored_at
  stores a s raised r y o access v x lt room st e sh = by_location (located_by world a r o) refl
    where
      machine : Result Concrete Exception
      machine = or_else raised (if holds s.objects (address w s r y) (access_bytes w access) then
          Some (record s { byte = put s.byte (address w s r y) (access_bytes w access) x }) else None)

      by_test : (p : CellPlace) → located_by world a r o ≡ Some (CellAt p) → (z : Field)
          → cell_field world.notes (memory_of world a) p ≡ Some z → (t : Bool)
          → (writes access z.cell && fits_cell world.notes (memory_of world a).objects z.cell v) ≡ t
          → Does (MachineStands w world P mapped None) (or_stuck (if t then Some (record a { cells = with_cell a.cells p v }) else None))
          (or_else raised (if holds s.objects (address w s r y) (access_bytes w access) then
          Some (record s { byte = put s.byte (address w s r y) (access_bytes w access) x }) else None))
      by_test p g z f false t = tt
      by_test p g z f true t =
          let c = cell_lies w world P h ok pl a p z room st.locals f in
          let k : cell_size w z.cell ≡ access_bytes w access = writes_size w access z.cell (and_parts (writes access z.cell) _ t).0 in
          let at : address w s r y ≡ c.address = cell_named None a s r y o p z c lt room st e g f in
          let held : holds s.objects (address w s r y) (access_bytes w access) ≡ true =
          subst₂ (λ u n. holds s.objects u n ≡ true) (sym at) k
          (subst (λ u. holds u c.address (cell_size w z.cell) ≡ true) (sym st.objects) c.held) in
          let stand = stored_stands w world P mapped h ok pl None a s p z v c.address x room st f c.there
          (subst (λ n. ShowsIn w (addresses w world.notes P a.frames) n v (x % 2 ^ (8 * n))) (sym k) sh) in
          rw held (subst₂ (λ u n. MachineStands w world P mapped None (record a { cells = with_cell a.cells p v })
          (record s { byte = put s.byte u n x })) (sym at) k stand)

      by_field : (p : CellPlace) → located_by world a r o ≡ Some (CellAt p) → (f : Option Field)
          → cell_field world.notes (memory_of world a) p ≡ f → Does (MachineStands w world P mapped None)
          (or_stuck (stored_in world a access p v f)) (or_else raised
          (if holds s.objects (address w s r y) (access_bytes w access) then
          Some (record s { byte = put s.byte (address w s r y) (access_bytes w access) x }) else None))
      by_field p g None f = tt
      by_field p g (Some z) f = by_test p g z f (writes access z.cell && fits_cell world.notes (memory_of world a).objects z.cell v) refl

      by_location : (l : Option Location) → located_by world a r o ≡ l
          → Does (MachineStands w world P mapped None) (or_stuck (option_and_then (λ l. locations.stored_at world a access l v) l))
          (or_else raised (if holds s.objects (address w s r y) (access_bytes w access) then
          Some (record s { byte = put s.byte (address w s r y) (access_bytes w access) x }) else None))
      by_location (Some (CellAt p)) g = by_field p g (cell_field world.notes (memory_of world a) p) refl
      by_location o g = tt
