-- The stack moves: pushes, pops, calls and returns leave the machine standing for the configuration.
use Rattle.neutral_machine.proofs.Common.{◌≡◌, ℕ, ◌+◌, ◌-◌, ◌*◌, ◌%◌, ◌^◌, ◌<◌, ◌≤◌, ◌⊎◌, Bool, true, false, if◌then◌else◌, nat_eq, List}
use Rattle.neutral_machine.proofs.Common.{[], ◌∷◌, length, Option, Some, None, Ok, refl, sym, ap, ◌∙◌, subst, subst₂, arith, inl, inr}
use Rattle.neutral_machine.proofs.Common.{⊎_elim, slice_get, slice_set, option_and_then, mod-eq_of_lt, length-set, get_or-set_same}
use Rattle.neutral_machine.proofs.Common.{get_or-set_other, eqb-true, ne_eqb, cases_eq, same_Some, little_endian, put, little_endian-agree}
use Rattle.neutral_machine.proofs.Common.{little_endian-apart, put-apart, put-below, IsWidth, cut_at, address, sum_at, loaded_at}
use Rattle.neutral_machine.proofs.Common.{lowered_by, raised_by, cell_size, Concrete, register, stored, loaded, with_register, holds}
use Rattle.neutral_machine.proofs.Common.{SlotKind, Exception, Field, Shape, Anchor, ObjectOf, ThunkOf, LocalOf, Neutral, Addresses, Shows}
use Rattle.neutral_machine.proofs.Common.{ShowsIn, CellPlace, FieldOf, FieldOfLocals, minus, StackItem, Pushed, FunctionFrame, Frame}
use Rattle.neutral_machine.proofs.Common.{Function, Host, Config, depth, locals_at, World, Placement, IsPlacement, slot_bytes, stack_bytes}
use Rattle.neutral_machine.proofs.Common.{stack_end, return_cell, addresses, anchor_address, height, total, top_of, local_address}
use Rattle.neutral_machine.proofs.Common.{memory_of, cell_field, Does, with_items, ReturnShows, FramesShow, OwnLocalsAll, cell_address}
use Rattle.neutral_machine.proofs.Common.{CellShows, CellsShow, MachineStands, WorldFits}
use Rattle.std.proofs.Common.{slice_index}
use Rattle.ebc_width.proofs.ByteLaws.{little_endian-below}
use Rattle.ebc_machine.specs.Operands.{stored_at}
use Rattle.host_model.specs.Values.{Cells}
use Rattle.neutral_machine.specs.{Rows.pushed, Stands.ThunksShow, Stands.CodeStands}
use Rattle.neutral_machine.proofs.Placed.{off_stack, image_off_stack, image_within, stack_holds, stack_within}
use Rattle.neutral_machine.proofs.Agree.{Extends, shows_more, shows_in_more, put_agree, frames_agree, frames_more, read_put, powers}
use Rattle.neutral_machine.proofs.Agree.{slot_positive}
use Rattle.neutral_machine.proofs.Cells.{end_small, in_object_at, object_cell, object_place, in_locals_at, local_cell}
use Rattle.neutral_machine.proofs.{Numbers.minus-is, Stored.width_le, Words.width_word}
use Rattle.ebc_machine.specs.Stack as machine
use Rattle.note_types.specs.declared.exception.Exception.TheVariants as raises

-- the configuration with other frames
abbrev pub framed : Config → List Frame → Config
framed a fs = record a { frames = fs }

pub in_frames : (w : ℕ) (world : World) (P : Placement) (mapped : ℕ → ℕ) (a : Config) (s : Concrete) (fs : List Frame) → a.frames ≡ fs
    → MachineStands w world P mapped None a s → MachineStands w world P mapped None (framed a fs) s
in_frames w world P mapped a s fs fr st = subst (λ u. MachineStands w world P mapped None (framed a u) s) fr st

-- ---- numbers of frames

-- no frame has a depth past the number of frames
pub no_locals : (fs : List Frame) (d : ℕ) → depth fs ≤ d → locals_at fs d ≡ None
no_locals [] d l = refl
no_locals (Host h ∷ fs) d l = no_locals fs d l
no_locals (Function f ∷ fs) d l = rw (ne_eqb d (depth fs) (λ e. omega (arith, e, l))) (no_locals fs d (omega (arith, l)))

pub no_address : (w end : ℕ) (fs : List Frame) (d f : ℕ) → depth fs ≤ d → local_address w end fs d f ≡ None
no_address w end [] d f l = refl
no_address w end (Host h ∷ fs) d f l = no_address w end fs d f l
no_address w end (Function g ∷ fs) d f l = rw (ne_eqb d (depth fs) (λ e. omega (arith, e, l))) (no_address w end fs d f (omega (arith, l)))

-- two lists of frames have the same locals at the same addresses
pub record SameLocals (w end : ℕ) (fs gs : List Frame) : Type 0 where
  pub locals : (d : ℕ) → locals_at gs d ≡ locals_at fs d
  pub address : (d f : ℕ) → local_address w end gs d f ≡ local_address w end fs d f

module _ (w : ℕ) (world : World) (P : Placement) (mapped : ℕ → ℕ) (h : IsWidth w) (ok : WorldFits world) (pl : IsPlacement w world P) where
  abbrev End : ℕ
  End = stack_end w world.notes P

  abbrev A : List Frame → Addresses
  A fs = addresses w world.notes P fs

  pub same_extends : (fs gs : List Frame) → SameLocals w End fs gs → Extends (A fs) (A gs)
  same_extends fs gs e = record {
    anchor = go;
    handle = λ k p q. q;
    method = λ k p q. q;
    entry = λ k p q. q;
  }
    where
      go : (a : Anchor) (p : ℕ) → anchor_address w world.notes P fs a ≡ Some p → anchor_address w world.notes P gs a ≡ Some p
      go (ObjectOf k) p q = q
      go (ThunkOf i) p q = q
      go (LocalOf d f) p q = e.address d f ∙ q

  -- where a cell is that no move of the stack reaches
  pub cell_above : (a : Config) (p : CellPlace) (z : Field) (x : ℕ) → total w a.frames ≤ stack_bytes w world.notes
      → OwnLocalsAll world.notes a.frames → cell_field world.notes (memory_of world a) p ≡ Some z → cell_address w world P a p z ≡ Some x
      → (End - total w a.frames ≤ x) ⊎ (x + cell_size w z.cell ≤ P.stack)
  cell_above a (FieldOf k i f) z x room own g e =
      let c = in_object_at world a k i f z g in
      let o = object_cell w world P h ok pl a.script.entries k i f z c in
      let ex : object_place w world P h ok pl o ≡ x = same_Some _ _ (sym o.address_is ∙ e) in
      ⊎_elim (λ r. inl (omega (arith, r, ex))) (λ r. inr (omega (arith, r, ex, o.inside)))
      (off_stack w world P h ok pl a.script.entries k c.object o.lies)
  cell_above a (FieldOfLocals d f) z x room own g e =
      let l = local_cell w world P h ok pl a d f z room own (in_locals_at world a d f z g) in
      let ex : l.address ≡ x = same_Some _ _ (sym l.address_is ∙ e) in
      inl (omega (arith, l.within.above, ex))

  -- bytes that differ only on the stack below R0
  abbrev pub BelowTop : List Frame → (ℕ → ℕ) → (ℕ → ℕ) → Type 0
  BelowTop fs b c = (x : ℕ) → (End - total w fs ≤ x) ⊎ (x < P.stack) → b x ≡ c x

  cells_kept : (a : Config) (gs : List Frame) (b c : ℕ → ℕ) → total w a.frames ≤ stack_bytes w world.notes
      → OwnLocalsAll world.notes a.frames → SameLocals w End a.frames gs → BelowTop a.frames b c → CellsShow w world P (A a.frames) a b
      → CellsShow w world P (A gs) (framed a gs) c
  cells_kept a gs b c room own same agree sh = go
    where
      kept : (p : CellPlace) (z : Field) (v : Neutral) → cell_field world.notes (memory_of world a) p ≡ Some z → a.cells p ≡ Some v
          → cell_address w world P (framed a gs) p z ≡ cell_address w world P a p z
          → CellShows w (A gs) c (cell_address w world P (framed a gs) p z) (cell_size w z.cell) v
      kept p z v g m e =
          let old = sh p z v g m in
          let above = cell_above a p z old.address room own g old.there in
          let same_bytes : little_endian b old.address (cell_size w z.cell) ≡ little_endian c old.address (cell_size w z.cell) =
          little_endian-agree b c old.address (cell_size w z.cell)
          (λ x l r. agree x (⊎_elim (λ q. inl (omega (arith, q, l))) (λ q. inr (omega (arith, q, r))) above)) in
          record {
            address = old.address;
            there = e ∙ old.there;
            shows = subst (ShowsIn w (A gs) (cell_size w z.cell) v) same_bytes
                (shows_in_more w (A a.frames) (A gs) (cell_size w z.cell) v _ (same_extends a.frames gs same) old.shows);
          }

      go : CellsShow w world P (A gs) (framed a gs) c
      go (FieldOf k i f) z v g m = kept (FieldOf k i f) z v g m refl
      go (FieldOfLocals d f) z v g m = kept (FieldOfLocals d f) z v
          (ap (option_and_then (λ (s : Shape). slice_get s.fields f)) (sym (same.locals d)) ∙ g) m (same.address d f)

  -- the bytes of the image aren't on the stack
  image_kept : (fs : List Frame) (b c : ℕ → ℕ) → total w fs ≤ stack_bytes w world.notes → BelowTop fs b c → (q : ℕ) → P.image ≤ q
      → q < P.image + world.image_size → b q ≡ c q
  image_kept fs b c room agree q l m = agree q (⊎_elim (λ r. inl (omega (arith, r, l, room))) (λ r. inr (omega (arith, r, m)))
      (image_off_stack w world P h ok pl))

  pub thunks_kept : (but : Option ℕ) (made : ℕ) (fs : List Frame) (b c : ℕ → ℕ) → total w fs ≤ stack_bytes w world.notes → BelowTop fs b c
      → ThunksShow w world P mapped b made but → ThunksShow w world P mapped c made but
  thunks_kept but made fs b c room agree sh i t g n =
      let s = sh i t g n in
      let u = ok.thunks_inside i t g in
      let w8 = width_le w h in (
        (λ l. s.0 l ∙ ap Some (little_endian-agree b c (P.image + t.place) w
            (λ x p q. image_kept fs b c room agree x (omega (arith, p)) (omega (arith, q, u, w8))))),
        (λ l j m. sym (image_kept fs b c room agree (P.image + (t.place + j)) (omega arith) (omega (arith, m, u))) ∙ s.1 l j m),
      )

  pub code_kept : (fs : List Frame) (b c : ℕ → ℕ) → total w fs ≤ stack_bytes w world.notes → BelowTop fs b c → CodeStands world P mapped b
      → CodeStands world P mapped c
  code_kept fs b c room agree sh j f x g l m =
      let u = ok.code_inside j f g in
      sym (image_kept fs b c room agree (P.image + x) (omega arith) (omega (arith, m, u.1))) ∙ sh j f x g l m

  pub word_at : (regs : List ℕ) (x r : ℕ) → length regs ≡ 8 → x < 2 ^ 64 → ((q : ℕ) → slice_index regs q < 2 ^ 64)
      → slice_index (slice_set regs 0 x) r < 2 ^ 64
  word_at regs x r e l f = ⊎_elim
      (λ z. subst (λ q. slice_index (slice_set regs 0 x) q < 2 ^ 64) (sym z)
      (subst (λ q. q < 2 ^ 64) (sym (get_or-set_same regs 0 x 0 (omega (arith, e)))) l))
      (λ z. subst (λ q. q < 2 ^ 64) (sym (get_or-set_other regs 0 r x 0 z)) (f r))
      (cases_eq r 0)

  -- R0 and the bytes below it change, and the frames and the cells with them, no address being lost
  pub stack_changes : (but : Option ℕ) (a : Config) (s : Concrete) (gs : List Frame) (cs : Cells) (x : ℕ) (b : ℕ → ℕ)
      → total w a.frames ≤ stack_bytes w world.notes → MachineStands w world P mapped but a s → Extends (A a.frames) (A gs)
      → OwnLocalsAll world.notes gs → x ≡ top_of w End gs → BelowTop a.frames s.byte b → ((q : ℕ) → b q < 256)
      → FramesShow w (A gs) b End P gs → CellsShow w world P (A gs) (record a { frames = gs; cells = cs }) b
      → MachineStands w world P mapped but (record a { frames = gs; cells = cs })
      (record s { registers = slice_set s.registers 0 x; byte = b })
  stack_changes but a s gs cs x b room st ext own top agree small frames cells = record {
    eight = length-set s.registers 0 x ∙ st.eight;
    words = λ r. word_at s.registers x r st.eight (omega (arith, top)) st.words;
    small = small;
    registers = λ r p l. subst (Shows w (A gs) (a.registers r)) (sym (get_or-set_other s.registers 0 r x 0 (λ z. omega (arith, z, p))))
        (shows_more w (A a.frames) (A gs) (a.registers r) _ ext (st.registers r p l));
    locals = own;
    top = get_or-set_same s.registers 0 x 0 (omega (arith, st.eight)) ∙ top;
    frames = frames;
    cells = cells;
    thunks = thunks_kept but a.made a.frames s.byte b room agree st.thunks;
    code = code_kept a.frames s.byte b room agree st.code;
    objects = st.objects;
    flags = st.flags;
    gate = st.gate;
    spot = st.spot;
  }

  -- the same where all locals stay
  pub stack_stands : (but : Option ℕ) (a : Config) (s : Concrete) (gs : List Frame) (x : ℕ) (b : ℕ → ℕ)
      → total w a.frames ≤ stack_bytes w world.notes → MachineStands w world P mapped but a s → SameLocals w End a.frames gs
      → OwnLocalsAll world.notes gs → x ≡ top_of w End gs → BelowTop a.frames s.byte b → ((q : ℕ) → b q < 256)
      → FramesShow w (A gs) b End P gs → MachineStands w world P mapped but (framed a gs)
      (record s { registers = slice_set s.registers 0 x; byte = b })
  stack_stands but a s gs x b room st same own top agree small frames =
      stack_changes but a s gs a.cells x b room st (same_extends a.frames gs same) own top agree small frames
      (cells_kept a gs s.byte b room st.locals same agree st.cells)

  -- ---- pushes

  pub top_below : (x : ℕ) (fs : List Frame) (k : ℕ) → x ≡ top_of w End fs → 0 < total w fs → k + total w fs ≤ stack_bytes w world.notes
      → (x + (2 ^ 64 - k)) % 2 ^ 64 ≡ End - (k + total w fs)
  top_below x fs k e p room =
      let s = end_small w world P h ok pl in
      let low = minus-is End (total w fs) p (omega (arith, room)) s in
      omega (arith, e, low, room, s, p)

  -- a push of a value that shows in its slot
  pub push_stands : (but : Option ℕ) (a : Config) (s : Concrete) (f : FunctionFrame) (fs : List Frame) (kind : SlotKind) (v : Neutral)
      (y : ℕ) → slot_bytes w kind + total w (Function f ∷ fs) ≤ stack_bytes w world.notes
      → MachineStands w world P mapped but (framed a (Function f ∷ fs)) s
      → ShowsIn w (A (Function f ∷ fs)) (slot_bytes w kind) v (y % 2 ^ (8 * slot_bytes w kind))
      → MachineStands w world P mapped but (with_items a f (Pushed kind v ∷ f.items) fs)
      (record s {
        registers = slice_set s.registers 0 (End - (slot_bytes w kind + total w (Function f ∷ fs)));
        byte = put s.byte (End - (slot_bytes w kind + total w (Function f ∷ fs))) (slot_bytes w kind) y;
      })
  push_stands but a s f fs kind v y room st sh = stack_stands but (framed a (Function f ∷ fs)) s gs x b
      (omega (arith, room)) st same st.locals top agree (λ q. put-below s.byte x k y q (st.small q)) frames
    where
      k : ℕ
      k = slot_bytes w kind

      T : ℕ
      T = total w (Function f ∷ fs)

      x : ℕ
      x = End - (slot_bytes w kind + total w (Function f ∷ fs))

      b : ℕ → ℕ
      b = put s.byte (End - (slot_bytes w kind + total w (Function f ∷ fs))) (slot_bytes w kind) y

      gs : List Frame
      gs = Function (record f { items = Pushed kind v ∷ f.items }) ∷ fs

      same : SameLocals w End (Function f ∷ fs) (Function (record f { items = Pushed kind v ∷ f.items }) ∷ fs)
      same = record { locals = λ d. refl; address = λ d g. refl }

      pk : 0 < slot_bytes w kind
      pk = slot_positive w kind h

      es : End ≤ 2 ^ 64
      es = end_small w world P h ok pl

      low : minus End (slot_bytes w kind + (height w f.items + (return_cell + total w fs))) ≡ End -
          (slot_bytes w kind + total w (Function f ∷ fs))
      low = minus-is End (slot_bytes w kind + (height w f.items + (return_cell + total w fs))) (omega (arith, pk)) (omega (arith, room)) es

      top : End - (slot_bytes w kind + total w (Function f ∷ fs)) ≡ top_of w End
          (Function (record f { items = Pushed kind v ∷ f.items }) ∷ fs)
      top = sym (let e : minus End (slot_bytes w kind + height w f.items + (return_cell + total w fs)) ≡ minus End
          (slot_bytes w kind + (height w f.items + (return_cell + total w fs))) = ap (minus End) (omega arith) in e ∙ low)

      agree : BelowTop (Function f ∷ fs) s.byte (put s.byte (End - (slot_bytes w kind + total w (Function f ∷ fs))) (slot_bytes w kind) y)
      agree q d = sym (put-apart s.byte (End - (slot_bytes w kind + total w (Function f ∷ fs))) (slot_bytes w kind) y q
          (⊎_elim (λ r. inr (omega (arith, r, room))) (λ r. inl (omega (arith, r, room))) d))

      ext : Extends (A (Function f ∷ fs)) (A (Function (record f { items = Pushed kind v ∷ f.items }) ∷ fs))
      ext = same_extends (Function f ∷ fs) (Function (record f { items = Pushed kind v ∷ f.items }) ∷ fs) same

      old : FramesShow w (A (Function (record f { items = Pushed kind v ∷ f.items }) ∷ fs)) b End P (Function f ∷ fs)
      old = frames_agree w End h es (A gs) P s.byte b (Function f ∷ fs) (omega (arith, room))
          (put_agree s.byte _ _ y _ _ (inl (omega (arith, room))))
          (frames_more w End h es (A (Function f ∷ fs)) (A gs) P s.byte (Function f ∷ fs) ext st.frames)

      slot : ShowsIn w (A (Function (record f { items = Pushed kind v ∷ f.items }) ∷ fs)) (slot_bytes w kind) v
          (little_endian b (minus End (slot_bytes w kind + (height w f.items + (return_cell + total w fs)))) (slot_bytes w kind))
      slot = rw low (subst (ShowsIn w (A gs) (slot_bytes w kind) v) (sym (read_put s.byte _ (slot_bytes w kind) y))
          (shows_in_more w (A (Function f ∷ fs)) (A gs) (slot_bytes w kind) v _ ext sh))

      frames : FramesShow w (A (Function (record f { items = Pushed kind v ∷ f.items }) ∷ fs)) b End P
          (Function (record f { items = Pushed kind v ∷ f.items }) ∷ fs)
      frames = ((slot, old.0), old.1, old.2)

  -- the address of the stack's top, as the machine makes it
  stack_address : (x k : ℕ) (s : Concrete) (j : ℕ) → length s.registers ≡ 8 → (register s 0 + (2 ^ 64 - k)) % 2 ^ 64 ≡ x
      → x + j < 2 ^ (8 * w) → address w (lowered_by s k) 0 j ≡ x + j
  unfolding address sum_at lowered_by with_register
  stack_address x k s j e q l =
      let r : slice_index (slice_set s.registers 0 ((register s 0 + (2 ^ 64 - k)) % 2 ^ 64)) 0 ≡ x =
      get_or-set_same s.registers 0 _ 0 (omega (arith, e)) ∙ q in
      let m = width_word w h in
      rw r (let f : (x + j) % 2 ^ 64 ≡ x + j = mod-eq_of_lt (omega (arith, l, m)) in ap (cut_at w) f ∙ mod-eq_of_lt l)

  -- a store upon the stack
  pub stored_on_top : (s : Concrete) (e : Exception) (k x j n v : ℕ) → length s.registers ≡ 8 → (register s 0 + (2 ^ 64 - k)) % 2 ^ 64 ≡ x
      → x + j < 2 ^ (8 * w) → holds s.objects (x + j) n ≡ true → stored_at w (lowered_by s k) e n 0 j v ≡ Ok
      (record s { registers = slice_set s.registers 0 x; byte = put s.byte (x + j) n v })
  unfolding stored_at stored lowered_by with_register
  stored_on_top s e k x j n v eight low l held =
      rw (stack_address x k s j eight low l) (rw held (ap (λ z. Ok
      (record s { registers = slice_set s.registers 0 z; byte = put s.byte (x + j) n v })) low))

  -- a store past the top of the stack
  pub later_store : (t : Concrete) (e : Exception) (x j n v : ℕ) → register t 0 ≡ x → x + j < 2 ^ (8 * w) → holds t.objects (x + j) n ≡ true
      → stored_at w t e n 0 j v ≡ Ok (record t { byte = put t.byte (x + j) n v })
  unfolding stored_at stored address sum_at
  later_store t e x j n v top l held =
      let m = width_word w h in
      let at : cut_at w ((register t 0 + j) % 2 ^ 64) ≡ x + j = ap (λ z. cut_at w ((z + j) % 2 ^ 64)) top
      ∙ ap (cut_at w) (let f : (x + j) % 2 ^ 64 ≡ x + j = mod-eq_of_lt (omega (arith, l, m)) in f) ∙ mod-eq_of_lt l in
      rw at (rw held refl)

  -- A push: where the neutral machine pushes a value, the machine pushes its number.
  pub pushes : (a : Config) (s : Concrete) (f : FunctionFrame) (fs : List Frame) (kind : SlotKind) (v : Neutral) (y : ℕ)
      → slot_bytes w kind + total w (Function f ∷ fs) ≤ stack_bytes w world.notes
      → MachineStands w world P mapped None (framed a (Function f ∷ fs)) s
      → ShowsIn w (A (Function f ∷ fs)) (slot_bytes w kind) v (y % 2 ^ (8 * slot_bytes w kind))
      → Does (MachineStands w world P mapped None) (pushed (framed a (Function f ∷ fs)) (Function f ∷ fs) (Pushed kind v))
      (machine.pushed w s (slot_bytes w kind) y)
  unfolding machine.pushed
  pushes a s f fs kind v y room st sh =
      let k = slot_bytes w kind in
      let T = total w (Function f ∷ fs) in
      let x = End - (slot_bytes w kind + total w (Function f ∷ fs)) in
      let pk = slot_positive w kind h in
      let low : (register s 0 + (2 ^ 64 - k)) % 2 ^ 64 ≡ x = top_below (register s 0) (Function f ∷ fs) k st.top (omega arith) room in
      let sw = stack_within w world P h ok pl in
      let z : x + 0 ≡ x = omega arith in
      let held : holds s.objects (x + 0) k ≡ true = subst₂ (λ u n. holds u n k ≡ true) (sym st.objects) (sym z)
      (stack_holds w world P h ok pl a.script.entries x k (omega (arith, room)) (omega (arith, room))) in
      let e = stored_on_top s raises.StackFault k x 0 k y st.eight low (omega (arith, sw.below, room, pk)) held in
      let stand = push_stands None a s f fs kind v y room st sh in
      subst (Does (MachineStands w world P mapped None) (pushed (framed a (Function f ∷ fs)) (Function f ∷ fs) (Pushed kind v))) (sym e)
      (subst (λ u. MachineStands w world P mapped None (with_items a f (Pushed kind v ∷ f.items) fs)
      (record s { registers = slice_set s.registers 0 x; byte = put s.byte u k y })) (sym z) stand)

  -- ---- pops

  -- R0 raised past what is on top
  pub top_above : (x : ℕ) (k t : ℕ) → x ≡ minus End (k + t) → 0 < k → k + t ≤ stack_bytes w world.notes → (x + k) % 2 ^ 64 ≡ minus End t
  top_above x k t e p room =
      let s = end_small w world P h ok pl in
      let low = minus-is End (k + t) (omega (arith, p)) (omega (arith, room)) s in
      omega (arith, e, low, room, s, p)

  -- the machine with R0 raised past the top slot
  pub pop_stands : (a : Config) (s : Concrete) (f : FunctionFrame) (fs : List Frame) (kind : SlotKind) (v : Neutral) (is : List StackItem)
      → total w (Function (record f { items = Pushed kind v ∷ is }) ∷ fs) ≤ stack_bytes w world.notes
      → MachineStands w world P mapped None (with_items a f (Pushed kind v ∷ is) fs) s
      → MachineStands w world P mapped None (with_items a f is fs) (raised_by s (slot_bytes w kind))
  unfolding raised_by with_register
  pop_stands a s f fs kind v is room st =
      let k = slot_bytes w kind in
      let gs = Function (record f { items = is }) ∷ fs in
      let low = top_above (register s 0) k (total w gs) (st.top
      ∙ ap (minus End) (let z : slot_bytes w kind + height w is + (return_cell + total w fs) ≡ slot_bytes w kind +
      (height w is + (return_cell + total w fs)) = omega arith in z)) (slot_positive w kind h) (omega (arith, room)) in
      stack_stands None (with_items a f (Pushed kind v ∷ is) fs) s gs _ s.byte room st
      (record { locals = λ d. refl; address = λ d g. refl }) st.locals low (λ q d. refl) st.small
      (st.frames.0.1, st.frames.1, st.frames.2)

  -- the machine reads the top slot
  pub pop_reads : (a : Config) (s : Concrete) (e : Exception) (f : FunctionFrame) (fs : List Frame) (kind : SlotKind) (v : Neutral)
      (is : List StackItem) → total w (Function (record f { items = Pushed kind v ∷ is }) ∷ fs) ≤ stack_bytes w world.notes
      → MachineStands w world P mapped None (with_items a f (Pushed kind v ∷ is) fs) s
      → (x : ℕ) × (loaded_at w s e (slot_bytes w kind) 0 0 ≡ Ok x) × (x < 2 ^ (8 * slot_bytes w kind))
      × ShowsIn w (A (Function (record f { items = Pushed kind v ∷ is }) ∷ fs)) (slot_bytes w kind) v x
  unfolding loaded_at loaded address sum_at
  pop_reads a s e f fs kind v is room st =
      let k = slot_bytes w kind in
      let n = slot_bytes w kind + (height w is + (return_cell + total w fs)) in
      let pk = slot_positive w kind h in
      let es = end_small w world P h ok pl in
      let sw = stack_within w world P h ok pl in
      let low : minus End n ≡ End - n = minus-is End n (omega (arith, pk)) (omega (arith, room)) es in
      let top : register s 0 ≡ minus End n = st.top ∙ ap (minus End)
      (let z : slot_bytes w kind + height w is + (return_cell + total w fs) ≡ slot_bytes w kind +
      (height w is + (return_cell + total w fs)) = omega arith in z) in
      let at : cut_at w ((register s 0 + 0) % 2 ^ 64) ≡ minus End n =
      (let z : (register s 0 + 0) % 2 ^ 64 ≡ minus End n = omega (arith, top, low, pk, es, room) in ap (cut_at w) z)
      ∙ mod-eq_of_lt (omega (arith, low, sw.below, room, pk)) in
      let held : holds s.objects (minus End n) k ≡ true = subst (λ u. holds u (minus End n) k ≡ true) (sym st.objects)
      (stack_holds w world P h ok pl a.script.entries (minus End n) k (omega (arith, low, room)) (omega (arith, low, room))) in (
        little_endian s.byte (minus End n) k,
        rw at (rw held refl),
        subst (λ z. little_endian s.byte (minus End n) k < z) (powers k) (little_endian-below s.byte (minus End n) k st.small),
        st.frames.0.0,
      )

  -- ---- calls and returns

  -- a function frame with no items has no locals
  pub call_same : (g : FunctionFrame) (fs : List Frame) → SameLocals w End fs (Function (record g { items = [] }) ∷ fs)
  call_same g fs = record {
    locals = λ d. by_locals d (nat_eq d (depth fs)) refl;
    address = λ d f. by_address d f (nat_eq d (depth fs)) refl;
  }
    where
      by_locals : (d : ℕ) (t : Bool) → nat_eq d (depth fs) ≡ t → (if t then None else locals_at fs d) ≡ locals_at fs d
      by_locals d true e = sym (no_locals fs d (let q = eqb-true d (depth fs) e in omega (arith, q)))
      by_locals d false e = refl

      by_address : (d f : ℕ) (t : Bool) → nat_eq d (depth fs) ≡ t
          → (if t then None else local_address w End fs d f) ≡ local_address w End fs d f
      by_address d f true e = sym (no_address w End fs d f (let q = eqb-true d (depth fs) e in omega (arith, q)))
      by_address d f false e = refl

  -- A call: the machine stores the return address, eight zero bytes above it, and stands for the configuration within the function.
  pub call_stands : (a : Config) (s : Concrete) (f : FunctionFrame) (fs : List Frame) (func ret : ℕ) (saved : ℕ → Neutral)
      → return_cell + total w (Function f ∷ fs) ≤ stack_bytes w world.notes → ret < world.image_size
      → MachineStands w world P mapped None (framed a (Function f ∷ fs)) s
      → MachineStands w world P mapped None (framed a (Function
      (record { func = func; ret = ret; saved = saved; items = [] }) ∷ Function f ∷ fs))
      (record s {
        registers = slice_set s.registers 0 (End - (return_cell + total w (Function f ∷ fs)));
        byte = put (put s.byte (End - (return_cell + total w (Function f ∷ fs))) 8 (P.image + ret))
            (End - (return_cell + total w (Function f ∷ fs)) + 8) 8 0;
      })
  call_stands a s f fs func ret saved room inside st =
      let T = total w (Function f ∷ fs) in
      let x = End - (return_cell + total w (Function f ∷ fs)) in
      let es = end_small w world P h ok pl in
      let g : FunctionFrame = record { func = func; ret = ret; saved = saved; items = [] } in
      let gs = Function g ∷ Function f ∷ fs in
      let b1 = put s.byte x 8 (P.image + ret) in
      let b2 = put b1 (x + 8) 8 0 in
      let low : minus End (return_cell + T) ≡ x = minus-is End (return_cell + T) (omega arith) (omega (arith, room)) es in
      let agree : BelowTop (Function f ∷ fs) s.byte b2 = λ q d. sym
      (put-apart b1 (x + 8) 8 0 q (⊎_elim (λ r. inr (omega (arith, r, room))) (λ r. inl (omega (arith, r, room))) d)
      ∙ put-apart s.byte x 8 (P.image + ret) q (⊎_elim (λ r. inr (omega (arith, r, room))) (λ r. inl (omega (arith, r, room))) d)) in
      let ext = same_extends (Function f ∷ fs) gs (call_same g (Function f ∷ fs)) in
      let old : FramesShow w (A gs) b2 End P (Function f ∷ fs) =
      frames_agree w End h es (A gs) P s.byte b2 (Function f ∷ fs) (omega (arith, room)) (record { by = λ q l m. agree q (inl l) })
      (frames_more w End h es (A (Function f ∷ fs)) (A gs) P s.byte (Function f ∷ fs) ext st.frames) in
      let iw = image_within w world P h ok pl in
      let ww = width_word w h in
      let ra : little_endian b2 x 8 ≡ P.image + ret = little_endian-apart b1 (x + 8) 8 0 x 8 (inl (omega arith))
      ∙ read_put s.byte x 8 (P.image + ret) ∙ mod-eq_of_lt (omega (arith, inside, iw.below, ww)) in
      let zz : little_endian b2 (x + 8) 8 ≡ 0 = read_put b1 (x + 8) 8 0 in
      let ret_shows : ReturnShows b2 (minus End (return_cell + T)) (P.image + ret) = rw low (record { address = ra; zeros = zz }) in
      stack_stands None (framed a (Function f ∷ fs)) s gs x b2 (omega (arith, room)) st (call_same g (Function f ∷ fs)) (tt, st.locals)
      (sym (ap (minus End) (let z : 0 + (return_cell + T) ≡ return_cell + T = omega arith in z) ∙ low)) agree
      (λ q. put-below b1 (x + 8) 8 0 q (put-below s.byte x 8 (P.image + ret) q (st.small q)))
      (tt, ret_shows, old)

  -- A return: R0 rises past the return cell, and the machine stands for the configuration without the frame.
  pub return_stands : (a : Config) (s : Concrete) (g : FunctionFrame) (fs : List Frame)
      → total w (Function (record g { items = [] }) ∷ fs) ≤ stack_bytes w world.notes
      → MachineStands w world P mapped None (framed a (Function (record g { items = [] }) ∷ fs)) s
      → MachineStands w world P mapped None (framed a fs) (raised_by s 16)
  unfolding raised_by with_register
  return_stands a s g fs room st =
      let same = call_same g fs in
      let back : SameLocals w End (Function (record g { items = [] }) ∷ fs) fs =
      record { locals = λ d. sym (same.locals d); address = λ d f. sym (same.address d f) } in
      let low = top_above (register s 0) return_cell (total w fs)
      (st.top ∙ ap (minus End) (let z : 0 + (return_cell + total w fs) ≡ return_cell + total w fs = omega arith in z)) (omega arith)
      (omega (arith, room)) in
      let es = end_small w world P h ok pl in
      stack_stands None (framed a (Function (record g { items = [] }) ∷ fs)) s fs _ s.byte room st back st.locals.1 low
      (λ q d. refl) st.small
      (frames_more w End h es _ (A fs) P s.byte fs (same_extends (Function (record g { items = [] }) ∷ fs) fs back) st.frames.2)
