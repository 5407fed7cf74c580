-- A store to a cell: the machine stands for the configuration again.
use Rattle.neutral_machine.proofs.Common.{◌≡◌, ℕ, ◌+◌, ◌-◌, ◌*◌, ◌%◌, ◌^◌, ◌<◌, ◌≤◌, Bool, true, false, if◌then◌else◌, Option, Some, refl}
use Rattle.neutral_machine.proofs.Common.{sym, ap, ap₂, ◌∙◌, subst, subst₂, arith, inl, inr, ⊎_elim, slice_get, same_Some, little_endian}
use Rattle.neutral_machine.proofs.Common.{put, little_endian-apart, put-apart, put-below, IsWidth, by_width, cell_size, Concrete, FnNote}
use Rattle.neutral_machine.proofs.Common.{Thunk, Field, Neutral, Addresses, ShowsIn, CellPlace, FieldOf, FieldOfLocals, same_cell_place}
use Rattle.neutral_machine.proofs.Common.{Config, World, Placement, IsPlacement, stack_bytes, stack_end, addresses, total, memory_of}
use Rattle.neutral_machine.proofs.Common.{cell_field, with_cell, FramesShow, OwnLocalsAll, cell_address, CellShows, ThunkShows}
use Rattle.neutral_machine.proofs.Common.{MachineStands, WorldFits}
use Rattle.neutral_machine.proofs.Cells.{end_small, in_object_at, object_cell, object_place, in_locals_at, CellLies, cell_lies, cells_off}
use Rattle.neutral_machine.proofs.{Placed.Off, Placed.off_stack, Agree.put_agree, Agree.frames_agree, Agree.read_put, Locals.fits_at}
use Rattle.neutral_machine.proofs.{Locals.locals_fit, Locals.frames_stored, CellPairs.one_place}

pub width_le : (w : ℕ) → IsWidth w → w ≤ 8
width_le w h = by_width (λ v. v ≤ 8) w h (omega arith) (omega arith)

module _ (w : ℕ) (world : World) (P : Placement) (mapped : ℕ → ℕ) (h : IsWidth w) (ok : WorldFits world) (pl : IsPlacement w world P) where
  -- what a store to a cell leaves of the frames
  frames_after : (a : Config) (b : ℕ → ℕ) (p : CellPlace) (z : Field) (x y : ℕ) → total w a.frames ≤ stack_bytes w world.notes
      → OwnLocalsAll world.notes a.frames → cell_field world.notes (memory_of world a) p ≡ Some z → cell_address w world P a p z ≡ Some x
      → FramesShow w (addresses w world.notes P a.frames) b (stack_end w world.notes P) P a.frames
      → FramesShow w (addresses w world.notes P a.frames) (put b x (cell_size w z.cell) y) (stack_end w world.notes P) P a.frames
  frames_after a b (FieldOf k i f) z x y room own g e sh =
      let c = in_object_at world a k i f z g in
      let o = object_cell w world P h ok pl a.script.entries k i f z c in
      let ex : object_place w world P h ok pl o ≡ x = same_Some _ _ (sym o.address_is ∙ e) in
      let off = off_stack w world P h ok pl a.script.entries k c.object o.lies in
      frames_agree w (stack_end w world.notes P) h (end_small w world P h ok pl) (addresses w world.notes P a.frames) P b _ a.frames
      (omega (arith, room))
      (put_agree b x (cell_size w z.cell) y _ _ (⊎_elim (λ r. inr (omega (arith, r, ex)))
      (λ r. inl (omega (arith, r, ex, o.inside, room))) off)) sh
  frames_after a b (FieldOfLocals d f) z x y room own g e sh =
      let c = in_locals_at world a d f z g in
      frames_stored w (stack_end w world.notes P) h (end_small w world P h ok pl)
      (addresses w world.notes P a.frames) P b a.frames d c.shape f x y z (omega (arith, room)) c.there
      (fits_at w c.shape h (locals_fit world a.frames d c.shape ok own c.there)) e c.get sh

  pub thunk_after : (b : ℕ → ℕ) (made i x k y : ℕ) (t : Thunk) → Off w world P h ok pl (P.image + t.place) 8 x k
      → ThunkShows w world P mapped b made i t → ThunkShows w world P mapped (put b x k y) made i t
  thunk_after b made i x k y t off s = (
    (λ l. s.0 l ∙ ap Some (sym (little_endian-apart b x k y (P.image + t.place) w
        (⊎_elim (λ r. inl (omega (arith, r, width_le w h))) (λ r. inr r) off)))),
    (λ l j m. put-apart b x k y (P.image + (t.place + j)) (⊎_elim (λ r. inl (omega (arith, r, m))) (λ r. inr (omega (arith, r))) off)
        ∙ s.1 l j m),
  )

  pub code_after : (b : ℕ → ℕ) (j x k y : ℕ) (f : FnNote) → slice_get world.notes.function j ≡ Some f
      → Off w world P h ok pl (P.image + f.place) (f.end - f.place) x k → (q : ℕ) → f.place ≤ q → q < f.end
      → put b x k y (P.image + q) ≡ b (P.image + q)
  code_after b j x k y f g off q l m = put-apart b x k y (P.image + q)
      (⊎_elim (λ r. inl (omega (arith, r, l, m))) (λ r. inr (omega (arith, r, l))) off)

  -- a store to a cell of a value that shows
  pub stored_stands : (but : Option ℕ) (a : Config) (s : Concrete) (p : CellPlace) (z : Field) (v : Neutral) (x y : ℕ)
      → total w a.frames ≤ stack_bytes w world.notes → MachineStands w world P mapped but a s
      → cell_field world.notes (memory_of world a) p ≡ Some z → cell_address w world P a p z ≡ Some x
      → ShowsIn w (addresses w world.notes P a.frames) (cell_size w z.cell) v (y % 2 ^ (8 * cell_size w z.cell))
      → MachineStands w world P mapped but (record a { cells = with_cell a.cells p v })
      (record s { byte = put s.byte x (cell_size w z.cell) y })
  stored_stands but a s p z v x y room st g e sh = record {
    eight = st.eight;
    words = st.words;
    small = λ q. put-below s.byte x (cell_size w z.cell) y q (st.small q);
    registers = st.registers;
    locals = st.locals;
    top = st.top;
    frames = frames_after a s.byte p z x y room st.locals g e st.frames;
    cells = λ q o u k m. by_place q o u k (same_cell_place p q) refl m;
    thunks = λ i t k n. thunk_after s.byte a.made i x (cell_size w z.cell) y t
        (subst (λ r. Off w world P h ok pl (P.image + t.place) 8 r (cell_size w z.cell)) at (lies.off_thunks i t k)) (st.thunks i t k n);
    code = λ j f q k l m. code_after s.byte j x (cell_size w z.cell) y f k
        (subst (λ r. Off w world P h ok pl (P.image + f.place) (f.end - f.place) r (cell_size w z.cell)) at (lies.off_codes j f k)) q l m
        ∙ st.code j f q k l m;
    objects = st.objects;
    flags = st.flags;
    gate = st.gate;
    spot = st.spot;
  }
    where
      A : Addresses
      A = addresses w world.notes P a.frames

      lies : CellLies w world P h ok pl a p z
      lies = cell_lies w world P h ok pl a p z room st.locals g

      at : lies.address ≡ x
      at = same_Some _ _ (sym lies.there ∙ e)

      b : ℕ → ℕ
      b = put s.byte x (cell_size w z.cell) y

      by_place : (q : CellPlace) (o : Field) (u : Neutral) → cell_field world.notes (memory_of world a) q ≡ Some o → (t : Bool)
          → same_cell_place p q ≡ t → (if t then Some v else a.cells q) ≡ Some u
          → CellShows w A b (cell_address w world P a q o) (cell_size w o.cell) u
      by_place q o u k true t m =
          let pq : p ≡ q = one_place p q t in
          let zo : z ≡ o = same_Some _ _ (sym g ∙ ap (cell_field world.notes (memory_of world a)) pq ∙ k) in
          let there : cell_address w world P a q o ≡ Some x = ap₂ (cell_address w world P a) (sym pq) (sym zo) ∙ e in
          let vu : v ≡ u = same_Some _ _ m in
          record {
            address = x;
            there = there;
            shows = subst₂ (λ (f : Field) n. ShowsIn w A (cell_size w f.cell) n (little_endian b x (cell_size w f.cell))) zo vu
                (subst (ShowsIn w A (cell_size w z.cell) v) (sym (read_put s.byte x (cell_size w z.cell) y)) sh);
          }
      by_place q o u k false t m =
          let old = st.cells q o u k m in
          let off = cells_off w world P h ok pl a p q z o x old.address room st.locals t g k e old.there in
          record {
            address = old.address;
            there = old.there;
            shows = subst (ShowsIn w A (cell_size w o.cell) u) (sym
                (little_endian-apart s.byte x (cell_size w z.cell) y old.address (cell_size w o.cell) (⊎_elim inr inl off))) old.shows;
          }
