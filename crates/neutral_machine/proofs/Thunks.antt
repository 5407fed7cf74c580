-- The host makes a thunk: the machine stands with one more.
use Rattle.neutral_machine.proofs.Common.{◌≡◌, ℕ, suc, ◌+◌, ◌-◌, ◌*◌, ◌%◌, ◌^◌, ◌<◌, ◌≤◌, ◌⊎◌, Bool, true, false, nat_eq, Some, refl, sym}
use Rattle.neutral_machine.proofs.Common.{ap, ◌∙◌, subst, arith, inl, inr, ⊎_elim, slice_get, eqb-true, eqb-false, same_Some, little_endian}
use Rattle.neutral_machine.proofs.Common.{put, little_endian-apart, put-below, IsWidth, cell_size, FnNote, Thunk, Field, Neutral, Addresses}
use Rattle.neutral_machine.proofs.Common.{ShowsIn, CellPlace, World, Placement, stack_end, addresses, total, memory_of, cell_field}
use Rattle.neutral_machine.proofs.Common.{cell_address, CellShows, ThunkShows}
use Rattle.host_model.specs.Placements.{entry_address}
use Rattle.neutral_machine.specs.Laws.{ThunkMade}
use Rattle.neutral_machine.proofs.{Numbers.cut_same, Placed.Off, Placed.image_off_stack, Agree.put_agree, Agree.frames_agree}
use Rattle.neutral_machine.proofs.{Agree.read_put, Bounds.bounded, Cells.end_small, Cells.cell_lies, Stored.width_le, Stored.thunk_after}
use Rattle.neutral_machine.proofs.Stored.{code_after}

same_below : (w x : ℕ) → IsWidth w → x < 2 ^ (8 * w) → x ≡ x % 2 ^ (8 * w)
same_below w x h l = sym (cut_same w x x h refl l)

-- how many thunks are made doesn't matter to another one
one_more : (w : ℕ) (world : World) (P : Placement) (mapped b : ℕ → ℕ) (made i : ℕ) (t : Thunk) → nat_eq i made ≡ false
    → ThunkShows w world P mapped b made i t → ThunkShows w world P mapped b (suc made) i t
one_more w world P mapped b made i t n s = let d = eqb-false i made n in ((λ l. s.0 (omega (arith, l, d))), (λ l. s.1 (omega (arith, l))))

pub thunk_made : ThunkMade
thunk_made w world P mapped a s t e h pl ok st room g there = record {
  eight = st.eight;
  words = st.words;
  small = λ q. put-below s.byte x w e q (st.small q);
  registers = st.registers;
  locals = st.locals;
  top = st.top;
  frames = frames_agree w (stack_end w world.notes P) h (end_small w world P h ok pl) A P s.byte b a.frames (omega (arith, room))
      (put_agree s.byte x w e _ _ off_frames) st.frames;
  cells = cells;
  thunks = λ i u k n. by_thunk i u k (nat_eq i a.made) refl;
  code = λ j f q k l m. code_after w world P mapped h ok pl s.byte j x w e f k (off_code j f k) q l m ∙ st.code j f q k l m;
  objects = st.objects;
  flags = st.flags;
  gate = st.gate;
  spot = st.spot;
}
  where
    A : Addresses
    A = addresses w world.notes P a.frames

    x : ℕ
    x = P.image + t.place

    b : ℕ → ℕ
    b = put s.byte x w e

    eight : w ≤ 8
    eight = width_le w h

    inside : t.place + 8 ≤ world.image_size
    inside = ok.thunks_inside a.made t g

    off_frames : (x + w ≤ stack_end w world.notes P - total w a.frames) ⊎ (stack_end w world.notes P ≤ x)
    off_frames = ⊎_elim (λ r. inr (omega (arith, r))) (λ r. inl (omega (arith, r, inside, eight, room))) (image_off_stack w world P h ok pl)

    off_code : (j : ℕ) (f : FnNote) → slice_get world.notes.function j ≡ Some f
        → Off w world P h ok pl (P.image + f.place) (f.end - f.place) x w
    off_code j f k = let c = ok.code_inside j f k in ⊎_elim (λ r. inl (omega (arith, r, c.0))) (λ r. inr (omega (arith, r, eight)))
        (ok.code_thunks j a.made f t k g)

    cells : (p : CellPlace) (z : Field) (v : Neutral) → cell_field world.notes (memory_of world a) p ≡ Some z → a.cells p ≡ Some v
        → CellShows w A b (cell_address w world P a p z) (cell_size w z.cell) v
    cells p z v k m =
        let old = st.cells p z v k m in
        let lies = cell_lies w world P h ok pl a p z room st.locals k in
        let at : lies.address ≡ old.address = same_Some _ _ (sym lies.there ∙ old.there) in
        let off = lies.off_thunks a.made t g in
        record {
          address = old.address;
          there = old.there;
          shows = subst (ShowsIn w A (cell_size w z.cell) v) (sym
              (little_endian-apart s.byte x w e old.address (cell_size w z.cell)
              (⊎_elim (λ r. inr (omega (arith, r, at, eight))) (λ r. inl (omega (arith, r, at))) off))) old.shows;
        }

    stored : e ≡ little_endian b x w
    stored = same_below w e h ((bounded w world P h ok pl a.frames room st.locals).entry t.function e there) ∙ sym (read_put s.byte x w e)

    by_thunk : (i : ℕ) (u : Thunk) → slice_get world.notes.thunk i ≡ Some u → (q : Bool) → nat_eq i a.made ≡ q
        → ThunkShows w world P mapped b (suc a.made) i u
    by_thunk i u k true q =
        let same : i ≡ a.made = eqb-true i a.made q in
        let tu : t ≡ u = same_Some _ _ (sym g ∙ ap (slice_get world.notes.thunk) (sym same) ∙ k) in (
          (λ l. subst (λ (v : Thunk). entry_address world.notes P v.function ≡ Some (little_endian b (P.image + v.place) w)) tu
              (there ∙ ap Some stored)),
          (λ l j m. absurd (omega (arith, l, same))),
        )
    by_thunk i u k false q =
        let off = ok.thunks_apart i a.made u t k g (eqb-false i a.made q) in
        let away : Off w world P h ok pl (P.image + u.place) 8 x w =
        ⊎_elim (λ r. inl (omega (arith, r))) (λ r. inr (omega (arith, r, eight))) off in
        one_more w world P mapped b a.made i u q (thunk_after w world P mapped h ok pl s.byte a.made i x w e u away
        (st.thunks i u k (λ some. eqb-false i a.made q (sym (same_Some _ _ some)))))
