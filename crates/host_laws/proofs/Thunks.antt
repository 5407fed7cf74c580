-- BREAK 5: a thunk cell that is served holds its thunk's address, and the machine stands for the configuration with one thunk
-- more made.
use Rattle.host_laws.proofs.Common.{◌≡◌, ℕ, zero, suc, ◌+◌, ◌*◌, ◌%◌, ◌^◌, ◌<◌, ◌≤◌, ◌⊎◌, true, if◌then◌else◌, length, Some, None, refl}
use Rattle.host_laws.proofs.Common.{sym, ap, ap₂, ◌∙◌, subst, arith, inl, inr, ⊎_elim, slice_get, mod-eq_of_lt, option_map_or, cases_eq}
use Rattle.host_laws.proofs.Common.{cases_lt, same_Some, IsWidth, little_endian, put, little_endian-apart, put-apart, put-below, cell_size}
use Rattle.host_laws.proofs.Common.{Concrete, stored, holds, Placement, stack_bytes, IsPlacement, stack_end, Thunk, Config, addresses}
use Rattle.host_laws.proofs.Common.{total, ThunkShows, MachineStands, minus, ShowsIn, World, WorldFits, frames_agree, read_put, cell_lies}
use Rattle.host_laws.proofs.Common.{end_small, width_le, width_word}
use Rattle.ebc_width.specs.Width.{extended_at}
use Rattle.host_model.specs.{HostPlans.NotMapped, HostPlans.NamesNone, HostPlans.Names, HostSteps.thunk_place, HostSteps.entered_at}
use Rattle.host_model.specs.{HostSteps.thunk_view, Placements.thunk_at}
use Rattle.neutral_machine.proofs.Placed.{image_holds, image_within, image_off_stack}
use Rattle.host_laws.proofs.Things.{named}
use Rattle.host_laws.specs.ThunkLoaded.{ThunkLoaded}

module _ (w : ℕ) (world : World) (P : Placement) (mapped : ℕ → ℕ) (h : IsWidth w) (ok : WorldFits world) (pl : IsPlacement w world P) where
  -- the bytes of a cell that isn't made are those loaded
  loaded_bytes : (b m : ℕ → ℕ) (at : ℕ) (base : ℕ) (k : ℕ) → ((j : ℕ) → j < k → b (base + (at + j)) ≡ m (at + j))
      → little_endian b (base + at) k ≡ little_endian m at k
  unfolding little_endian
  loaded_bytes b m at base zero f = refl
  loaded_bytes b m at base (suc k) f =
      let e : base + at ≡ base + (at + 0) = omega arith in
      let g : at + 0 ≡ at = omega arith in
      let s : base + at + 1 ≡ base + (at + 1) = omega arith in
      ap₂ (λ x y. x + 256 * y) (ap b e ∙ f 0 (omega arith) ∙ ap m g)
      (ap (λ y. little_endian b y k) s ∙ loaded_bytes b m (at + 1) base k
      (λ j l. let u : base + (at + 1 + j) ≡ base + (at + suc j) = omega arith in let v : at + suc j ≡ at + 1 + j = omega arith in ap b u
      ∙ f (suc j) (omega (arith, l)) ∙ ap m v))

  -- the host sees the function of the next thunk cell
  pub names_stand : (a : Config) (s : Concrete) (i : ℕ) (t : Thunk) → slice_get world.notes.thunk i ≡ Some t → a.made ≤ i
      → ThunkLoaded world mapped t → MachineStands w world P mapped None a s
      → thunk_view world P s (P.image + t.place) ≡ Names t.function
  unfolding thunk_view
  names_stand a s i t g l n st =
      let bytes = (st.thunks i t g (λ e. absurd (cc))).1 in
      let inside = ok.thunks_inside i t g in
      let held : holds s.objects (P.image + t.place) 8 ≡ true = ap (λ y. holds y (P.image + t.place) 8) st.objects
      ∙ image_holds w world P h ok pl a.script.entries (P.image + t.place) 8 (omega arith) (omega (arith, inside)) in
      let x = little_endian s.byte (P.image + t.place) 4 in
      let same : x ≡ little_endian mapped t.place 4 = loaded_bytes s.byte mapped t.place P.image 4 (λ j m. bytes l j (omega (arith, m))) in
      let iw = image_within w world P h ok pl in
      let ww = width_word w h in
      let place : thunk_place P (P.image + t.place) x ≡ n.note.place =
      by_sum (extended_at 4 x) P.image t.place (omega (arith, iw.below, ww, inside)) ∙ n.names x same in
      ap (λ b. if b then option_map_or Names (entered_at world.notes (thunk_place P (P.image + t.place) x)) NamesNone else NotMapped) held
      ∙ ap (λ y. option_map_or Names (entered_at world.notes y) NamesNone) place
      ∙ ap (λ y. option_map_or Names y NamesNone) n.found
    where
      by_sum : (x base at : ℕ) → base < 2 ^ 64 → minus (x + (base + at) + 4) base ≡ (x + at + 4) % 2 ^ 64
      by_sum x base at l = omega (arith, l)

  -- the cell is served
  pub thunk_stands : (a : Config) (s : Concrete) (t : Thunk) → slice_get world.notes.thunk a.made ≡ Some t
      → t.function < length world.notes.function → total w a.frames ≤ stack_bytes w world.notes → MachineStands w world P mapped None a s
      → MachineStands w world P mapped None (record a { made = a.made + 1 })
      (option_map_or (λ u. u) (stored s (P.image + t.place) w (thunk_at world.notes P t.function)) s)
  unfolding stored
  thunk_stands a s t g few room st =
      let x = P.image + t.place in
      let y = thunk_at world.notes P t.function in
      let b = put s.byte x w y in
      let w8 = width_le w h in
      let inside = ok.thunks_inside a.made t g in
      let iw = image_within w world P h ok pl in
      let held : holds s.objects x w ≡ true = ap (λ q. holds q x w) st.objects
      ∙ image_holds w world P h ok pl a.script.entries x w (omega arith) (omega (arith, inside, w8)) in
      let N = named w world P h ok pl a.script.entries a.frames in
      let small : y < 2 ^ (8 * w) = let ar = N.area in omega (arith, few, ar) in
      let spelled : little_endian b x w ≡ y = read_put s.byte x w y ∙ mod-eq_of_lt small in
      let off_stack : (x + w ≤ P.stack) ⊎ (P.stack + stack_bytes w world.notes ≤ x) =
      ⊎_elim (λ q. inr (omega (arith, q))) (λ q. inl (omega (arith, q, inside, w8))) (image_off_stack w world P h ok pl) in
      subst (λ (u : Concrete). MachineStands w world P mapped None (record a { made = a.made + 1 }) u)
      (sym (ap (λ q. option_map_or (λ u. u) (if q then Some (record s { byte = b }) else None) s) held))
      (record {
        eight = st.eight;
        words = st.words;
        small = λ q. put-below s.byte x w y q (st.small q);
        registers = st.registers;
        locals = st.locals;
        top = st.top;
        frames = frames_agree w (stack_end w world.notes P) h (end_small w world P h ok pl)
            (addresses w world.notes P a.frames) P s.byte b a.frames (omega (arith, room))
            (record {
              by = λ q l m. sym (put-apart s.byte x w y q
                  (⊎_elim (λ p. inr (omega (arith, p, l, room))) (λ p. inl (omega (arith, p, m))) off_stack));
            }) st.frames;
        cells = λ p z v k m.
            let old = st.cells p z v k m in
            let lies = cell_lies w world P h ok pl a p z room st.locals k in
            let same : lies.address ≡ old.address = same_Some _ _ (sym lies.there ∙ old.there) in
            record {
              address = old.address;
              there = old.there;
              shows = subst (ShowsIn w (addresses w world.notes P a.frames) (cell_size w z.cell) v)
                  (sym (little_endian-apart s.byte x w y old.address (cell_size w z.cell)
                  (⊎_elim (λ q. inr (omega (arith, q, same, w8))) (λ q. inl (omega (arith, q, same)))
                  (lies.off_thunks a.made t g)))) old.shows;
            };
        thunks = λ i u k n. served i u k (st.thunks i u k n) spelled;
        code = λ j f q k l m.
            let off = ok.code_thunks j a.made f t k g in
            put-apart s.byte x w y (P.image + q) (⊎_elim (λ r. inl (omega (arith, r, m))) (λ r. inr (omega (arith, r, l, w8))) off)
            ∙ st.code j f q k l m;
        objects = st.objects;
        flags = st.flags;
        gate = st.gate;
        spot = st.spot;
      })
    where
      served : (i : ℕ) (u : Thunk) → slice_get world.notes.thunk i ≡ Some u → ThunkShows w world P mapped s.byte a.made i u
          → little_endian (put s.byte (P.image + t.place) w (thunk_at world.notes P t.function))
          (P.image + t.place) w ≡ thunk_at world.notes P t.function
          → ThunkShows w world P mapped (put s.byte (P.image + t.place) w (thunk_at world.notes P t.function)) (a.made + 1) i u
      served i u k sh spelled = ⊎_elim this other (cases_eq i a.made)
        where
          w8 : w ≤ 8
          w8 = width_le w h

          this : i ≡ a.made → ThunkShows w world P mapped (put s.byte (P.image + t.place) w (thunk_at world.notes P t.function))
              (a.made + 1) i u
          this e =
              let ut : t ≡ u = same_Some t u (sym g ∙ ap (slice_get world.notes.thunk) (sym e) ∙ k) in
              subst (λ (v : Thunk). ThunkShows w world P mapped (put s.byte (P.image + t.place) w (thunk_at world.notes P t.function))
              (a.made + 1) i v) ut (
                (λ l. (named w world P h ok pl a.script.entries a.frames).entries t.function few ∙ ap Some (sym spelled)),
                (λ l j m. absurd (omega (arith, l, e))),
              )

          other : (i ≡ a.made → ⊥) → ThunkShows w world P mapped (put s.byte (P.image + t.place) w (thunk_at world.notes P t.function))
              (a.made + 1) i u
          other n =
              let apart = ok.thunks_apart i a.made u t k g (λ e. n e) in
              let y = thunk_at world.notes P t.function in (
                (λ l. sh.0 (lower i a.made l n) ∙ ap Some (sym (little_endian-apart s.byte (P.image + t.place) w y (P.image + u.place) w
                    (⊎_elim (λ r. inl (omega (arith, r, w8))) (λ r. inr (omega (arith, r, w8))) apart)))),
                (λ l j m. put-apart s.byte (P.image + t.place) w y (P.image + (u.place + j))
                    (⊎_elim (λ r. inl (omega (arith, r, m))) (λ r. inr (omega (arith, r, w8))) apart) ∙ sh.1 (omega (arith, l)) j m),
              )
            where
              lower : (i m : ℕ) → i < m + 1 → (i ≡ m → ⊥) → i < m
              lower i m l n = ⊎_elim (λ q. q) (λ q. absurd (n (omega (arith, q, l)))) (cases_lt i m)
