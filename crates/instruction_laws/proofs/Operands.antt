-- Operands: their values, what is written to them, and where control goes, on both sides.
use Rattle.instruction_laws.proofs.Common.{◌≡◌, ℕ, zero, suc, ◌+◌, ◌-◌, ◌*◌, ◌%◌, ◌^◌, ◌<◌, ◌≤◌, Bool, true, false, if◌then◌else◌, nat_eq}
use Rattle.instruction_laws.proofs.Common.{nat_lt, List, [], ◌∷◌, length, Option, Some, None, Result, Ok, Err, refl, sym, ap, ◌∙◌, subst}
use Rattle.instruction_laws.proofs.Common.{subst₂, arith, ⊎_elim, slice_set, option_map, mod-eq_of_lt, get_or-set_same, eqb-true, eqb-false}
use Rattle.instruction_laws.proofs.Common.{eq-eqb, ltb-true, IsWidth, wrap64, linear_at-wrap64, wrap64-below, pair_of, Index, Extra}
use Rattle.instruction_laws.proofs.Common.{Nothing, Imm, Idx, index_offset, optional_offset, extra_offset, sum_at, address, loaded_at}
use Rattle.instruction_laws.proofs.Common.{stored_at, Concrete, register, with_register, at_ip, start_at, Exception, Place, Neutral, Shows}
use Rattle.instruction_laws.proofs.Common.{FieldOfLocals, word, minus, FunctionFrame, Frame, Function, Host, Config, depth, with_value}
use Rattle.instruction_laws.proofs.Common.{World, Placement, IsPlacement, stack_bytes, stack_end, return_cell, addresses, total, height}
use Rattle.instruction_laws.proofs.Common.{top_of, local_address, Outcome, Gives, Raises, Stuck, Does, RowsAlike, Access, access_bytes}
use Rattle.instruction_laws.proofs.Common.{Offset, Location, CellAt, located_on_stack, parameters_of, NeutralSide, extra_pair, offset_of}
use Rattle.instruction_laws.proofs.Common.{moved_by, direct_value, loaded_by, stored_by, Next, OwnLocalsAll, MachineStands, WorldFits}
use Rattle.instruction_laws.proofs.Common.{minus-is, image_within, cell_positive, shown_in, end_small, turned_stands, field_there}
use Rattle.instruction_laws.proofs.Common.{width_word}
use Rattle.std.proofs.Common.{slice_index, length-set, get_or-set_other}
use Rattle.std.proofs.lemmas.Bool.{ne_eqb, cases_eq}
use Rattle.neutral_machine.specs.Operands.{index_pair, local_at_location}
use Rattle.instruction_laws.proofs.Accesses.{Beside, ShowsWord, moved_shows, loads, stores, top_is, top_address, locals_fit_at}
use Rattle.neutral_machine.proofs.Spots.{place_spot}
use Rattle.ebc_machine.specs.declared.StepEnd.TheVariants as ends
use Rattle.ebc_machine.specs.Operands as machine
use Rattle.ebc_base.specs.Steps as steps
use Rattle.ebc_machine.specs.Results as machine_results
use Rattle.note_types.specs.declared.exception.Exception.TheVariants as raises
use Rattle.neutral_machine.specs.Outcomes as outcomes
use Rattle.neutral_machine.specs.Operands as neutral
use Rattle.neutral_machine.specs.Rows as rows

-- first one thing and then another, on both sides
pub bind_does : {A B C D : Type 0} (R : A → B → Type 0) (S : C → D → Type 0) (m : Outcome A) (o : Result B Exception) (f : A → Outcome C)
    (g : B → Result D Exception) → Does R m o → ((x : A) (y : B) → R x y → Does S (f x) (g y))
    → Does S (outcomes.◌>>=◌ m f) (steps.◌>>=◌ o g)
bind_does R S Stuck o f g h k = tt
bind_does R S (Raises e) (Ok y) f g h k = absurd h
bind_does R S (Raises e) (Err x) f g h k = h
bind_does R S (Gives x) (Ok y) f g h k = k x y h
bind_does R S (Gives x) (Err e) f g h k = absurd h

module _ (w : ℕ) (world : World) (P : Placement) (mapped : ℕ → ℕ) (h : IsWidth w) (ok : WorldFits world) (pl : IsPlacement w world P) where
  -- ---- what stands beside an operand

  index_beside : (i : Index) → Beside w world P mapped h ok pl (Some (index_pair i)) (index_offset w i)
  index_beside i = linear_at-wrap64 w (pair_of i).0 (pair_of i).1 h

  pub optional_beside : (i : Option Index) → Beside w world P mapped h ok pl (option_map index_pair i) (optional_offset w i)
  optional_beside None = (let e : 0 ≡ word (0 * w + 0) = omega arith in e)
  optional_beside (Some i) = index_beside i

  pub extra_beside : (x : Extra) → Beside w world P mapped h ok pl (extra_pair x) (extra_offset w x)
  extra_beside Nothing = (let e : 0 ≡ word (0 * w + 0) = omega arith in e)
  extra_beside (Imm v) = (let l = wrap64-below v in let e : wrap64 v ≡ word (0 * w + wrap64 v) = omega (arith, l) in e)
  extra_beside (Idx i) = index_beside i

  pub nothing_beside : Beside w world P mapped h ok pl None 0
  nothing_beside = (let e : 0 ≡ word (0 * w + 0) = omega arith in e)

  -- ---- values

  abbrev End : ℕ
  End = stack_end w world.notes P

  abbrev Word : Config → Neutral → ℕ → Type 0
  Word a v x = ShowsWord w world P mapped h ok pl a v x

  -- R0 and a pair, where they name a local field exactly
  stack_value : (a : Config) (s : Concrete) (y : ℕ) (o : Option Offset) → total w a.frames ≤ stack_bytes w world.notes
      → MachineStands w world P mapped None a s → Beside w world P mapped h ok pl o y
      → Shows w (addresses w world.notes P a.frames) (local_at_location (located_on_stack world.notes a.frames (offset_of o)))
      (word (register s 0 + y))
  unfolding located_on_stack
  stack_value a s y o room st e = by_frames a.frames refl st.top st.locals room
    where
      by_location : (f : FunctionFrame) (fs : List Frame) → a.frames ≡ Function f ∷ fs → register s 0 ≡ top_of w End (Function f ∷ fs)
          → OwnLocalsAll world.notes (Function f ∷ fs) → total w (Function f ∷ fs) ≤ stack_bytes w world.notes → (l : Option Location)
          → located_on_stack world.notes (Function f ∷ fs) (offset_of o) ≡ l
          → Shows w (addresses w world.notes P a.frames) (local_at_location l) (word (register s 0 + y))
      by_location f fs fr top own rm (Some (CellAt (FieldOfLocals d j))) g =
          let U = return_cell + total w fs in
          let T = total w (Function f ∷ fs) in
          let there = field_there w End h (end_small w world P h ok pl) world.notes f.func U (offset_of o) (depth fs) 0 0
          (parameters_of world.notes (Function f ∷ fs)) f.items (FieldOfLocals d j) own.0 g in
          let fit = locals_fit_at w world P mapped h ok pl there.shape there.f there.z fs f own there.among there.get in
          let pos = cell_positive w there.z.cell h in
          let es = end_small w world P h ok pl in
          let low = minus-is End there.far (omega (arith, fit, there.room, pos)) (omega (arith, there.within, rm)) es in
          let x = word (minus End there.far + start_at w there.z) in
          let at : local_address w End (Function f ∷ fs) (depth fs) there.f ≡ Some x =
          rw (eq-eqb (depth fs) (depth fs) refl) there.address in
          let sum : word (register s 0 + y) ≡ x = top_address w world P mapped h ok pl (register s 0) y _ T there.far (start_at w there.z) x
          (top_is w world P mapped h ok pl (register s 0) (Function f ∷ fs) (omega arith) rm top) (omega (arith, rm)) e
          (there.offset ∙ (let k : 0 * w + 0 + (height w f.items + U) + start_at w there.z ≡ T + start_at w there.z = omega arith in
          k)) there.within (omega (arith, fit, there.room, pos)) refl low in
          let same : FieldOfLocals d j ≡ FieldOfLocals (depth fs) there.f = there.is_local in
          record {
            from = x;
            there = local_same d j (depth fs) there.f same (λ u v. local_address w End a.frames u v ≡ Some x)
                (subst (λ u. local_address w End u (depth fs) there.f ≡ Some x) (sym fr) at);
            is = sum ∙ (let k : x ≡ word (x + (0 * w + 0)) = omega arith in k);
          }
        where
          local_same : (d j e g : ℕ) → FieldOfLocals d j ≡ FieldOfLocals e g → (Q : ℕ → ℕ → Type 0) → Q e g → Q d j
          local_same d j e g q Q z = let a : d ≡ e = cc in let b : j ≡ g = cc in subst₂ Q (sym a) (sym b) z
      by_location f fs fr top own rm c g = tt

      by_frames : (fs : List Frame) → a.frames ≡ fs → register s 0 ≡ top_of w End fs → OwnLocalsAll world.notes fs
          → total w fs ≤ stack_bytes w world.notes → Shows w (addresses w world.notes P a.frames)
          (local_at_location (located_on_stack world.notes fs (offset_of o))) (word (register s 0 + y))
      by_frames [] fr top own rm = tt
      by_frames (Host t ∷ fs) fr top own rm = tt
      by_frames (Function f ∷ fs) fr top own rm = by_location f fs fr top own rm
          (located_on_stack world.notes (Function f ∷ fs) (offset_of o)) refl

  positive : (r : ℕ) → (r ≡ 0 → ⊥) → 0 < r
  positive zero f = absurd (f refl)
  positive (suc r) f = omega arith

  pub direct_shows : (a : Config) (s : Concrete) (r y : ℕ) (o : Option Offset) → r < 8 → total w a.frames ≤ stack_bytes w world.notes
      → MachineStands w world P mapped None a s → Beside w world P mapped h ok pl o y → Word a (direct_value world a r o) (sum_at s r y)
  unfolding sum_at
  direct_shows a s r y o lt room st e = (omega arith, go (nat_eq r 0) refl)
    where
      go : (t : Bool) → nat_eq r 0 ≡ t → Shows w (addresses w world.notes P a.frames)
          (if t then local_at_location (located_on_stack world.notes a.frames (offset_of o)) else moved_by (a.registers r) o)
          ((register s r + y) % 2 ^ 64)
      go true t = subst (λ q. Shows w (addresses w world.notes P a.frames)
          (local_at_location (located_on_stack world.notes a.frames (offset_of o))) (word (register s q + y))) (sym (eqb-true r 0 t))
          (stack_value a s y o room st e)
      go false t = moved_shows w world P mapped h ok pl (addresses w world.notes P a.frames) (a.registers r) (register s r) y o (st.words r)
          (st.registers r (positive r (eqb-false r 0 t)) lt) e

  -- the value of an operand
  pub values : (a : Config) (s : Concrete) (raised : Exception) (access : Access) (k : ℕ) (o : NeutralSide) (y : ℕ)
      → k ≡ access_bytes w access → o.reg < 8 → total w a.frames ≤ stack_bytes w world.notes → MachineStands w world P mapped None a s
      → Beside w world P mapped h ok pl o.beside y → Does (Word a) (neutral.value world a access o)
      (machine.value w s raised k (record { reg = o.reg; indirect = o.indirect; offset = y }))
  unfolding neutral.value machine.value
  values a s raised access k o y size lt room st e = go o.indirect
    where
      go : (t : Bool) → Does (Word a) (if t then loaded_by world a access o.reg o.beside else Gives (direct_value world a o.reg o.beside))
          (if t then loaded_at w s raised k o.reg y else Ok (sum_at s o.reg y))
      go true = subst (λ n. Does (Word a) (loaded_by world a access o.reg o.beside) (loaded_at w s raised n o.reg y)) (sym size)
          (loads w world P mapped h ok pl a s raised o.reg y o.beside access lt room st e)
      go false = direct_shows a s o.reg y o.beside lt room st e

  -- ---- results

  register_at : (regs : List ℕ) (x r q : ℕ) → length regs ≡ 8 → r < 8 → (Q : ℕ → Type 0) → (q ≡ r → Q x)
      → ((q ≡ r → ⊥) → Q (slice_index regs q)) → Q (slice_index (slice_set regs r x) q)
  register_at regs x r q e l Q f g = ⊎_elim
      (λ z. subst Q (sym (ap (slice_index (slice_set regs r x)) z ∙ get_or-set_same regs r x 0 (omega (arith, e, l)))) (f z))
      (λ z. subst Q (sym (get_or-set_other regs r q x 0 z)) (g z))
      (cases_eq q r)

  -- a register but R0 is written
  pub register_stands : (but : Option ℕ) (a : Config) (s : Concrete) (r : ℕ) (v : Neutral) (x : ℕ) → 0 < r → r < 8
      → MachineStands w world P mapped but a s → Word a v x → MachineStands w world P mapped but
      (record a { registers = with_value a.registers r v }) (with_register s r x)
  unfolding with_register
  register_stands but a s r v x pos lt st p = record {
    eight = length-set s.registers r x ∙ st.eight;
    words = λ q. register_at s.registers x r q st.eight lt (λ z. z < 2 ^ 64) (λ _. p.0) (λ _. st.words q);
    small = st.small;
    registers = λ q l m. register_at s.registers x r q st.eight lt
        (Shows w (addresses w world.notes P a.frames) (with_value a.registers r v q))
        (λ e. subst (λ t. Shows w (addresses w world.notes P a.frames) (if t then v else a.registers q) x) (sym (eq-eqb q r e)) p.1)
        (λ e. subst (λ t. Shows w (addresses w world.notes P a.frames) (if t then v else a.registers q) (slice_index s.registers q))
        (sym (ne_eqb q r e)) (st.registers q l m));
    locals = st.locals;
    top = register_at s.registers x r 0 st.eight lt (λ z. z ≡ top_of w End a.frames) (λ e. absurd (omega (arith, e, pos))) (λ _. st.top);
    frames = st.frames;
    cells = st.cells;
    thunks = st.thunks;
    code = st.code;
    objects = st.objects;
    flags = st.flags;
    gate = st.gate;
    spot = st.spot;
  }

  pub registers_written : (a : Config) (s : Concrete) (r : ℕ) (v : Neutral) (x : ℕ) → r < 8 → MachineStands w world P mapped None a s
      → Word a v x → Does (MachineStands w world P mapped None) (neutral.with_register a r v) (Ok (with_register s r x))
  unfolding neutral.with_register
  registers_written a s r v x lt st p = go (nat_eq r 0) refl
    where
      go : (t : Bool) → nat_eq r 0 ≡ t → Does (MachineStands w world P mapped None)
          (if t then Stuck else Gives (record a { registers = with_value a.registers r v })) (Ok (with_register s r x))
      go true t = tt
      go false t = register_stands None a s r v x (positive r (eqb-false r 0 t)) lt st p

  -- a result in an operand
  pub writes_does : (a : Config) (s : Concrete) (access : Access) (k : ℕ) (o : NeutralSide) (y : ℕ) (v : Neutral) (x : ℕ)
      → k ≡ access_bytes w access → o.reg < 8 → total w a.frames ≤ stack_bytes w world.notes → MachineStands w world P mapped None a s
      → Beside w world P mapped h ok pl o.beside y → Word a v x
      → Does (MachineStands w world P mapped None) (neutral.written world a access o v)
      (machine.written w s k (record { reg = o.reg; indirect = o.indirect; offset = y }) x)
  unfolding neutral.written machine.written
  writes_does a s access k o y v x size lt room st e p = go o.indirect
    where
      go : (t : Bool) → Does (MachineStands w world P mapped None)
          (if t then stored_by world a access o.reg o.beside v else neutral.with_register a o.reg v)
          (if t then stored_at w s raises.MemoryFault k o.reg y x else Ok (with_register s o.reg x))
      go true = subst (λ n. Does (MachineStands w world P mapped None) (stored_by world a access o.reg o.beside v)
          (stored_at w s raises.MemoryFault n o.reg y x)) (sym size)
          (stores w world P mapped h ok pl a s raises.MemoryFault o.reg y o.beside access v x lt room st e
          (shown_in w (addresses w world.notes P a.frames) (access_bytes w access) v x p.1))
      go false = registers_written a s o.reg v x lt st p

  -- ---- where control goes

  -- the machine at a place of the image
  pub at_stands : (but : Option ℕ) (a : Config) (s : Concrete) (p : ℕ) → p < world.image_size → MachineStands w world P mapped but a s
      → MachineStands w world P mapped but (record a { spot = Place p }) (at_ip s (P.image + p))
  unfolding at_ip
  at_stands but a s p l st = turned_stands w world P mapped but a s a.c (Place p) s.flags (P.image + p) st.flags
      (place_spot w world P h ok pl p l) st

  -- the machine's address of a place
  abbrev pub address_of : ℕ → ℕ
  address_of p = word (P.image + p)

  pub address_is : (p : ℕ) → p < world.image_size → address_of p ≡ P.image + p
  address_is p l = let i = image_within w world P h ok pl in let m = width_word w h in mod-eq_of_lt (omega (arith, l, i.below, m))

  -- the step ends, and control is at a place
  pub goes_does : (a : Config) (s : Concrete) (p : ℕ) → MachineStands w world P mapped None a s
      → Does (RowsAlike w world P mapped) (rows.goes world a p) (machine_results.goes s (address_of p))
  unfolding rows.goes machine_results.goes
  goes_does a s p st = go (nat_lt p world.image_size) refl
    where
      go : (t : Bool) → nat_lt p world.image_size ≡ t → Does (RowsAlike w world P mapped)
          (outcomes.◌>>=◌ (if t then Gives (record a { spot = Place p }) else Stuck) (λ b. Gives (Next, b)))
          (Ok (ends.Next, at_ip s (address_of p)))
      go true t = let l = ltb-true _ _ t in (
        tt,
        subst (λ z. MachineStands w world P mapped None (record a { spot = Place p }) (at_ip s z))
            (sym (address_is p l)) (at_stands None a s p l st),
      )
      go false t = tt
