-- Pushes, pops and moves of R0: the machine does what the neutral machine does.
use Rattle.instruction_laws.proofs.Common.{◌≡◌, ℕ, ◌+◌, ◌-◌, ◌*◌, ◌%◌, ◌^◌, ◌<◌, ◌≤◌, Bool, true, false, not, ◌&&◌, if◌then◌else◌, nat_eq}
use Rattle.instruction_laws.proofs.Common.{List, [], ◌∷◌, Option, Some, None, Ok, is_none, pos, refl, sym, ap, ap₂, ◌∙◌, subst, subst₂}
use Rattle.instruction_laws.proofs.Common.{arith, inl, slice_set, eqb-true, and_parts, false≢true, IsWidth, cut_at, extended_at}
use Rattle.instruction_laws.proofs.Common.{extended_at-below, Index, Operand, Size, form_bytes, index_offset, optional_offset, sum_at}
use Rattle.instruction_laws.proofs.Common.{loaded_at, stored_at, raised_by, Concrete, register, with_register, size_at, SlotKind, N}
use Rattle.instruction_laws.proofs.Common.{Exception, Shape, Neutral, Addresses, Shows, ShowsIn, number, plain, StackItem, Pushed, LocalsOf}
use Rattle.instruction_laws.proofs.Common.{FunctionFrame, Frame, Function, Host, Config, depth, locals_among, World, frame_locals}
use Rattle.instruction_laws.proofs.Common.{Placement, IsPlacement, slot_bytes, stack_bytes, stack_end, addresses, total, memory_of, Gives}
use Rattle.instruction_laws.proofs.Common.{Stuck, unless_stuck, Does, RowsAlike, kept_natural, Access, Move, Form, access_bytes, kept}
use Rattle.instruction_laws.proofs.Common.{NeutralSide, moved_by, stored_by, pushed, form_kind, has_size, dropped, after_drop, after_make}
use Rattle.instruction_laws.proofs.Common.{made_locals, adjusted, adjusted_by, is_qword_size, stack_row, same_kind, MachineStands, size_if}
use Rattle.instruction_laws.proofs.Common.{locals_growth, index_growth, WorldFits, shown_in, Extends, fits_at, end_small}
use Rattle.instruction_laws.proofs.Common.{kept_natural_shows, number_shows, plain_shows, bounded, objects_below, framed, same_extends}
use Rattle.instruction_laws.proofs.Common.{top_below, in_frames, width_word}
use Rattle.std.proofs.Math.Nat.{mod-mod}
use Rattle.ebc_width.specs.Width.{linear_at}
use Rattle.ebc_width.proofs.Laws.{extended_at-cut_at, linear_at-neg, linear_at-pos}
use Rattle.natural_index.specs.Index.{signed}
use Rattle.ebc_machine.specs.Stack.{stack_fault}
use Rattle.neutral_machine.specs.Rows.{with_items, taken, taken_from, popped, of_slot, Dropped}
use Rattle.neutral_machine.specs.Operations.{on_number}
use Rattle.neutral_machine.proofs.{Agree.shows_in_more, Locals.locals_shape, Values.whole_shows, Frames.pushes, Frames.pop_stands}
use Rattle.neutral_machine.proofs.{Frames.pop_reads, Drops.make_stands, Drops.drop_slots, Drops.drop_locals}
use Rattle.instruction_laws.proofs.Accesses.{Beside, ShowsWord, moved_shows, stores}
use Rattle.instruction_laws.proofs.Operands.{bind_does, values, registers_written, address_of, goes_does}
use Rattle.instruction_laws.proofs.DataRows.{form_size, kept_word}
use Rattle.note_types.proofs.SameLaws.{same_kind-equal}
use Rattle.ebc_insn.specs.declared.Size.TheVariants as sizes
use Rattle.ebc_machine.specs.Operands as machine
use Rattle.ebc_machine.specs.Stack as machine_stack
use Rattle.ebc_machine.specs.Moves as machine_moves
use Rattle.ebc_machine.specs.Results as machine_results
use Rattle.note_types.specs.declared.exception.Exception.TheVariants as raises
use Rattle.neutral_machine.specs.Outcomes as outcomes
use Rattle.neutral_machine.specs.Operands as neutral
use Rattle.neutral_machine.specs.Rows as rows

form_slot : (w : ℕ) (wide : Bool) → slot_bytes w (form_kind wide) ≡ form_bytes wide
form_slot w true = refl
form_slot w false = refl

module _ (w : ℕ) (world : World) (P : Placement) (mapped : ℕ → ℕ) (h : IsWidth w) (ok : WorldFits world) (pl : IsPlacement w world P) where
  abbrev W : Config → Neutral → ℕ → Type 0
  W a v x = ShowsWord w world P mapped h ok pl a v x

  abbrev St : Config → Concrete → Type 0
  St a s = MachineStands w world P mapped None a s

  abbrev Rm : Config → Type 0
  Rm a = total w a.frames ≤ stack_bytes w world.notes

  -- ---- pushes

  pushed_does : (a : Config) (s : Concrete) (kind : SlotKind) (v : Neutral) (y : ℕ)
      → slot_bytes w kind + total w a.frames ≤ stack_bytes w world.notes → St a s
      → ShowsIn w (addresses w world.notes P a.frames) (slot_bytes w kind) v (y % 2 ^ (8 * slot_bytes w kind))
      → Does St (pushed a a.frames (Pushed kind v)) (machine_stack.pushed w s (slot_bytes w kind) y)
  pushed_does a s kind v y room st sh = go a.frames refl
    where
      go : (fs : List Frame) → a.frames ≡ fs → Does St (pushed a fs (Pushed kind v)) (machine_stack.pushed w s (slot_bytes w kind) y)
      go [] fr = tt
      go (Host t ∷ fs) fr = tt
      go (Function f ∷ fs) fr = pushes w world P mapped h ok pl a s f fs kind v y
          (subst (λ u. slot_bytes w kind + total w u ≤ stack_bytes w world.notes) fr room)
          (in_frames w world P mapped a s (Function f ∷ fs) fr st)
          (subst (λ u. ShowsIn w (addresses w world.notes P u) (slot_bytes w kind) v (y % 2 ^ (8 * slot_bytes w kind))) fr sh)

  -- what is kept of a number, in a slot
  slot_shows : (a : Config) (s : Concrete) (access : Access) (k : ℕ) (v : Neutral) (x : ℕ) → k ≡ access_bytes w access → Rm a → St a s
      → W a v x → ShowsIn w (addresses w world.notes P a.frames) k (kept world.notes (memory_of world a).objects access v) (x % 2 ^ (8 * k))
  slot_shows a s access k v x e room st p =
      subst (λ n. ShowsIn w (addresses w world.notes P a.frames) n (kept world.notes (memory_of world a).objects access v)
      (x % 2 ^ (8 * n))) (sym e)
      (subst (ShowsIn w (addresses w world.notes P a.frames) (access_bytes w access)
      (kept world.notes (memory_of world a).objects access v)) (mod-mod x (2 ^ (8 * access_bytes w access)))
      (shown_in w (addresses w world.notes P a.frames) (access_bytes w access) _ _
      (kept_word w world P mapped h ok pl a s access v x room st p).1))

  pub push_does : (a : Config) (s : Concrete) (next : ℕ) (wide : Bool) (op : NeutralSide) (y : ℕ) → op.reg < 8
      → slot_bytes w (form_kind wide) + total w a.frames ≤ stack_bytes w world.notes → St a s → Beside w world P mapped h ok pl op.beside y
      → Does (RowsAlike w world P mapped) (rows.push_row world a next wide op)
      (machine_stack.push_row w s (address_of w world P mapped h ok pl next) (form_bytes wide)
      (record { reg = op.reg; indirect = op.indirect; offset = y }))
  unfolding rows.push_row machine_stack.push_row
  push_does a s next wide op y l grow st e =
      let room : total w a.frames ≤ stack_bytes w world.notes = omega (arith, grow) in
      bind_does (W a) (RowsAlike w world P mapped) _ _ _ _ (values w world P mapped h ok pl a s (stack_fault op.reg) (Form wide)
      (form_bytes wide) op y (form_size w wide) l room st e) (λ v x p.
      bind_does St (RowsAlike w world P mapped) _ _ _ _ (subst (λ k. Does St
      (pushed a a.frames (Pushed (form_kind wide) (kept world.notes (memory_of world a).objects (Form wide) v)))
      (machine_stack.pushed w s k x)) (form_slot w wide) (pushed_does a s (form_kind wide)
      (kept world.notes (memory_of world a).objects (Form wide) v) x grow st
      (slot_shows a s (Form wide) (slot_bytes w (form_kind wide)) v x (form_slot w wide ∙ form_size w wide) room st p))) (λ a2 s2 st2.
      goes_does w world P mapped h ok pl a2 s2 next st2))

  pub push_natural_does : (a : Config) (s : Concrete) (next : ℕ) (op : NeutralSide) (y : ℕ) → op.reg < 8
      → w + total w a.frames ≤ stack_bytes w world.notes → St a s → Beside w world P mapped h ok pl op.beside y
      → Does (RowsAlike w world P mapped) (rows.push_natural_row world a next op)
      (machine_stack.push_row w s (address_of w world P mapped h ok pl next) w
      (record { reg = op.reg; indirect = op.indirect; offset = y }))
  unfolding rows.push_natural_row machine_stack.push_row
  push_natural_does a s next op y l grow st e =
      let room : total w a.frames ≤ stack_bytes w world.notes = omega (arith, grow) in
      bind_does (W a) (RowsAlike w world P mapped) _ _ _ _ (values w world P mapped h ok pl a s (stack_fault op.reg)
      (Move sizes.Natural) w op y refl l room st e) (λ v x p.
      bind_does St (RowsAlike w world P mapped) _ _ _ _ (pushed_does a s N
      (kept_natural world.notes (memory_of world a).objects v) x grow st (slot_shows a s (Move sizes.Natural) w v x refl room st p))
      (λ a2 s2 st2.
      goes_does w world P mapped h ok pl a2 s2 next st2))

  -- ---- pops

  -- a value taken off the stack shows in its slot, and the machine stands without the slot
  pub record Taken (kind : SlotKind) (s : Concrete) (t : Neutral × Config) (x : ℕ) : Type 0 where
    pub small : x < 2 ^ (8 * slot_bytes w kind)
    pub shows : ShowsIn w (addresses w world.notes P t.1.frames) (slot_bytes w kind) t.0 x
    pub stands : St t.1 (raised_by s (slot_bytes w kind))
    pub room : Rm t.1

  taken_does : (a : Config) (s : Concrete) (e : Exception) (kind : SlotKind) → Rm a → St a s
      → Does (Taken kind s) (taken a kind a.frames) (loaded_at w s e (slot_bytes w kind) 0 0)
  taken_does a s e kind room st = go a.frames refl
    where
      off : (f : FunctionFrame) (fs : List Frame) (v : Neutral) (is : List StackItem)
          → a.frames ≡ Function (record f { items = Pushed kind v ∷ is }) ∷ fs
          → Does (Taken kind s) (Gives (v, with_items a f is fs)) (loaded_at w s e (slot_bytes w kind) 0 0)
      off f fs v is fr =
          let st2 : St (with_items a f (Pushed kind v ∷ is) fs) s =
          in_frames w world P mapped a s (Function (record f { items = Pushed kind v ∷ is }) ∷ fs) fr st in
          let room2 : total w (Function (record f { items = Pushed kind v ∷ is }) ∷ fs) ≤ stack_bytes w world.notes =
          subst (λ u. total w u ≤ stack_bytes w world.notes) fr room in
          let r = pop_reads w world P mapped h ok pl a s e f fs kind v is room2 st2 in
          let ext : Extends (addresses w world.notes P (Function (record f { items = Pushed kind v ∷ is }) ∷ fs))
          (addresses w world.notes P (Function (record f { items = is }) ∷ fs)) =
          same_extends w world P mapped h ok pl (Function (record f { items = Pushed kind v ∷ is }) ∷ fs)
          (Function (record f { items = is }) ∷ fs) (record { locals = λ d. refl; address = λ d g. refl }) in
          subst (Does (Taken kind s) (Gives (v, with_items a f is fs))) (sym r.1) (record {
            small = r.2;
            shows = shows_in_more w (addresses w world.notes P (Function (record f { items = Pushed kind v ∷ is }) ∷ fs))
                (addresses w world.notes P (Function (record f { items = is }) ∷ fs)) (slot_bytes w kind) v r.0 ext r.3;
            stands = pop_stands w world P mapped h ok pl a s f fs kind v is room2 st2;
            room = omega (arith, room2);
          })

      by_items : (f : FunctionFrame) (fs : List Frame) (is : List StackItem) → a.frames ≡ Function (record f { items = is }) ∷ fs
          → Does (Taken kind s) (taken_from a f kind is fs) (loaded_at w s e (slot_bytes w kind) 0 0)
      by_items f fs [] fr = tt
      by_items f fs (LocalsOf t ∷ is) fr = tt
      by_items f fs (Pushed k v ∷ is) fr = by_kind (same_kind k kind) refl
        where
          by_kind : (b : Bool) → same_kind k kind ≡ b → Does (Taken kind s) (if b then Gives (v, with_items a f is fs) else Stuck)
              (loaded_at w s e (slot_bytes w kind) 0 0)
          by_kind true q = off f fs v is (fr ∙ ap (λ j. Function (record f { items = Pushed j v ∷ is }) ∷ fs) (same_kind-equal k kind q))
          by_kind false q = tt

      go : (fs : List Frame) → a.frames ≡ fs → Does (Taken kind s) (taken a kind fs) (loaded_at w s e (slot_bytes w kind) 0 0)
      go [] fr = tt
      go (Host t ∷ fs) fr = tt
      go (Function f ∷ fs) fr = by_items f fs f.items fr

  popped_does : (a : Config) (s : Concrete) (access : Access) (k : ℕ) (op : NeutralSide) (y : ℕ) (v : Neutral) (x : ℕ)
      → k ≡ access_bytes w access → op.reg < 8 → Rm a → St a s → Beside w world P mapped h ok pl op.beside y → W a v x
      → Does St (popped world a access op v) (machine_stack.popped w s k (record { reg = op.reg; indirect = op.indirect; offset = y }) x)
  unfolding popped machine_stack.popped neutral.written
  popped_does a s access k op y v x size l room st e p = go op.indirect
    where
      go : (t : Bool) → Does St (if t then (if t then stored_by world a access op.reg op.beside v else neutral.with_register a op.reg v)
          else neutral.with_register a op.reg (moved_by v op.beside))
          (if t then stored_at w s (stack_fault op.reg) k op.reg y x else Ok (with_register s op.reg ((x + y) % 2 ^ 64)))
      go true = subst (λ n. Does St (stored_by world a access op.reg op.beside v) (stored_at w s (stack_fault op.reg) n op.reg y x))
          (sym size) (stores w world P mapped h ok pl a s (stack_fault op.reg) op.reg y op.beside access v x l room st e
          (shown_in w (addresses w world.notes P a.frames) (access_bytes w access) v x p.1))
      go false = registers_written w world P mapped h ok pl a s op.reg (moved_by v op.beside) ((x + y) % 2 ^ 64) l st
          (omega arith, moved_shows w world P mapped h ok pl (addresses w world.notes P a.frames) v x y op.beside p.0 p.1 e)

  -- the value that a pop makes of a slot
  of_slot_word : (a : Config) (s : Concrete) (wide : Bool) (v : Neutral) (x : ℕ) → Rm a → St a s → x < 2 ^ (8 * form_bytes wide)
      → ShowsIn w (addresses w world.notes P a.frames) (form_bytes wide) v x → W a (of_slot wide v) (extended_at (form_bytes wide) x)
  of_slot_word a s true v x room st l sh =
      let e : extended_at 8 x ≡ x = grind (arith, l) in
      subst (W a v) (sym e) (
        omega (arith, l),
        whole_shows w (addresses w world.notes P a.frames) v x h
            (bounded w world P h ok pl a.frames room st.locals) sh,
      )
  of_slot_word a s false v x room st l sh = (extended_at-below 4 x (inl refl), go (plain v) refl)
    where
      A : Addresses
      A = addresses w world.notes P a.frames

      go : (o : Option ℕ) → plain v ≡ o → Shows w A (on_number (extended_at 4) o) (extended_at 4 x)
      go None q = tt
      go (Some c) q =
          let e : x ≡ cut_at 4 c = sh.cut ∙ ap (λ z. z % 2 ^ (8 * 4)) (plain_shows w A v sh.whole c sh.shows q) in
          subst (Shows w A (number (extended_at 4 c))) (sym (ap (extended_at 4) e ∙ extended_at-cut_at 4 c))
          (number_shows w A (extended_at 4 c) (extended_at-below 4 c (inl refl)))

  pub pop_does : (a : Config) (s : Concrete) (next : ℕ) (wide : Bool) (op : NeutralSide) (y : ℕ) → op.reg < 8 → Rm a → St a s
      → Beside w world P mapped h ok pl op.beside y
      → Does (RowsAlike w world P mapped) (rows.pop_row world a next wide op)
      (machine_stack.pop_row w s (address_of w world P mapped h ok pl next) (form_bytes wide) true
      (record { reg = op.reg; indirect = op.indirect; offset = y }))
  unfolding rows.pop_row machine_stack.pop_row
  pop_does a s next wide op y l room st e =
      bind_does (Taken (form_kind wide) s) (RowsAlike w world P mapped) _ _ _ _
      (subst (λ k. Does (Taken (form_kind wide) s) (taken a (form_kind wide) a.frames) (loaded_at w s raises.StackFault k 0 0))
      (form_slot w wide) (taken_does a s raises.StackFault (form_kind wide) room st)) (λ t x r.
      bind_does St (RowsAlike w world P mapped) _ _ _ _ (popped_does t.1 (raised_by s (form_bytes wide)) (Form wide) (form_bytes wide) op y
      (of_slot wide t.0) (extended_at (form_bytes wide) x) (form_size w wide) l r.room
      (subst (λ k. St t.1 (raised_by s k)) (form_slot w wide) r.stands) e
      (of_slot_word t.1 (raised_by s (form_bytes wide)) wide t.0 x r.room (subst (λ k. St t.1 (raised_by s k)) (form_slot w wide) r.stands)
      (subst (λ k. x < 2 ^ (8 * k)) (form_slot w wide) r.small)
      (subst (λ k. ShowsIn w (addresses w world.notes P t.1.frames) k t.0 x) (form_slot w wide) r.shows))) (λ a2 s2 st2.
      goes_does w world P mapped h ok pl a2 s2 next st2))

  pub pop_natural_does : (a : Config) (s : Concrete) (next : ℕ) (op : NeutralSide) (y : ℕ) → op.reg < 8 → Rm a → St a s
      → Beside w world P mapped h ok pl op.beside y
      → Does (RowsAlike w world P mapped) (rows.pop_natural_row world a next op)
      (machine_stack.pop_row w s (address_of w world P mapped h ok pl next) w false
      (record { reg = op.reg; indirect = op.indirect; offset = y }))
  unfolding rows.pop_natural_row machine_stack.pop_row
  pop_natural_does a s next op y l room st e =
      bind_does (Taken N s) (RowsAlike w world P mapped) _ _ _ _ (taken_does a s raises.StackFault N room st) (λ t x r.
      bind_does St (RowsAlike w world P mapped) _ _ _ _ (popped_does t.1 (raised_by s w) (Move sizes.Natural) w op y
      (kept_natural world.notes (memory_of world a).objects t.0) x refl l r.room r.stands e (
        let m = width_word w h in omega (arith, r.small, m),
        kept_natural_shows w world.notes (memory_of world a).objects
            (addresses w world.notes P t.1.frames) t.0 x h (bounded w world P h ok pl t.1.frames r.room r.stands.locals)
            (objects_below w world P h ok pl a.script.entries t.1.frames) r.shows,
      )) (λ a2 s2 st2.
      goes_does w world P mapped h ok pl a2 s2 next st2))

  -- ---- R0 itself

  -- the machine moves R0
  moves_top : (s : Concrete) (next x y : ℕ) → machine_moves.move_row w s next sizes.Qword (record { reg = 0; indirect = false; offset = x })
      (record { reg = 0; indirect = false; offset = y }) ≡ machine_results.goes (with_register s 0 ((register s 0 + y) % 2 ^ 64)) next
  unfolding machine_moves.move_row machine.value machine.written sum_at
  moves_top s next x y = ap (λ z. machine_results.goes (with_register s 0 z) next) (mod-mod (register s 0 + y) (2 ^ 64))

  -- an index, up or down
  up_offset : (i : Index) → i.neg ≡ false → index_offset w i ≡ (i.units * w + i.bytes) % 2 ^ 64
  up_offset i e = ap (λ b. linear_at w (signed b i.units) (signed b i.bytes)) e ∙ linear_at-pos w i.units i.bytes

  down_offset : (i : Index) → i.neg ≡ true → index_offset w i ≡ (2 ^ 64 - (i.units * w + i.bytes) % 2 ^ 64) % 2 ^ 64
  down_offset i e = ap (λ b. linear_at w (signed b i.units) (signed b i.bytes)) e ∙ linear_at-neg w (pos i.units) (pos i.bytes) h
      ∙ ap (λ z. (2 ^ 64 - z) % 2 ^ 64) (linear_at-pos w i.units i.bytes)

  dropped_does : (a : Config) (s : Concrete) (f : FunctionFrame) (fs : List Frame) (n c y : ℕ)
      → total w (Function f ∷ fs) ≤ stack_bytes w world.notes → St (framed a (Function f ∷ fs)) s → y ≡ (n * w + c) % 2 ^ 64
      → Does St (after_drop (framed a (Function f ∷ fs)) f fs (dropped n c f.items)) (Ok (with_register s 0 ((register s 0 + y) % 2 ^ 64)))
  unfolding with_register
  dropped_does a s f fs n c y room st e = go (dropped n c f.items) refl
    where
      same : (register s 0 + (n * w + c)) % 2 ^ 64 ≡ (register s 0 + y) % 2 ^ 64
      same = omega (arith, e)

      by_locals : (r : Dropped) → dropped n c f.items ≡ Some r → (t : Bool) → r.locals ≡ t
          → Does St (if t then Gives (rows.config_without (depth fs) (with_items (framed a (Function f ∷ fs)) f r.items fs))
          else Gives (with_items (framed a (Function f ∷ fs)) f r.items fs))
          (Ok (record s { registers = slice_set s.registers 0 ((register s 0 + y) % 2 ^ 64) }))
      by_locals r q true t = subst (λ z. St (rows.config_without (depth fs) (with_items a f r.items fs))
          (record s { registers = slice_set s.registers 0 z })) same (drop_locals w world P mapped h ok pl a s f fs n c r room q t st)
      by_locals r q false t = subst (λ z. St (with_items a f r.items fs) (record s { registers = slice_set s.registers 0 z })) same
          (drop_slots w world P mapped h ok pl a s f fs n c r room q t st)

      go : (o : Option Dropped) → dropped n c f.items ≡ o → Does St (after_drop (framed a (Function f ∷ fs)) f fs o)
          (Ok (record s { registers = slice_set s.registers 0 ((register s 0 + y) % 2 ^ 64) }))
      go None q = tt
      go (Some r) q = by_locals r q r.locals refl

  made_does : (a : Config) (s : Concrete) (f : FunctionFrame) (fs : List Frame) (n c y : ℕ)
      → locals_growth w world (Function f ∷ fs) + total w (Function f ∷ fs) ≤ stack_bytes w world.notes → St (framed a (Function f ∷ fs)) s
      → y ≡ (2 ^ 64 - (n * w + c) % 2 ^ 64) % 2 ^ 64 → Does St (after_make (framed a (Function f ∷ fs)) f fs n c
      (frame_locals world.notes f.func)) (Ok (with_register s 0 ((register s 0 + y) % 2 ^ 64)))
  unfolding with_register
  made_does a s f fs n c y room st e = go (frame_locals world.notes f.func) refl
    where
      by_test : (t : Shape) → frame_locals world.notes f.func ≡ Some t → (b : Bool) → (has_size n c t && is_none (locals_among f.items)) ≡ b
          → Does St (if b then Gives (made_locals (framed a (Function f ∷ fs)) f fs t) else Stuck)
          (Ok (record s { registers = slice_set s.registers 0 ((register s 0 + y) % 2 ^ 64) }))
      by_test t q false b = tt
      by_test t q true b =
          let p = and_parts (has_size n c t) (is_none (locals_among f.items)) b in
          let u = and_parts (nat_eq t.n n) (nat_eq t.c c) p.0 in
          let fit = fits_at w t h (locals_shape world f.func t ok q) in
          let size : size_at w t ≡ n * w + c = ap₂ (λ i j. i * w + j) (eqb-true _ _ u.0) (eqb-true _ _ u.1) in
          let rm : size_at w t + total w (Function f ∷ fs) ≤ stack_bytes w world.notes =
          subst₂ (λ b o. (if b then size_if w o else 0) + total w (Function f ∷ fs) ≤ stack_bytes w world.notes) p.1 q room in
          let top = top_below w world P mapped h ok pl (register s 0) (Function f ∷ fs) (size_at w t) st.top (omega arith) rm in
          let es = end_small w world P h ok pl in
          let same : stack_end w world.notes P - (size_at w t + total w (Function f ∷ fs)) ≡ (register s 0 + y) % 2 ^ 64 = sym top
          ∙ (let z : (register s 0 + (2 ^ 64 - size_at w t)) % 2 ^ 64 ≡ (register s 0 + y) % 2 ^ 64 = omega (arith, e, size, rm, es) in
          z) in
          let stand = make_stands w world P mapped h ok pl a s f fs t rm fit.positive q (none_is (locals_among f.items) p.1) st in
          subst (λ z. St (made_locals a f fs t) (record s { registers = slice_set s.registers 0 z })) same stand
        where
          none_is : (o : Option Shape) → is_none o ≡ true → o ≡ None
          none_is None e = refl
          none_is (Some x) e = absurd (false≢true e)

      go : (o : Option Shape) → frame_locals world.notes f.func ≡ o
          → Does St (after_make (framed a (Function f ∷ fs)) f fs n c o)
          (Ok (record s { registers = slice_set s.registers 0 ((register s 0 + y) % 2 ^ 64) }))
      go None q = tt
      go (Some t) q = by_test t q (has_size n c t && is_none (locals_among f.items)) refl

  adjusted_does : (a : Config) (s : Concrete) (o : Option Index) → index_growth w world a o + total w a.frames ≤ stack_bytes w world.notes
      → St a s → Does St (adjusted_by world a o) (Ok (with_register s 0 ((register s 0 + optional_offset w o) % 2 ^ 64)))
  adjusted_does a s o room st = by_index o room
    where
      by_neg : (f : FunctionFrame) (fs : List Frame) → a.frames ≡ Function f ∷ fs → (i : Index)
          → (if i.neg && not (nat_eq i.units 0 && nat_eq i.bytes 0) then locals_growth w world a.frames
          else 0) + total w a.frames ≤ stack_bytes w world.notes → (neg : Bool) → i.neg ≡ neg → (z : Bool)
          → (nat_eq i.units 0 && nat_eq i.bytes 0) ≡ z → Does St
          (if neg && not z then after_make a f fs i.units i.bytes (frame_locals world.notes f.func)
          else after_drop a f fs (dropped i.units i.bytes f.items)) (Ok (with_register s 0 ((register s 0 + index_offset w i) % 2 ^ 64)))
      by_neg f fs fr i room true e false z =
          made_does a s f fs i.units i.bytes (index_offset w i)
          (subst (λ u. locals_growth w world u + total w u ≤ stack_bytes w world.notes) fr
          (subst₂ (λ b t. (if b && not t then locals_growth w world a.frames
          else 0) + total w a.frames ≤ stack_bytes w world.notes) e z room))
          (in_frames w world P mapped a s (Function f ∷ fs) fr st) (down_offset i e)
      by_neg f fs fr i room true e true z =
          let p = and_parts (nat_eq i.units 0) (nat_eq i.bytes 0) z in
          let zero : i.units * w + i.bytes ≡ 0 * w + 0 = ap₂ (λ u b. u * w + b) (eqb-true _ _ p.0) (eqb-true _ _ p.1) in
          let d = down_offset i e in
          let q : index_offset w i ≡ (i.units * w + i.bytes) % 2 ^ 64 = omega (arith, d, zero) in
          dropped_does a s f fs i.units i.bytes (index_offset w i)
          (subst (λ u. total w u ≤ stack_bytes w world.notes) fr
          (let r : total w a.frames ≤ stack_bytes w world.notes = omega (arith, room) in r))
          (in_frames w world P mapped a s (Function f ∷ fs) fr st) q
      by_neg f fs fr i room false e z q =
          dropped_does a s f fs i.units i.bytes (index_offset w i)
          (subst (λ u. total w u ≤ stack_bytes w world.notes) fr
          (let r : total w a.frames ≤ stack_bytes w world.notes = omega (arith, room) in r))
          (in_frames w world P mapped a s (Function f ∷ fs) fr st)
          (up_offset i e)

      by_frames : (fs : List Frame) → a.frames ≡ fs → (i : Index)
          → (if i.neg && not (nat_eq i.units 0 && nat_eq i.bytes 0) then locals_growth w world a.frames
          else 0) + total w a.frames ≤ stack_bytes w world.notes
          → Does St (adjusted world a fs i.neg i.units i.bytes) (Ok (with_register s 0 ((register s 0 + index_offset w i) % 2 ^ 64)))
      by_frames [] fr i room = tt
      by_frames (Host t ∷ fs) fr i room = tt
      by_frames (Function f ∷ fs) fr i room = by_neg f fs fr i room i.neg refl (nat_eq i.units 0 && nat_eq i.bytes 0) refl

      none_frames : (fs : List Frame) → a.frames ≡ fs → total w a.frames ≤ stack_bytes w world.notes
          → Does St (adjusted world a fs false 0 0) (Ok (with_register s 0 ((register s 0 + 0) % 2 ^ 64)))
      none_frames [] fr room = tt
      none_frames (Host t ∷ fs) fr room = tt
      none_frames (Function f ∷ fs) fr room = dropped_does a s f fs 0 0 0 (subst (λ u. total w u ≤ stack_bytes w world.notes) fr room)
          (in_frames w world P mapped a s (Function f ∷ fs) fr st) (let z : 0 ≡ (0 * w + 0) % 2 ^ 64 = omega arith in z)

      by_index : (o : Option Index) → index_growth w world a o + total w a.frames ≤ stack_bytes w world.notes
          → Does St (adjusted_by world a o) (Ok (with_register s 0 ((register s 0 + optional_offset w o) % 2 ^ 64)))
      by_index None room = none_frames a.frames refl (let r : total w a.frames ≤ stack_bytes w world.notes = omega (arith, room) in r)
      by_index (Some i) room = by_frames a.frames refl i room

  pub stack_does : (a : Config) (s : Concrete) (next : ℕ) (size : Size) (left right : Operand) (lidx ridx : Option Index)
      → left.indirect ≡ false → left.reg ≡ 0 → index_growth w world a ridx + total w a.frames ≤ stack_bytes w world.notes → St a s
      → Does (RowsAlike w world P mapped) (stack_row world a next size right lidx ridx)
      (machine_moves.move_row w s (address_of w world P mapped h ok pl next) size
      (record { reg = left.reg; indirect = left.indirect; offset = optional_offset w lidx })
      (record { reg = right.reg; indirect = right.indirect; offset = optional_offset w ridx }))
  unfolding stack_row
  stack_does a s next size left right lidx ridx li lr room st =
      go (is_qword_size size && (is_none lidx && (not right.indirect && nat_eq right.reg 0))) refl
    where
      qword : (size : Size) → is_qword_size size ≡ true → size ≡ sizes.Qword
      qword sizes.Qword e = refl
      qword size e = absurd (false≢true e)

      direct : (b : Bool) → not b ≡ true → b ≡ false
      direct false e = refl
      direct true e = absurd (false≢true e)

      go : (t : Bool) → (is_qword_size size && (is_none lidx && (not right.indirect && nat_eq right.reg 0))) ≡ t
          → Does (RowsAlike w world P mapped) (unless_stuck t (outcomes.◌>>=◌ (adjusted_by world a ridx) (λ b. rows.goes world b next)))
          (machine_moves.move_row w s (address_of w world P mapped h ok pl next) size
          (record { reg = left.reg; indirect = left.indirect; offset = optional_offset w lidx })
          (record { reg = right.reg; indirect = right.indirect; offset = optional_offset w ridx }))
      go false t = tt
      go true t =
          let p = and_parts (is_qword_size size) _ t in
          let q = and_parts (is_none lidx) _ p.1 in
          let r = and_parts (not right.indirect) (nat_eq right.reg 0) q.1 in
          let e1 : machine_moves.move_row w s (address_of w world P mapped h ok pl next) size
          (record { reg = left.reg; indirect = left.indirect; offset = optional_offset w lidx })
          (record { reg = right.reg; indirect = right.indirect; offset = optional_offset w ridx }) ≡ machine_moves.move_row w s
          (address_of w world P mapped h ok pl next) sizes.Qword (record { reg = 0; indirect = false; offset = optional_offset w lidx })
          (record { reg = 0; indirect = false; offset = optional_offset w ridx }) =
          λ i. machine_moves.move_row w s (address_of w world P mapped h ok pl next) (qword size p.0 i)
          (record { reg = lr i; indirect = li i; offset = optional_offset w lidx })
          (record { reg = eqb-true right.reg 0 r.1 i; indirect = direct right.indirect r.0 i; offset = optional_offset w ridx }) in
          subst (Does (RowsAlike w world P mapped) (outcomes.◌>>=◌ (adjusted_by world a ridx) (λ b. rows.goes world b next)))
          (sym (e1 ∙ moves_top s (address_of w world P mapped h ok pl next) (optional_offset w lidx) (optional_offset w ridx)))
          (bind_does St (RowsAlike w world P mapped) (adjusted_by world a ridx)
          (Ok (with_register s 0 ((register s 0 + optional_offset w ridx) % 2 ^ 64))) _
          (λ u. machine_results.goes u (address_of w world P mapped h ok pl next)) (adjusted_does a s ridx room st)
          (λ b u sb. goes_does w world P mapped h ok pl b u next sb))
