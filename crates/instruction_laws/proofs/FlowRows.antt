-- Jumps, calls, returns and BREAK: the machine does what the neutral machine does.
use Rattle.instruction_laws.proofs.Common.{◌≡◌, ℕ, zero, suc, ◌+◌, ◌-◌, ◌*◌, ◌%◌, ◌^◌, ◌<◌, ◌≤◌, Bool, true, false, ◌&&◌, if◌then◌else◌}
use Rattle.instruction_laws.proofs.Common.{nat_eq, nat_lt, List, [], ◌∷◌, length, Option, Some, None, Result, Ok, Err, ℤ, pos, ◌*ℤ◌, refl}
use Rattle.instruction_laws.proofs.Common.{sym, ap, ap₂, ◌∙◌, subst, subst₂, arith, slice_get, slice_set, mod-eq_of_lt, get_or-set_same}
use Rattle.instruction_laws.proofs.Common.{eqb-true, eqb-false, eq-eqb, ltb-true, and_parts, false≢true, put, IsWidth, wrap64, cut_at}
use Rattle.instruction_laws.proofs.Common.{by_width, Cond, Extra, Nothing, Imm, Idx, Operand, extra_offset, address, sum_at, loaded_at}
use Rattle.instruction_laws.proofs.Common.{stored_at, raised_by, or_else, Concrete, register, loaded, with_register, at_ip, holds}
use Rattle.instruction_laws.proofs.Common.{Exception, Place, Gate, ThunkOf, Neutral, At, Addresses, Shows, number, plain, word, minus}
use Rattle.instruction_laws.proofs.Common.{StackItem, FunctionFrame, Frame, Function, Host, Config, World, Placement, IsPlacement}
use Rattle.instruction_laws.proofs.Common.{stack_bytes, stack_end, thunk_cell_address, return_cell, addresses, total, memory_of, Outcome}
use Rattle.instruction_laws.proofs.Common.{Gives, Raises, Stuck, or_stuck, Does, RowsAlike, kept_natural, Move, beside_extra, extra_pair}
use Rattle.instruction_laws.proofs.Common.{moved_by, loaded_by, function_at, Next, Site, flags_of, aligned, target_at, params_match, inside}
use Rattle.instruction_laws.proofs.Common.{called_from, called, at_place, next_thunk, MachineStands, Names, WorldFits, minus-is}
use Rattle.instruction_laws.proofs.Common.{image_within, stack_within, stack_holds, shown_in, end_small, kept_natural_shows, number_shows}
use Rattle.instruction_laws.proofs.Common.{plain_shows, bounded, objects_below, framed, top_below, in_frames, turned_stands, width_word}
use Rattle.std.proofs.Common.{is_some}
use Rattle.ebc_machine.specs.Stack.{lowered_by}
use Rattle.host_model.specs.Values.{IsPast, null}
use Rattle.neutral_machine.specs.Rows.{Native, MakeThunk, is_taken, base_at, past, named_place, native_target, returned_to, returned_from}
use Rattle.neutral_machine.specs.Rows.{return_row}
use Rattle.neutral_machine.specs.{Config.HostFrame, Stands.return_address, Instructions.extra_immediate}
use Rattle.neutral_machine.proofs.Frames.{call_stands, return_stands, stored_on_top, later_store}
use Rattle.instruction_laws.proofs.Accesses.{ShowsWord, ShowsBytes, moved_shows, loads_bytes}
use Rattle.instruction_laws.proofs.Operands.{bind_does, extra_beside, registers_written, address_of, address_is, at_stands, goes_does}
use Rattle.ebc_insn.specs.declared.Cond.TheVariants as conds
use Rattle.ebc_insn.specs.declared.Size.TheVariants as sizes
use Rattle.ebc_machine.specs.declared.StepEnd.TheVariants as ends
use Rattle.ebc_machine.specs.Flow as machine_flow
use Rattle.ebc_base.specs.Steps as steps
use Rattle.ebc_machine.specs.Results as machine_results
use Rattle.note_types.specs.declared.exception.Exception.TheVariants as raises
use Rattle.neutral_machine.specs.Outcomes as outcomes
use Rattle.neutral_machine.specs.Operands as neutral
use Rattle.neutral_machine.specs.Rows as rows

module _ (w : ℕ) (world : World) (P : Placement) (mapped : ℕ → ℕ) (h : IsWidth w) (ok : WorldFits world) (pl : IsPlacement w world P) where
  abbrev W : Config → Neutral → ℕ → Type 0
  W a v x = ShowsWord w world P mapped h ok pl a v x

  abbrev St : Config → Concrete → Type 0
  St a s = MachineStands w world P mapped None a s

  abbrev Rm : Config → Type 0
  Rm a = total w a.frames ≤ stack_bytes w world.notes

  abbrev At_ : ℕ → ℕ
  At_ p = address_of w world P mapped h ok pl p

  -- ---- jumps

  taken_same : (cond : Cond) (c : Bool) (flags : ℕ) → flags ≡ flags_of c → machine_flow.is_taken cond flags ≡ is_taken cond c
  taken_same conds.Always c flags e = refl
  taken_same conds.Set true flags e = ap (λ f. nat_eq (f % 2) 1) e
  taken_same conds.Set false flags e = ap (λ f. nat_eq (f % 2) 1) e
  taken_same conds.Clear true flags e = ap (λ f. nat_eq (f % 2) 0) e
  taken_same conds.Clear false flags e = ap (λ f. nat_eq (f % 2) 0) e

  -- a place and an address that is its, cut to the width or not
  pub record Reaches (p t : ℕ) : Type 0 where
    pub even : t % 2 ≡ p % 2
    pub is : p < world.image_size → t ≡ At_ p

  even_word : (p : ℕ) → At_ p % 2 ≡ p % 2
  even_word p = let e = pl.even_image in omega (arith, e)

  reaches : (p : ℕ) → Reaches p (At_ p)
  reaches p = record { even = even_word p; is = λ l. refl }

  reaches_cut : (p : ℕ) → Reaches p (cut_at w (At_ p))
  reaches_cut p = record {
    even = even_cut (At_ p) ∙ even_word p;
    is = λ l. let i = image_within w world P h ok pl in mod-eq_of_lt
        (let e = address_is w world P mapped h ok pl p l in omega (arith, e, i.below, l));
  }
    where
      even_cut : (x : ℕ) → cut_at w x % 2 ≡ x % 2
      even_cut x = by_width (λ v. cut_at v x % 2 ≡ x % 2) w h (omega arith) (omega arith)

  aligned_does : (p t : ℕ) → Reaches p t → Does Reaches (aligned p) (machine_flow.aligned t)
  aligned_does p t r = subst (λ z. Does Reaches (aligned p) (if nat_eq z 0 then Ok t else Err raises.AlignmentCheck)) (sym r.even)
      (go (nat_eq (p % 2) 0))
    where
      go : (b : Bool) → Does Reaches (if b then Gives p else Raises raises.AlignmentCheck) (if b then Ok t else Err raises.AlignmentCheck)
      go true = r
      go false = refl

  goes_placed : (a : Config) (s : Concrete) (p : ℕ) → p < world.image_size → St a s
      → Does (RowsAlike w world P mapped) (Gives (Next, record a { spot = Place p })) (machine_results.goes s (P.image + p))
  unfolding machine_results.goes
  goes_placed a s p l st = (tt, at_stands w world P mapped h ok pl None a s p l st)

  goes_to : (a : Config) (s : Concrete) (p t : ℕ) → St a s → Reaches p t
      → Does (RowsAlike w world P mapped) (rows.goes world a p) (machine_results.goes s t)
  unfolding rows.goes
  goes_to a s p t st r = go (nat_lt p world.image_size) refl
    where
      go : (b : Bool) → nat_lt p world.image_size ≡ b → Does (RowsAlike w world P mapped)
          (outcomes.◌>>=◌ (if b then Gives (record a { spot = Place p }) else Stuck) (λ b. Gives (Next, b))) (machine_results.goes s t)
      go true e = let l = ltb-true _ _ e in subst (λ z. Does (RowsAlike w world P mapped) (Gives (Next, record a { spot = Place p }))
          (machine_results.goes s z)) (sym (r.is l ∙ address_is w world P mapped h ok pl p l)) (goes_placed a s p l st)
      go false e = tt

  -- the base of a target
  base_shows : (a : Config) (s : Concrete) (r : ℕ) → r < 8 → St a s → (machine_flow.base_at s r < 2 ^ 64)
      × Shows w (addresses w world.notes P a.frames) (base_at a r) (machine_flow.base_at s r)
  base_shows a s r l st = go (nat_eq r 0) refl
    where
      positive : (r : ℕ) → (r ≡ 0 → ⊥) → 0 < r
      positive zero f = absurd (f refl)
      positive (suc r) f = omega arith

      go : (t : Bool) → nat_eq r 0 ≡ t → ((if t then 0 else register s r) < 2 ^ 64)
          × Shows w (addresses w world.notes P a.frames) (if t then null else a.registers r) (if t then 0 else register s r)
      go true t = (omega arith, (let e : 0 ≡ word (0 * w + 0) = omega arith in e))
      go false t = (st.words r, st.registers r (positive r (eqb-false r 0 t)) l)

  target_does : (a : Config) (s : Concrete) (here : Site) (relative : Bool) (op : Operand) (extra : Extra) → op.reg < 8 → St a s
      → Names P here.reloc (extra_immediate extra)
      → Does Reaches (target_at a here relative (beside_extra op extra))
      (machine_flow.target_at w s (At_ here.next) relative (record {
        reg = op.reg;
        indirect = op.indirect;
        offset = extra_offset w extra;
      }))
  unfolding target_at machine_flow.target_at machine_flow.target_number
  target_does a s here relative op extra l st n = go op.indirect relative
    where
      A : Addresses
      A = addresses w world.notes P a.frames

      v : Neutral
      v = moved_by (base_at a op.reg) (extra_pair extra)

      sum : ℕ
      sum = (machine_flow.base_at s op.reg + extra_offset w extra) % 2 ^ 64

      shown : Shows w A (moved_by (base_at a op.reg) (extra_pair extra)) ((machine_flow.base_at s op.reg + extra_offset w extra) % 2 ^ 64)
      shown = let b = base_shows a s op.reg l st in moved_shows w world P mapped h ok pl A (base_at a op.reg)
          (machine_flow.base_at s op.reg) (extra_offset w extra) (extra_pair extra) b.0 b.1 (extra_beside w world P mapped h ok pl extra)

      by_plain : (o : Option ℕ) → plain (moved_by (base_at a op.reg) (extra_pair extra)) ≡ o
          → Does Reaches (past here.next o) (Ok (cut_at w ((At_ here.next +
          (machine_flow.base_at s op.reg + extra_offset w extra) % 2 ^ 64) % 2 ^ 64)))
      by_plain None e = tt
      by_plain (Some c) e =
          let f = plain_shows w A (moved_by (base_at a op.reg) (extra_pair extra)) _ c shown e in
          subst (λ z. Reaches (word (here.next + c)) (cut_at w ((At_ here.next + z) % 2 ^ 64))) (sym f)
          (subst (λ z. Reaches (word (here.next + c)) (cut_at w z))
          (let q : word (P.image + word (here.next + c)) ≡ (word (P.image + here.next) + c) % 2 ^ 64 = omega arith in q)
          (reaches_cut (word (here.next + c))))

      by_name : (x : Extra) → Names P here.reloc (extra_immediate x) → (o : Option ℕ) → here.reloc ≡ o → (b : Bool)
          → (nat_eq op.reg 0 && is_some (extra_pair x)) ≡ b → Does Reaches (named_place b o)
          (Ok (cut_at w ((machine_flow.base_at s op.reg + extra_offset w x) % 2 ^ 64)))
      by_name x n None r b e = tt
      by_name x n (Some p) r false e = tt
      by_name Nothing n (Some p) r true e = absurd (false≢true (and_parts (nat_eq op.reg 0) false e).1)
      by_name (Idx i) n (Some p) r true e = absurd (subst (λ z. Names P z None) r n)
      by_name (Imm i) n (Some p) r true e =
          let z = (and_parts (nat_eq op.reg 0) true e).0 in
          let named : wrap64 i ≡ word (P.image + p) = subst (λ z. Names P z (Some i)) r n in
          let base : machine_flow.base_at s op.reg ≡ 0 = ap (λ t. if t then 0 else register s op.reg) z in
          let f : (machine_flow.base_at s op.reg + wrap64 i) % 2 ^ 64 ≡ At_ p = omega (arith, base, named) in
          subst (λ z. Reaches p (cut_at w z)) (sym f) (reaches_cut p)

      go : (ind : Bool) → (rel : Bool) → Does Reaches (if ind then Stuck
          else (if rel then past here.next (plain (moved_by (base_at a op.reg) (extra_pair extra)))
          else named_place (nat_eq op.reg 0 && is_some (extra_pair extra)) here.reloc))
          (steps.◌>>=◌ (if ind then or_else raises.MemoryFault (loaded s
          (cut_at w ((machine_flow.base_at s op.reg + extra_offset w extra) % 2 ^ 64)) w)
          else Ok ((machine_flow.base_at s op.reg + extra_offset w extra) % 2 ^ 64))
          (λ t. Ok (cut_at w (if rel then (At_ here.next + t) % 2 ^ 64 else t))))
      go true rel = tt
      go false true = by_plain (plain (moved_by (base_at a op.reg) (extra_pair extra))) refl
      go false false = by_name extra n here.reloc refl (nat_eq op.reg 0 && is_some (extra_pair extra)) refl

  pub jump_does : (a : Config) (s : Concrete) (here : Site) (cond : Cond) (relative : Bool) (op : Operand) (extra : Extra) → op.reg < 8
      → St a s → Names P here.reloc (extra_immediate extra)
      → Does (RowsAlike w world P mapped) (rows.jump_row world a here cond relative (beside_extra op extra))
      (machine_flow.jump_row w s (At_ here.next) cond relative
      (record { reg = op.reg; indirect = op.indirect; offset = extra_offset w extra }))
  unfolding rows.jump_row machine_flow.jump_row
  jump_does a s here cond relative op extra l st n = subst (λ t. Does (RowsAlike w world P mapped)
      (rows.jump_row world a here cond relative (beside_extra op extra))
      (if t then steps.◌>>=◌ (machine_flow.target_at w s (At_ here.next) relative
      (record { reg = op.reg; indirect = op.indirect; offset = extra_offset w extra }))
      (λ t. steps.◌>>=◌ (machine_flow.aligned t) (λ to. machine_results.goes s to)) else machine_results.goes s (At_ here.next)))
      (sym (taken_same cond a.c s.flags st.flags)) (go (is_taken cond a.c))
    where
      go : (t : Bool) → Does (RowsAlike w world P mapped) (if t then
          outcomes.◌>>=◌ (target_at a here relative (beside_extra op extra)) (λ p. outcomes.◌>>=◌ (aligned p) (λ to. rows.goes world a to))
          else rows.goes world a here.next) (if t then steps.◌>>=◌
          (machine_flow.target_at w s (At_ here.next) relative (record {
            reg = op.reg;
            indirect = op.indirect;
            offset = extra_offset w extra;
          })) (λ t. steps.◌>>=◌ (machine_flow.aligned t) (λ to. machine_results.goes s to))
          else machine_results.goes s (At_ here.next))
      go true = bind_does Reaches (RowsAlike w world P mapped) _ _ _ _ (target_does a s here relative op extra l st n)
          (λ p t r. bind_does Reaches (RowsAlike w world P mapped) _ _ _ _ (aligned_does p t r) (λ q u r2. goes_to a s q u st r2))
      go false = goes_does w world P mapped h ok pl a s here.next st

  pub jump8_does : (a : Config) (s : Concrete) (next : ℕ) (cond : Cond) (n : ℤ) → St a s
      → Does (RowsAlike w world P mapped) (rows.jump8_row world a next cond n) (machine_flow.jump8_row s (At_ next) cond n)
  unfolding rows.jump8_row machine_flow.jump8_row
  jump8_does a s next cond n st = subst (λ t. Does (RowsAlike w world P mapped) (rows.jump8_row world a next cond n)
      (if t then steps.◌>>=◌ (machine_flow.aligned ((At_ next + wrap64 (n *ℤ pos 2)) % 2 ^ 64)) (λ to. machine_results.goes s to)
      else machine_results.goes s (At_ next))) (sym (taken_same cond a.c s.flags st.flags)) (go (is_taken cond a.c))
    where
      there : Reaches (word (next + wrap64 (n *ℤ pos 2))) ((At_ next + wrap64 (n *ℤ pos 2)) % 2 ^ 64)
      there = subst (Reaches (word (next + wrap64 (n *ℤ pos 2))))
          (let q : word (P.image + word (next + wrap64 (n *ℤ pos 2))) ≡ (word (P.image + next) + wrap64 (n *ℤ pos 2)) % 2 ^ 64 =
          omega arith in q) (reaches (word (next + wrap64 (n *ℤ pos 2))))

      go : (t : Bool) → Does (RowsAlike w world P mapped) (if t then
          outcomes.◌>>=◌ (aligned (word (next + wrap64 (n *ℤ pos 2)))) (λ to. rows.goes world a to) else rows.goes world a next)
          (if t then steps.◌>>=◌ (machine_flow.aligned ((At_ next + wrap64 (n *ℤ pos 2)) % 2 ^ 64)) (λ to. machine_results.goes s to)
          else machine_results.goes s (At_ next))
      go true = bind_does Reaches (RowsAlike w world P mapped) _ _ _ _ (aligned_does _ _ there) (λ q u r2. goes_to a s q u st r2)
      go false = goes_does w world P mapped h ok pl a s next st

  -- ---- calls

  -- the machine puts the return address on the stack
  called_is : (s : Concrete) (x v : ℕ) → length s.registers ≡ 8 → (register s 0 + (2 ^ 64 - 16)) % 2 ^ 64 ≡ x → x + 16 ≤ 2 ^ (8 * w)
      → ((j : ℕ) → j + 8 ≤ 16 → holds s.objects (x + j) 8 ≡ true)
      → machine_flow.called w s v ≡ Ok (record s { registers = slice_set s.registers 0 x; byte = put (put s.byte x 8 v) (x + 8) 8 0 })
  unfolding machine_flow.called
  called_is s x v eight low l held =
      let z : x + 0 ≡ x = omega arith in
      let t : Concrete = record s { registers = slice_set s.registers 0 x; byte = put s.byte x 8 v } in
      let e1 = stored_on_top w world P mapped h ok pl s raises.StackFault 16 x 0 8 v eight low (omega (arith, l)) (held 0 (omega arith)) in
      let e2 : stored_at w (lowered_by s 16) raises.StackFault 8 0 0 v ≡ Ok t = e1
      ∙ ap (λ i. Ok (record s { registers = slice_set s.registers 0 x; byte = put s.byte i 8 v })) z in
      let top : register t 0 ≡ x = get_or-set_same s.registers 0 x 0 (omega (arith, eight)) in
      ap (λ o. steps.◌>>=◌ o (λ low. stored_at w low raises.StackFault 8 0 8 0)) e2
      ∙ later_store w world P mapped h ok pl t raises.StackFault x 8 8 0 top (omega (arith, l)) (held 8 (omega arith))

  called_does : (a : Config) (s : Concrete) (next p : ℕ) → return_cell + total w a.frames ≤ stack_bytes w world.notes → St a s
      → Does St (called world a next p) (machine_flow.called w s (At_ next))
  unfolding called
  called_does a s next p room st = by_function (function_at world.notes p)
    where
      by_test : (f : FunctionFrame) (fs : List Frame) → a.frames ≡ Function f ∷ fs → (g : ℕ) (b : Bool)
          → (params_match (slice_get world.notes.function g) f.items && nat_lt next world.image_size) ≡ b
          → Does St (if b then Gives (inside a g next) else Stuck) (machine_flow.called w s (At_ next))
      by_test f fs fr g false e = tt
      by_test f fs fr g true e =
          let l = ltb-true next world.image_size (and_parts (params_match (slice_get world.notes.function g) f.items) _ e).1 in
          let rm : return_cell + total w (Function f ∷ fs) ≤ stack_bytes w world.notes =
          subst (λ u. return_cell + total w u ≤ stack_bytes w world.notes) fr room in
          let sf = in_frames w world P mapped a s (Function f ∷ fs) fr st in
          let x = stack_end w world.notes P - (return_cell + total w (Function f ∷ fs)) in
          let low = top_below w world P mapped h ok pl (register s 0) (Function f ∷ fs) 16 sf.top (omega arith) rm in
          let sw = stack_within w world P h ok pl in
          let held : (j : ℕ) → j + 8 ≤ 16 → holds s.objects (x + j) 8 ≡ true =
          λ j m. subst (λ u. holds u (x + j) 8 ≡ true) (sym st.objects)
          (stack_holds w world P h ok pl a.script.entries (x + j) 8 (omega (arith, rm)) (omega (arith, rm, m))) in
          let is = called_is s x (At_ next) st.eight low (omega (arith, sw.below, rm)) held in
          let stand = call_stands w world P mapped h ok pl a s f fs g next a.registers rm l sf in
          let stand2 : St (inside a g next) (record s {
            registers = slice_set s.registers 0 x;
            byte = put (put s.byte x 8 (At_ next)) (x + 8) 8 0;
          }) =
          subst₂ (λ u v. St (framed a (Function (record { func = g; ret = next; saved = a.registers; items = [] }) ∷ u))
          (record s { registers = slice_set s.registers 0 x; byte = put (put s.byte x 8 v) (x + 8) 8 0 })) (sym fr)
          (sym (address_is w world P mapped h ok pl next l)) stand in
          subst (Does St (Gives (inside a g next))) (sym is) stand2

      by_frames : (fs : List Frame) → a.frames ≡ fs → (g : ℕ) → Does St (called_from world a next fs g) (machine_flow.called w s (At_ next))
      by_frames [] fr g = tt
      by_frames (Host t ∷ fs) fr g = tt
      by_frames (Function f ∷ fs) fr g = by_test f fs fr g (params_match (slice_get world.notes.function g) f.items
          && nat_lt next world.image_size) refl

      by_function : (o : Option ℕ) → Does St (outcomes.◌>>=◌ (or_stuck o) (λ g. called_from world a next a.frames g))
          (machine_flow.called w s (At_ next))
      by_function None = tt
      by_function (Some g) = by_frames a.frames refl g

  pub call_does : (a : Config) (s : Concrete) (here : Site) (relative : Bool) (op : Operand) (extra : Extra) → op.reg < 8
      → return_cell + total w a.frames ≤ stack_bytes w world.notes → St a s → Names P here.reloc (extra_immediate extra)
      → Does (RowsAlike w world P mapped) (rows.call_row world a here relative (beside_extra op extra))
      (machine_flow.call_row w s (At_ here.next) relative (record {
        reg = op.reg;
        indirect = op.indirect;
        offset = extra_offset w extra;
      }))
  unfolding rows.call_row machine_flow.call_row
  call_does a s here relative op extra l room st n =
      bind_does Reaches (RowsAlike w world P mapped) _ _ _ _ (target_does a s here relative op extra l st n) (λ p t r.
      bind_does Reaches (RowsAlike w world P mapped) _ _ _ _ (aligned_does p t r) (λ q u r2.
      bind_does St (RowsAlike w world P mapped) _ _ _ _ (called_does a s here.next q room st) (λ b s2 st2.
      goes_to b s2 q u st2 r2)))

  -- ---- native calls

  load_same : (s : Concrete) (e : Exception) (r y : ℕ) → loaded_at w s e w r y ≡ or_else e
      (loaded s (cut_at w ((register s r + y) % 2 ^ 64)) w)
  unfolding loaded_at address sum_at
  load_same s e r y = refl

  native_does : (a : Config) (s : Concrete) (next : ℕ) (op : Operand) (extra : Extra) → op.reg < 8 → Rm a → St a s
      → Does (λ v x. Shows w (addresses w world.notes P a.frames) v x) (native_target world a (beside_extra op extra))
      (machine_flow.target_at w s next false (record { reg = op.reg; indirect = op.indirect; offset = extra_offset w extra }))
  unfolding machine_flow.target_at machine_flow.target_number
  native_does a s next op extra l room st = go op.indirect (nat_eq op.reg 0) refl
    where
      A : Addresses
      A = addresses w world.notes P a.frames

      from_load : nat_eq op.reg 0 ≡ false → Does (ShowsBytes w world P mapped h ok pl a w)
          (loaded_by world a (Move sizes.Natural) op.reg (extra_pair extra))
          (or_else raises.MemoryFault (loaded s (cut_at w ((register s op.reg + extra_offset w extra) % 2 ^ 64)) w))
      from_load e = load_is (loads_bytes w world P mapped h ok pl a s raises.MemoryFault op.reg (extra_offset w extra) (extra_pair extra)
          (Move sizes.Natural) l room st (extra_beside w world P mapped h ok pl extra))
        where
          load_is : Does (ShowsBytes w world P mapped h ok pl a w) (loaded_by world a (Move sizes.Natural) op.reg (extra_pair extra))
              (loaded_at w s raises.MemoryFault w op.reg (extra_offset w extra))
              → Does (ShowsBytes w world P mapped h ok pl a w) (loaded_by world a (Move sizes.Natural) op.reg (extra_pair extra))
              (or_else raises.MemoryFault (loaded s (cut_at w ((register s op.reg + extra_offset w extra) % 2 ^ 64)) w))
          load_is d = subst (Does (ShowsBytes w world P mapped h ok pl a w)
              (loaded_by world a (Move sizes.Natural) op.reg (extra_pair extra)))
              (load_same s raises.MemoryFault op.reg (extra_offset w extra)) d

      go : (ind z : Bool) → nat_eq op.reg 0 ≡ z → Does (λ v x. Shows w A v x)
          (if ind then (if z then Stuck else loaded_by world a (Move sizes.Natural) op.reg (extra_pair extra))
          else Gives (kept_natural world.notes (memory_of world a).objects (moved_by (base_at a op.reg) (extra_pair extra))))
          (steps.◌>>=◌ (if ind then or_else raises.MemoryFault (loaded s
          (cut_at w ((machine_flow.base_at s op.reg + extra_offset w extra) % 2 ^ 64)) w)
          else Ok ((machine_flow.base_at s op.reg + extra_offset w extra) % 2 ^ 64)) (λ t. Ok (cut_at w t)))
      go true true e = tt
      go true false e = subst (λ q. Does (λ v x. Shows w A v x) (loaded_by world a (Move sizes.Natural) op.reg (extra_pair extra))
          (steps.◌>>=◌ (or_else raises.MemoryFault (loaded s (cut_at w
          (((if q then 0 else register s op.reg) + extra_offset w extra) % 2 ^ 64)) w)) (λ t. Ok (cut_at w t)))) (sym e)
          (then_cut (loaded_by world a (Move sizes.Natural) op.reg (extra_pair extra)) _ (from_load e))
        where
          then_cut : (m : Outcome Neutral) (o : Result ℕ Exception) → Does (ShowsBytes w world P mapped h ok pl a w) m o
              → Does (λ v x. Shows w (addresses w world.notes P a.frames) v x) m (steps.◌>>=◌ o (λ t. Ok (cut_at w t)))
          then_cut Stuck o d = tt
          then_cut (Raises e) (Ok y) d = d
          then_cut (Raises e) (Err x) d = d
          then_cut (Gives v) (Ok y) d = subst (Shows w (addresses w world.notes P a.frames) v) (sym (mod-eq_of_lt d.0)) d.1
          then_cut (Gives v) (Err e) d = d
      go false z e =
          let b = base_shows a s op.reg l st in
          let sh = moved_shows w world P mapped h ok pl A (base_at a op.reg) (machine_flow.base_at s op.reg) (extra_offset w extra)
          (extra_pair extra) b.0 b.1 (extra_beside w world P mapped h ok pl extra) in
          kept_natural_shows w world.notes (memory_of world a).objects A (moved_by (base_at a op.reg) (extra_pair extra)) _ h
          (bounded w world P h ok pl a.frames room st.locals) (objects_below w world P h ok pl a.script.entries a.frames)
          (shown_in w A w _ _ sh)

  pub call_native_does : (a : Config) (s : Concrete) (next : ℕ) (relative : Bool) (op : Operand) (extra : Extra) → op.reg < 8 → Rm a
      → St a s
      → Does (RowsAlike w world P mapped) (rows.call_native_row world a next relative (beside_extra op extra))
      (machine_flow.call_native_row w s (At_ next) relative
      (record { reg = op.reg; indirect = op.indirect; offset = extra_offset w extra }))
  unfolding rows.call_native_row machine_flow.call_native_row
  call_native_does a s next true op extra l room st = tt
  call_native_does a s next false op extra l room st =
      bind_does (λ v x. Shows w (addresses w world.notes P a.frames) v x) (RowsAlike w world P mapped) _ _ _ _
      (native_does a s (At_ next) op extra l room st) (λ v x sh. by_place v x sh (nat_lt next world.image_size) refl)
    where
      by_place : (v : Neutral) (x : ℕ) → Shows w (addresses w world.notes P a.frames) v x → (b : Bool) → nat_lt next world.image_size ≡ b
          → Does (RowsAlike w world P mapped) (outcomes.◌>>=◌ (if b then Gives (record a { spot = Place next }) else Stuck)
          (λ b. Gives (Native v, b))) (Ok (ends.Native x, at_ip s (At_ next)))
      by_place v x sh true e = let l = ltb-true _ _ e in (
        sh,
        subst (λ z. St (record a { spot = Place next }) (at_ip s z))
            (sym (address_is w world P mapped h ok pl next l)) (at_stands w world P mapped h ok pl None a s next l st),
      )
      by_place v x sh false e = tt

  -- ---- returns

  return_loads : (a : Config) (s : Concrete) (f : FunctionFrame) (fs : List Frame)
      → total w (Function (record f { items = [] }) ∷ fs) ≤ stack_bytes w world.notes
      → St (framed a (Function (record f { items = [] }) ∷ fs)) s → loaded_at w s raises.StackFault 8 0 0 ≡ Ok (return_address P f.ret fs)
  unfolding loaded_at loaded address sum_at
  return_loads a s f fs room st =
      let n = return_cell + total w fs in
      let es = end_small w world P h ok pl in
      let sw = stack_within w world P h ok pl in
      let low : minus (stack_end w world.notes P) n ≡ stack_end w world.notes P - n =
      minus-is (stack_end w world.notes P) n (omega arith) (omega (arith, room)) es in
      let top : register s 0 ≡ minus (stack_end w world.notes P) n = st.top
      ∙ ap (minus (stack_end w world.notes P)) (let z : 0 + (return_cell + total w fs) ≡ n = omega arith in z) in
      let at : cut_at w ((register s 0 + 0) % 2 ^ 64) ≡ minus (stack_end w world.notes P) n =
      (let z : (register s 0 + 0) % 2 ^ 64 ≡ minus (stack_end w world.notes P) n = omega (arith, top, low, es, room) in ap (cut_at w) z)
      ∙ mod-eq_of_lt (omega (arith, low, sw.below, room)) in
      let held : holds s.objects (minus (stack_end w world.notes P) n) 8 ≡ true =
      subst (λ u. holds u (minus (stack_end w world.notes P) n) 8 ≡ true) (sym st.objects)
      (stack_holds w world P h ok pl a.script.entries (minus (stack_end w world.notes P) n) 8 (omega (arith, low, room))
      (omega (arith, low, room))) in
      rw at (rw held (ap Ok st.frames.1.address))

  gate_stands : (a : Config) (s : Concrete) → St a s → St (record a { spot = Gate }) (at_ip s P.native)
  unfolding at_ip
  gate_stands a s st = turned_stands w world P mapped None a s a.c Gate s.flags P.native st.flags
      (rw (eq-eqb P.native P.native refl) refl) st

  gate_goes : (a : Config) (s : Concrete) → St a s → Does (RowsAlike w world P mapped) (Gives (Next, record a { spot = Gate }))
      (steps.◌>>=◌ (machine_flow.aligned P.native) (λ to. machine_results.goes s to))
  unfolding machine_results.goes
  gate_goes a s st = subst (λ n. Does (RowsAlike w world P mapped) (Gives (Next, record a { spot = Gate }))
      (steps.◌>>=◌ (if nat_eq n 0 then Ok P.native else Err raises.AlignmentCheck) (λ to. Ok (ends.Next, at_ip s to)))) (sym pl.even_native)
      (tt, gate_stands a s st)

  pub return_does : (a : Config) (s : Concrete) → Rm a → St a s
      → Does (RowsAlike w world P mapped) (return_row world a a.frames) (machine_flow.return_row w s)
  unfolding return_row machine_flow.return_row
  return_does a s room st = go a.frames refl
    where
      to_caller : (f g : FunctionFrame) (fs : List Frame) → St (framed a (Function g ∷ fs)) (raised_by s 16)
          → Does (RowsAlike w world P mapped) (returned_to world a f (Function g ∷ fs))
          (steps.◌>>=◌ (machine_flow.aligned (P.image + f.ret)) (λ to. machine_results.goes (raised_by s 16) to))
      to_caller f g fs st2 =
          let e = pl.even_image in
          bind_does Reaches (RowsAlike w world P mapped) _ _ _ _
          (aligned_does f.ret (P.image + f.ret) (record {
            even = omega (arith, e);
            is = λ l. sym (address_is w world P mapped h ok pl f.ret l);
          }))
          (λ p t r. goes_to (framed a (Function g ∷ fs)) (raised_by s 16) p t st2 r)

      to_gate : (f : FunctionFrame) (t : HostFrame) (fs : List Frame) → St (framed a (Host t ∷ fs)) (raised_by s 16)
          → Does (RowsAlike w world P mapped) (returned_to world a f (Host t ∷ fs))
          (steps.◌>>=◌ (machine_flow.aligned P.native) (λ to. machine_results.goes (raised_by s 16) to))
      to_gate f t fs st2 = gate_goes (framed a (Host t ∷ fs)) (raised_by s 16) st2

      by_frames : (f : FunctionFrame) (fs : List Frame) → a.frames ≡ Function (record f { items = [] }) ∷ fs
          → Does (RowsAlike w world P mapped) (returned_to world a f fs)
          (steps.◌>>=◌ (loaded_at w s raises.StackFault 8 0 0) (λ t. steps.◌>>=◌ (machine_flow.aligned t)
          (λ to. machine_results.goes (raised_by s 16) to)))
      by_frames f fs fr =
          let st2 = in_frames w world P mapped a s (Function (record f { items = [] }) ∷ fs) fr st in
          let rm : total w (Function (record f { items = [] }) ∷ fs) ≤ stack_bytes w world.notes =
          subst (λ u. total w u ≤ stack_bytes w world.notes) fr room in
          subst (λ o. Does (RowsAlike w world P mapped) (returned_to world a f fs)
          (steps.◌>>=◌ o (λ t. steps.◌>>=◌ (machine_flow.aligned t) (λ to. machine_results.goes (raised_by s 16) to))))
          (sym (return_loads a s f fs rm st2)) (by_below fs (return_stands w world P mapped h ok pl a s f fs rm st2))
        where
          by_below : (fs : List Frame) → St (framed a fs) (raised_by s 16)
              → Does (RowsAlike w world P mapped) (returned_to world a f fs)
              (steps.◌>>=◌ (machine_flow.aligned (return_address P f.ret fs)) (λ to. machine_results.goes (raised_by s 16) to))
          by_below [] st3 = tt
          by_below (Function g ∷ gs) st3 = to_caller f g gs st3
          by_below (Host t ∷ gs) st3 = to_gate f t gs st3

      by_items : (f : FunctionFrame) (is : List StackItem) (fs : List Frame) → a.frames ≡ Function (record f { items = is }) ∷ fs
          → Does (RowsAlike w world P mapped) (returned_from world a f is fs)
          (steps.◌>>=◌ (loaded_at w s raises.StackFault 8 0 0) (λ t. steps.◌>>=◌ (machine_flow.aligned t)
          (λ to. machine_results.goes (raised_by s 16) to)))
      by_items f [] fs fr = by_frames f fs fr
      by_items f (i ∷ is) fs fr = tt

      go : (fs : List Frame) → a.frames ≡ fs → Does (RowsAlike w world P mapped) (return_row world a fs)
          (steps.◌>>=◌ (loaded_at w s raises.StackFault 8 0 0) (λ t. steps.◌>>=◌ (machine_flow.aligned t)
          (λ to. machine_results.goes (raised_by s 16) to)))
      go [] fr = tt
      go (Host t ∷ fs) fr = tt
      go (Function f ∷ fs) fr = by_items f f.items fs fr

  -- ---- BREAK

  thunk_does : (a : Config) (s : Concrete) (next : ℕ) → Rm a → St a s
      → Does (RowsAlike w world P mapped) (outcomes.◌>>=◌ (or_stuck (next_thunk a (a.registers 7)))
      (λ i. outcomes.◌>>=◌ (at_place world a next) (λ b. Gives (MakeThunk i, b)))) (Ok (ends.MakeThunk (register s 7), at_ip s (At_ next)))
  thunk_does a s next room st = by_value (a.registers 7) (st.registers 7 (omega arith) (omega arith))
    where
      by_place : (i : ℕ) → thunk_cell_address world.notes P i ≡ Some (register s 7) → (b : Bool) → nat_lt next world.image_size ≡ b
          → Does (RowsAlike w world P mapped) (outcomes.◌>>=◌ (if b then Gives (record a { spot = Place next }) else Stuck)
          (λ b. Gives (MakeThunk i, b))) (Ok (ends.MakeThunk (register s 7), at_ip s (At_ next)))
      by_place i e true t = let l = ltb-true _ _ t in (
        e,
        subst (λ z. St (record a { spot = Place next }) (at_ip s z))
            (sym (address_is w world P mapped h ok pl next l)) (at_stands w world P mapped h ok pl None a s next l st),
      )
      by_place i e false t = tt

      by_thunk : (i n c : ℕ) → IsPast (thunk_cell_address world.notes P i) (n * w + c) (register s 7) → (b : Bool)
          → (nat_eq i a.made && (nat_eq n 0 && nat_eq c 0)) ≡ b
          → Does (RowsAlike w world P mapped) (outcomes.◌>>=◌ (or_stuck (if b then Some i else None))
          (λ i. outcomes.◌>>=◌ (at_place world a next) (λ b. Gives (MakeThunk i, b))))
          (Ok (ends.MakeThunk (register s 7), at_ip s (At_ next)))
      by_thunk i n c p false e = tt
      by_thunk i n c p true e =
          let q = and_parts (nat_eq i a.made) (nat_eq n 0 && nat_eq c 0) e in
          let r = and_parts (nat_eq n 0) (nat_eq c 0) q.1 in
          let small = (bounded w world P h ok pl a.frames room st.locals).thunk i p.from p.there in
          let m = width_word w h in
          let at : register s 7 ≡ p.from = p.is ∙ ap₂ (λ u v. word (p.from + (u * w + v))) (eqb-true n 0 r.0) (eqb-true c 0 r.1)
          ∙ (let z : word (p.from + (0 * w + 0)) ≡ p.from = omega (arith, small, m) in z) in
          by_place i (p.there ∙ ap Some (sym at)) (nat_lt next world.image_size) refl

      by_value : (v : Neutral) → Shows w (addresses w world.notes P a.frames) v (register s 7)
          → Does (RowsAlike w world P mapped) (outcomes.◌>>=◌ (or_stuck (next_thunk a v))
          (λ i. outcomes.◌>>=◌ (at_place world a next) (λ b. Gives (MakeThunk i, b))))
          (Ok (ends.MakeThunk (register s 7), at_ip s (At_ next)))
      by_value (At (ThunkOf i) n c) sh = by_thunk i n c sh (nat_eq i a.made && (nat_eq n 0 && nat_eq c 0)) refl
      by_value v sh = tt

  pub break_does : (a : Config) (s : Concrete) (next code : ℕ) → Rm a → St a s
      → Does (RowsAlike w world P mapped) (rows.break_row world a next code) (machine_flow.break_row s (At_ next) code)
  unfolding rows.break_row machine_flow.break_row
  break_does a s next code room st = go (nat_eq code 1) (nat_eq code 3) (nat_eq code 5) (nat_eq code 4) (nat_eq code 6)
    where
      one : Does (RowsAlike w world P mapped) (outcomes.◌>>=◌ (neutral.with_register a 7 (number 0x10000)) (λ b. rows.goes world b next))
          (machine_results.goes (with_register s 7 0x10000) (At_ next))
      one = bind_does St (RowsAlike w world P mapped) (neutral.with_register a 7 (number 0x10000)) (Ok (with_register s 7 0x10000)) _
          (λ t. machine_results.goes t (At_ next)) (registers_written w world P mapped h ok pl a s 7 (number 0x10000) 0x10000
          (omega arith) st (omega arith, number_shows w (addresses w world.notes P a.frames) 0x10000 (omega arith)))
          (λ b t s2. goes_does w world P mapped h ok pl b t next s2)

      go : (b1 b3 b5 b4 b6 : Bool) → Does (RowsAlike w world P mapped)
          (if b1 then outcomes.◌>>=◌ (neutral.with_register a 7 (number 0x10000)) (λ b. rows.goes world b next) else if b3 then
          Raises raises.Breakpoint else if b5 then outcomes.◌>>=◌ (or_stuck (next_thunk a (a.registers 7)))
          (λ i. outcomes.◌>>=◌ (at_place world a next) (λ b. Gives (MakeThunk i, b))) else if b4 then rows.goes world a next
          else if b6 then rows.goes world a next else Raises raises.BadBreak)
          (if b1 then machine_results.goes (with_register s 7 0x10000) (At_ next) else if b3 then Err raises.Breakpoint else if b5 then
          Ok (ends.MakeThunk (register s 7), at_ip s (At_ next)) else if b4 then machine_results.goes s (At_ next) else if b6 then
          machine_results.goes s (At_ next) else Err raises.BadBreak)
      go true b3 b5 b4 b6 = one
      go false true b5 b4 b6 = refl
      go false false true b4 b6 = thunk_does a s next room st
      go false false false true b6 = goes_does w world P mapped h ok pl a s next st
      go false false false false true = goes_does w world P mapped h ok pl a s next st
      go false false false false false = refl
