-- The row of the moves: what its rule accepts goes on soundly.
use Rattle.typing_laws.proofs.Common.{◌≡◌, ℕ, ◌^◌, ◌<◌, Bool, true, false, if◌then◌else◌, nat_lt, nat_eq, List, Option, Some, Ok, IfOk}
use Rattle.typing_laws.proofs.Common.{refl, sym, ap, ◌∙◌, subst, arith, ⊎_elim, option_map, ltb-true, eqb-false, false≢true, cond_both}
use Rattle.typing_laws.proofs.Common.{Operand, Size, Index, IsBounded, Cell, SlotKind, FnNote, State, Ty, Loaded, Change, Distance, Place}
use Rattle.typing_laws.proofs.Common.{known, loads, loaded_type, load_place, load_at, changed, destination, put, index_distance, or_else}
use Rattle.typing_laws.proofs.Common.{beside, needs, full, has_field, place_at, IsKnown, move_access, move_value, cell_field, Neutral, At}
use Rattle.typing_laws.proofs.Common.{LocalOf, FieldOfLocals, FunctionFrame, Frame, Config, depth, World, live_memory, Gives, ◌>>=◌}
use Rattle.typing_laws.proofs.Common.{NeutralSide, indexed, index_pair, local_at_location, offset_of, moved_by, direct_value, loaded_by}
use Rattle.typing_laws.proofs.Common.{value, written, Move, Offset, kept, located_on_stack, goes, Accepts, RuleAccess, RuleName, Outcome}
use Rattle.rules_laws.proofs.RowsKeep.{move_value-known}
use Rattle.rules_data.specs.Data.{address_type}
use Rattle.neutral_machine.specs.Rows.{move_row}
use Rattle.typing_laws.proofs.Operands.{IsSmall, load_fits, stack_found, then_ok}
use Rattle.typing_laws.proofs.ArithRow.{GoesOn, beside_ok, also_ok, direct_is, left_goes}
use Rattle.typing_laws.proofs.Rows.{err_ok, ok_same, either_ok, needs_true, unless_ok, when_ok}
use Rattle.typing_laws.proofs.{Context.FitsHere, Context.TopSound, Context.known_params, Accesses.access_of, Pointed.IsBeside}
use Rattle.typing_laws.proofs.{Stores.Within, MoveValues.moved_fits, MoveValues.loaded_kept}
use Rattle.rules_base.specs.Kept as rules
use Rattle.rules_data.specs.Data as rules_data

-- ---- types within the bits of a move

cell_within : (size : Size) (c : Cell) → loads (access_of (Move size)) c ≡ true
    → Within (access_of (Move size)) (loaded_type (access_of (Move size)) c)
cell_within Size.Byte Cell.I8 e = omega arith
cell_within Size.Word Cell.I16 e = omega arith
cell_within Size.Dword Cell.I32 e = omega arith
cell_within Size.Qword c e = tt
cell_within Size.Natural c e = tt
cell_within size c e = absurd (false≢true e)

loaded_within : (size : Size) (c : Cell) (t : Loaded) → loads (access_of (Move size)) c ≡ true
    → known (loaded_type (access_of (Move size)) c) ≡ Ok t → Within (access_of (Move size)) t.ty
loaded_within size c t h e = subst (λ (z : Loaded). Within (access_of (Move size)) z.ty) (ok_same _ t e) (cell_within size c h)

kept_within : (size : Size) (t : Ty) → Within (access_of (Move size)) (rules.kept size t)
kept_within Size.Byte (Ty.Int lo hi div) = cond_both (nat_lt hi (2 ^ 8)) (Ty.Int lo hi div) (full 8) (Within RuleAccess.Byte)
    (λ e. ltb-true hi (2 ^ 8) e) (λ e. omega arith)
kept_within Size.Word (Ty.Int lo hi div) = cond_both (nat_lt hi (2 ^ 16)) (Ty.Int lo hi div) (full 16) (Within RuleAccess.Word)
    (λ e. ltb-true hi (2 ^ 16) e) (λ e. omega arith)
kept_within Size.Dword (Ty.Int lo hi div) = cond_both (nat_lt hi (2 ^ 32)) (Ty.Int lo hi div) (full 32) (Within RuleAccess.Dword)
    (λ e. ltb-true hi (2 ^ 32) e) (λ e. omega arith)
kept_within size t = tt

pub access_same : (size : Size) → move_access size ≡ access_of (Move size)
access_same Size.Byte = refl
access_same size = refl

module _ {world : World} {a : Config} {f : FunctionFrame} {fs : List Frame} {note : FnNote} {s : State}
    (st : TopSound world a f fs note s) where
  place_within : (size : Size) (p : Place) (t : Loaded) → load_place s (access_of (Move size)) p ≡ Ok t
      → Within (access_of (Move size)) t.ty
  place_within size (Place.Object c null) t e = when_ok (loads (access_of (Move size)) c) _ _ t e (λ h e1.
      unless_ok null _ _ t e1 (λ _ e2. loaded_within size c t h e2))
  place_within size (Place.Local x c) t e = when_ok (loads (access_of (Move size)) c) _ _ t e (λ h e1.
      when_ok (has_field s.written x) _ _ t e1 (λ _ e2. loaded_within size c t h e2))
  place_within Size.Qword (Place.Parameter k i) t e = tt
  place_within Size.Natural (Place.Parameter k i) t e = tt
  place_within Size.Qword (Place.ThunkCell i) t e = tt
  place_within Size.Natural (Place.ThunkCell i) t e = tt
  place_within size p t e = absurd (err_ok RuleName.Address t e)

  load_within : (size : Size) (r : ℕ) (d : Distance) (t : Loaded) → load_at world.notes note s (access_of (Move size)) r d ≡ Ok t
      → Within (access_of (Move size)) t.ty
  unfolding load_at
  load_within size r d t e = then_ok (or_else RuleName.Address (place_at world.notes note s r d)) (load_place s (access_of (Move size))) t e
      (λ p e1 e2. place_within size p t e2)

  -- what a move reads
  pub record MoveReads (size : Size) (side : NeutralSide) (t : Ty) : Type 0 where
    pub read : Neutral
    pub is : value world a (Move size) side ≡ Gives read
    pub fits : FitsHere st t (kept world.notes (live_memory world a).objects (Move size) read)
    pub bounded : IsBounded t
    pub within : Within (access_of (Move size)) t

  -- the address of what lies at a distance above R0
  address_fits : (b : Option Offset) (d : Distance) (o : Option Place) → IsBeside b d → IsSmall d → place_at world.notes note s 0 d ≡ o
      → FitsHere st (address_type o) (local_at_location (located_on_stack world.notes a.frames (offset_of b)))
  unfolding place_at
  address_fits b d (Some (Place.Local x c)) h m e =
      let found = stack_found st b d (Place.Local x c) h m e in
      ⊎_elim
      (λ q.
      let same : x ≡ q.0 = same_field x q.0 c q.1 q.2 in
      record {
        is = ap local_at_location (found.1 ∙ ap Some q.3) ∙ ap (λ i. At (LocalOf (depth fs) i) 0 0) (sym same);
        field = q.4.field;
        there = subst (λ i. cell_field world.notes (live_memory world a) (FieldOfLocals (depth fs) i) ≡ Some q.4.field)
            (sym same) q.4.there;
      })
      (λ q. absurd (no_parameter x c (q.1).kind (q.1).ty q.3)) found.2.names
    where
      same_field : (x y : ℕ) (c d : Cell) → Place.Local x c ≡ Place.Local y d → x ≡ y
      same_field x y c d e = cc

      no_parameter : (x : ℕ) (c : Cell) (k : SlotKind) (t : Ty) → Place.Local x c ≡ Place.Parameter k t → ⊥
      no_parameter x c k t e = absurd cc
  address_fits b d o h m e = tt

  frame_reads : (size : Size) (op : Operand) (i : Option Index) (t : Loaded) → nat_eq op.reg 0 ≡ true → op.indirect ≡ false
      → IsBeside (option_map index_pair i) (index_distance i) → IsSmall (index_distance i) → IsBounded t.ty
      → rules_data.frame_value world.notes note s size (index_distance i) ≡ Ok t → MoveReads size (indexed op i) t.ty
  unfolding value
  frame_reads Size.Qword op i t y g h m bounded e = record {
    read = local_at_location (located_on_stack world.notes a.frames (offset_of (option_map index_pair i)));
    is = ap (λ b. if b then loaded_by world a (Move Size.Qword) op.reg (option_map index_pair i)
        else Gives (direct_value world a op.reg (option_map index_pair i))) g
        ∙ ap (λ b. Gives (if b then local_at_location (located_on_stack world.notes a.frames (offset_of (option_map index_pair i)))
        else moved_by (a.registers op.reg) (option_map index_pair i))) y;
    fits = subst (λ (z : Loaded). FitsHere st z.ty
        (local_at_location (located_on_stack world.notes a.frames (offset_of (option_map index_pair i)))))
        (ok_same (record { ty = address_type (place_at world.notes note s 0 (index_distance i)); made = true }) t e)
        (address_fits (option_map index_pair i) (index_distance i) (place_at world.notes note s 0 (index_distance i)) h m refl);
    bounded = bounded;
    within = tt;
  }
  frame_reads Size.Byte op i t y g h m bounded e = absurd (err_ok RuleName.Stack t e)
  frame_reads size op i t y g h m bounded e = absurd (err_ok RuleName.Stack t e)

  -- from memory, or from a register
  pub move_reads : (size : Size) (op : Operand) (i : Option Index) (t : Loaded) → op.reg < 8
      → IsBeside (option_map index_pair i) (index_distance i) → IsSmall (index_distance i) → move_value world.notes note s size op i ≡ Ok t
      → t.made ≡ true → MoveReads size (indexed op i) t.ty
  unfolding move_value value
  move_reads size op i t l h m e q = either_ok op.indirect _ _ t (rw (access_same size) at e)
      (λ g e0.
      let r = load_fits st (Move size) op.reg (option_map index_pair i) (index_distance i) t l h m e0 q in
      record {
        read = r.value;
        is = ap whole g ∙ r.loaded;
        fits = subst (FitsHere st t.ty) (sym (loaded_kept st size op.reg (option_map index_pair i) t.ty r)) r.fits;
        bounded = t_known.bounded;
        within = load_within size op.reg (index_distance i) t e0;
      })
      (λ g e0. either_ok (nat_eq op.reg 0) _ _ t e0 (λ y e1. frame_reads size op i t y g h m t_known.bounded e1) (λ y e1. record {
        read = moved_by (a.registers op.reg) (option_map index_pair i);
        is = ap whole g ∙ ap Gives (direct_is world a op.reg (option_map index_pair i) y);
        fits = subst (λ (z : Loaded). FitsHere st z.ty (kept world.notes (live_memory world a).objects (Move size)
            (moved_by (a.registers op.reg) (option_map index_pair i)))) (ok_same _ t e1)
            (moved_fits st size op.reg i (eqb-false op.reg 0 y) l);
        bounded = t_known.bounded;
        within = subst (λ (z : Loaded). Within (access_of (Move size)) z.ty) (ok_same _ t e1) (kept_within size _);
      }))
    where
      whole : Bool → Outcome Neutral
      whole b = if b then loaded_by world a (Move size) op.reg (option_map index_pair i)
          else Gives (direct_value world a op.reg (option_map index_pair i))

      t_known : IsKnown world.notes note t.ty
      t_known = subst (λ o. IfOk o (λ (z : Loaded). IsKnown world.notes note z.ty)) e
          (move_value-known world.notes note s size op i st.typed.notes (known_params st) st.state.registers)

  -- A move from memory or from a register other than R0, to memory or to a register other than R0, goes on soundly.
  pub move_fits : (size : Size) (left right : Operand) (lidx ridx : Option Index) (next : ℕ) (k : Change)
      → left.reg < 8 → right.reg < 8 → IsBeside (option_map index_pair lidx) (index_distance lidx) → IsSmall (index_distance lidx)
      → IsBeside (option_map index_pair ridx) (index_distance ridx) → IsSmall (index_distance ridx) → next < world.image_size
      → rules_data.move_row world.notes note s size left right lidx ridx ≡ Ok k
      → Accepts (GoesOn world next (changed s k)) (move_row world a next size (indexed left lidx) (indexed right ridx))
  unfolding move_row rules_data.move_row
  move_fits size left right lidx ridx next k l r lb ls rb rs i e =
      then_ok (beside (destination world.notes note s (access_of (Move size)) left (index_distance lidx))
      (move_value world.notes note s size right ridx)) _ k (rw (access_same size) at e) (λ p e1 e2.
      beside_ok (destination world.notes note s (access_of (Move size)) left (index_distance lidx))
      (move_value world.notes note s size right ridx) p e1 (λ e3 e4.
      also_ok (put p.0 p.1.ty) (needs RuleName.Thunk p.1.made) k e2 (λ e5 e6.
      let v = move_reads size right ridx p.1 r rb rs e4 (needs_true RuleName.Thunk p.1.made e6) in
      subst (λ o. Accepts (GoesOn world next (changed s k)) (o >>= (λ x. written world a (Move size) (indexed left lidx)
      (kept world.notes (live_memory world a).objects (Move size) x) >>= (λ b. goes world b next)))) (sym v.is)
      (left_goes st (Move size) left (option_map index_pair lidx) (index_distance lidx) next p.0 k p.1.ty
      (kept world.notes (live_memory world a).objects (Move size) v.read) l lb ls i e3 e5 v.within v.bounded v.fits))))
