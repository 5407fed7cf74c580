-- The rows of CMPI and of MOVsn.
use Rattle.typing_laws.proofs.Common.{◌≡◌, ℕ, ◌<◌, Bool, true, false, if◌then◌else◌, nat_eq, List, Option, Some, None, Ok, IfOk, refl, sym}
use Rattle.typing_laws.proofs.Common.{ap, ◌∙◌, subst, arith, option_map, ℤ, eqb-false, same_Some, none-some, wrap64, Index, CmpOp, Extra}
use Rattle.typing_laws.proofs.Common.{Operand, IsKnown, type_of, IsBounded, FnNote, RuleName, Fact, State, Ty, or_else, load_at, changed}
use Rattle.typing_laws.proofs.Common.{with_fact, destination, index_distance, with_immediate, beside, constant, register_type, Loaded}
use Rattle.typing_laws.proofs.Common.{Change, Distance, compares, flag, left_value, wrap_below, FunctionFrame, Frame, Config, FactHolds}
use Rattle.typing_laws.proofs.Common.{Form, compared_as, Outcome, Gives, ◌>>=◌, or_stuck, Neutral, number, World, direct_value, index_pair}
use Rattle.typing_laws.proofs.Common.{indexed, loaded_by, moved_by, value, goes, with_c, Accepts, live_memory, N, Q, loads, load_place}
use Rattle.typing_laws.proofs.Common.{extra_distance, has_field, place_at, operand_value, Place, Signed, sign_extended, beside_extra}
use Rattle.typing_laws.proofs.Common.{extra_pair, RuleAccess}
use Rattle.rules_data.specs.Data.{fact_of}
use Rattle.rules_laws.proofs.RowsKeep.{left_value-known, signed_value-known}
use Rattle.neutral_machine.specs.Rows.{compare_imm_row, move_signed_row}
use Rattle.typing_laws.proofs.ArithRow.{GoesOn, accepts_is, accepts_then, beside_ok, form_same, memory_value, BesideFits, direct_is}
use Rattle.typing_laws.proofs.ArithRow.{immediate_fits, known_made, left_goes, register_is}
use Rattle.typing_laws.proofs.Rows.{either_ok, map_ok, unless_ok, when_ok, same_fits, err_ok, ok_same, wraps}
use Rattle.typing_laws.proofs.Context.{FitsHere, TopSound, known_params, objects, seen}
use Rattle.typing_laws.proofs.{CompareRow.flag_goes, Operands.IsSmall, Operands.then_ok, Operands.load_fits, Accesses.access_of}
use Rattle.typing_laws.proofs.{ComparesFit.compares_fit, Pointed.IsBeside, KeptFit.signed_fits}
use Rattle.rules_base.specs.Kept.{kept_signed}
use Rattle.rules_data.specs.Data as rules_data
use Rattle.neutral_machine.specs.Rows as rows
use Rattle.rules_base.specs.Values as rules_values

module _ {world : World} {a : Config} {f : FunctionFrame} {fs : List Frame} {note : FnNote} {s : State}
    (st : TopSound world a f fs note s) where
  -- ---- CMPI

  constant_bounded : (v : ℤ) → IsBounded (constant (wrap64 v))
  constant_bounded v = let l = wrap_below v in (omega arith, l, omega arith, omega arith)

  -- a comparison that the rule allows, and what it says of a register
  flagged : (op : CmpOp) (wide : Bool) (v : Neutral) (t : Ty) (imm : ℤ) (o : Option Fact) (next : ℕ) (k : Change) → next < world.image_size
      → IsBounded t → FitsHere st t v → flag o (compares op wide t (constant (wrap64 imm))) ≡ Ok k
      → ((x : Fact) (c : Bool) → o ≡ Some x → compared_as world.notes (live_memory world a).objects op wide v (number (wrap64 imm)) ≡ Some c
      → FactHolds world.notes (live_memory world a) a.registers c x) → Accepts (GoesOn world next (changed s k))
      (or_stuck (compared_as world.notes (live_memory world a).objects op wide v (number (wrap64 imm))) >>= (λ c. goes world
      (with_c a c) next))
  unfolding changed
  flagged op wide v t imm o next k i b h e holds = when_ok (compares op wide t (constant (wrap64 imm))) _ _ k e (λ q e1.
      let c = compares_fit (seen st) (objects st) op wide t (constant (wrap64 imm)) v (number (wrap64 imm)) b (constant_bounded imm) q h
      (same_fits (seen st) (wrap64 imm) (wrap64 imm) (number (wrap64 imm)) refl (wraps imm)) in
      subst (λ z. Accepts (GoesOn world next (changed s z)) (or_stuck
      (compared_as world.notes (live_memory world a).objects op wide v (number (wrap64 imm))) >>= (λ c. goes world (with_c a c) next)))
      (ok_same (Change.Compared o) k e1)
      (subst (λ z. Accepts (GoesOn world next (with_fact s o)) (or_stuck z >>= (λ c. goes world (with_c a c) next))) (sym c.1)
      (flag_goes st c.0 o next i (λ x y. holds x c.0 y c.1))))

  fact_is : (op : CmpOp) (wide : Bool) (reg : ℕ) (imm : ℤ) (x : Fact) (c : Bool)
      → (if wide then Some (record { reg = reg; op = op; k = wrap64 imm }) else None) ≡ Some x
      → compared_as world.notes (live_memory world a).objects op wide (a.registers reg) (number (wrap64 imm)) ≡ Some c
      → FactHolds world.notes (live_memory world a) a.registers c x
  fact_is op false reg imm x c e h = absurd (none-some x e)
  fact_is op true reg imm x c e h =
      subst (FactHolds world.notes (live_memory world a) a.registers c) (same_Some (record { reg = reg; op = op; k = wrap64 imm }) x e)
      (record {
        gave = ap (λ z. compared_as world.notes (live_memory world a).objects op true (a.registers reg) (number z))
            (sym (wraps imm)) ∙ h;
      })

  no_fact : (op : CmpOp) (wide : Bool) (left : Operand) (imm : ℤ) → left.indirect ≡ true → fact_of op wide left imm ≡ None
  no_fact op true left imm e = ap (λ b. if b then None else Some (record { reg = left.reg; op = op; k = wrap64 imm })) e
  no_fact op false left imm e = refl

  some_fact : (op : CmpOp) (wide : Bool) (left : Operand) (imm : ℤ) → left.indirect ≡ false
      → fact_of op wide left imm ≡ (if wide then Some (record { reg = left.reg; op = op; k = wrap64 imm }) else None)
  some_fact op wide left imm e = ap (λ b. if wide then (if b then None else Some (record { reg = left.reg; op = op; k = wrap64 imm }))
      else None) e

  pub compare_imm_fits : (op : CmpOp) (wide : Bool) (left : Operand) (idx : Option Index) (imm : ℤ) (next : ℕ) (k : Change)
      → left.reg < 8 → (left.indirect ≡ false → idx ≡ None)
      → IsBeside (option_map index_pair idx) (index_distance idx) → IsSmall (index_distance idx) → next < world.image_size
      → rules_data.compare_imm_row world.notes note s op wide left idx imm ≡ Ok k
      → Accepts (GoesOn world next (changed s k)) (compare_imm_row world a next op wide (indexed left idx) imm)
  unfolding compare_imm_row rules_data.compare_imm_row value register_type
  compare_imm_fits op wide left idx imm next k l none b m i e =
      then_ok (left_value world.notes note s (access_of (Form wide)) left (index_distance idx)) _ k (rw (form_same wide) at e) (λ t e1 e2.
      let bt = (subst (λ o. IfOk o (IsKnown world.notes note)) e1 (left_value-known world.notes note s (access_of (Form wide)) left
      (index_distance idx) st.typed.notes (known_params st) st.state.registers)).bounded in
      either_ok left.indirect _ _ t e1
      (λ g e3. map_ok (λ (z : Loaded). z.ty) (load_at world.notes note s (access_of (Form wide)) left.reg (index_distance idx)) t e3
      (λ q e4 e5. subst (λ z. Q (whole z)) (sym g) (accepts_then (FitsHere st t) (GoesOn world next (changed s k))
      (loaded_by world a (Form wide) left.reg (option_map index_pair idx)) compared
      (subst (λ z. Accepts (FitsHere st z) (loaded_by world a (Form wide) left.reg (option_map index_pair idx))) e5
      (memory_value st wide left.reg (option_map index_pair idx) (index_distance idx) q l b m e4))
      (λ v fv. flagged op wide v t imm None next k i bt fv (ap (λ z. flag z (compares op wide t (constant (wrap64 imm))))
      (sym (no_fact op wide left imm g)) ∙ e2) (λ x c y z. absurd (none-some x y))))))
      (λ g e3.
      let r = register_is st left.reg t l e3 in
      subst (λ z. Q (whole z)) (sym g)
      (subst (λ v. Q (compared v)) (sym (ap (λ z. direct_value world a left.reg (option_map index_pair z)) (none g) ∙ r.0))
      (flagged op wide (a.registers left.reg) t imm (if wide then Some (record { reg = left.reg; op = op; k = wrap64 imm }) else None)
      next k i bt r.1 (ap (λ z. flag z (compares op wide t (constant (wrap64 imm)))) (sym (some_fact op wide left imm g)) ∙ e2)
      (λ x c y z. fact_is op wide left.reg imm x c y z)))))
    where
      Q : Outcome (rows.NeutralEnd × Config) → Type 0
      Q o = Accepts (GoesOn world next (changed s k)) o

      compared : Neutral → Outcome (rows.NeutralEnd × Config)
      compared v = or_stuck (compared_as world.notes (live_memory world a).objects op wide v (number (wrap64 imm))) >>= (λ c. goes world
          (with_c a c) next)

      whole : Bool → Outcome (rows.NeutralEnd × Config)
      whole j = (if j then loaded_by world a (Form wide) left.reg (option_map index_pair idx)
          else Gives (direct_value world a left.reg (option_map index_pair idx))) >>= compared

  -- ---- MOVsn

  -- what MOVsn loads is no thunk cell's
  made_signed : (p : Place) (t : Loaded) → load_place s RuleAccess.Signed p ≡ Ok t → t.made ≡ true
  made_signed (Place.Object c null) t e = when_ok (loads RuleAccess.Signed c) _ _ t e (λ _ e1.
      unless_ok null _ _ t e1 (λ _ e2. known_made _ t e2))
  made_signed (Place.Local x c) t e = when_ok (loads RuleAccess.Signed c) _ _ t e (λ _ e1.
      when_ok (has_field s.written x) _ _ t e1 (λ _ e2. known_made _ t e2))
  made_signed (Place.Parameter N (Ty.Status g)) t e = known_made _ t e
  made_signed (Place.Parameter Q (Ty.Status g)) t e = known_made _ t e
  made_signed p t e = absurd (err_ok RuleName.Address t e)

  made_there : (r : ℕ) (d : Distance) (t : Loaded) → load_at world.notes note s RuleAccess.Signed r d ≡ Ok t → t.made ≡ true
  unfolding load_at
  made_there r d t e = then_ok (or_else RuleName.Address (place_at world.notes note s r d)) (load_place s RuleAccess.Signed) t e
      (λ p e1 e2. made_signed p t e2)

  -- the value that MOVsn reads, sign-extended
  signed_reads : (right : Operand) (extra : Extra) (t : Loaded) → BesideFits right extra
      → rules_data.signed_value world.notes note s right extra ≡ Ok t
      → Accepts (λ v. FitsHere st t.ty (sign_extended v)) (value world a Signed (beside_extra right extra))
  unfolding value operand_value rules_data.signed_value
  signed_reads right extra t b e = either_ok right.indirect _ _ t e
      (λ g e0.
      let e1 = sym (ap (λ z. if z then load_at world.notes note s RuleAccess.Signed right.reg (extra_distance extra)
      else rules_values.direct_value world.notes s right.reg extra) g) ∙ e0 in
      let m = b.memory g in
      let q = load_fits st Signed right.reg (extra_pair extra) (extra_distance extra) t b.register m.0 m.1 e1
      (made_there right.reg (extra_distance extra) t e1) in
      subst (λ z. Accepts R (whole z)) (sym g) (accepts_is R (whole true) q.value q.loaded q.fits))
      (λ g e0. unless_ok (nat_eq right.reg 0) _ _ t e0 (λ q e1.
      subst (λ z. Accepts R (whole z)) (sym g)
      (subst (λ (z : Loaded). FitsHere st z.ty (sign_extended (direct_value world a right.reg (extra_pair extra)))) (ok_same _ t e1)
      (subst (λ v. FitsHere st (kept_signed (with_immediate world.notes.shape (type_of s right.reg) extra)) (sign_extended v))
      (sym (direct_is world a right.reg (extra_pair extra) q)) (signed_fits (seen st) (objects st)
      (with_immediate world.notes.shape (type_of s right.reg) extra) (moved_by (a.registers right.reg) (extra_pair extra))
      (immediate_fits st right.reg extra (eqb-false right.reg 0 q) b.register (b.direct g)))))))
    where
      R : Neutral → Type 0
      R v = FitsHere st t.ty (sign_extended v)

      whole : Bool → Outcome Neutral
      whole j = if j then loaded_by world a Signed right.reg (extra_pair extra)
          else Gives (direct_value world a right.reg (extra_pair extra))

  pub move_signed_fits : (left right : Operand) (lidx : Option Index) (extra : Extra) (next : ℕ) (k : Change)
      → left.reg < 8 → IsBeside (option_map index_pair lidx) (index_distance lidx) → IsSmall (index_distance lidx) → BesideFits right extra
      → next < world.image_size → rules_data.move_signed_row world.notes note s left right lidx extra ≡ Ok k
      → Accepts (GoesOn world next (changed s k)) (move_signed_row world a next (indexed left lidx) (beside_extra right extra))
  unfolding move_signed_row rules_data.move_signed_row
  move_signed_fits left right lidx extra next k l lb ls b i e =
      then_ok (beside (destination world.notes note s RuleAccess.Signed left (index_distance lidx))
      (rules_data.signed_value world.notes note s right extra)) _ k e (λ p e1 e2.
      beside_ok (destination world.notes note s RuleAccess.Signed left (index_distance lidx))
      (rules_data.signed_value world.notes note s right extra) p e1 (λ e3 e4.
      let q = (subst (λ o. IfOk o (λ (z : Loaded). IsKnown world.notes note z.ty)) e4
      (signed_value-known world.notes note s right extra st.typed.notes (known_params st) st.state.registers)).bounded in
      accepts_then (λ v. FitsHere st p.1.ty (sign_extended v)) (GoesOn world next (changed s k))
      (value world a Signed (beside_extra right extra)) _ (signed_reads right extra p.1 b e4) (λ v fv. left_goes st Signed left
      (option_map index_pair lidx) (index_distance lidx) next p.0 k p.1.ty (sign_extended v) l lb ls i e3 e2 tt q fv)))
