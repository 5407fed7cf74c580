-- The row of arithmetic: what its rule accepts, the neutral machine does, and stays sound.
use Rattle.typing_laws.proofs.Common.{◌≡◌, ◌≢◌, ℕ, ◌^◌, ◌<◌, Bool, true, false, ◌&&◌, if◌then◌else◌, nat_eq, List, Option, Some, None}
use Rattle.typing_laws.proofs.Common.{Result, Ok, Err, IfOk, refl, sym, ap, ◌∙◌, subst, arith, pos, lt-ltb, eqb-false, ArithOp, Extra}
use Rattle.typing_laws.proofs.Common.{Nothing, Imm, Idx, Operand, wrap64, computed, Index, type_of, IsBounded, FnNote, RuleName, State, Ty}
use Rattle.typing_laws.proofs.Common.{Loaded, Change, Destination, Distance, Place, known, loads, load_place, load_at, changed, destination}
use Rattle.typing_laws.proofs.Common.{put, extra_distance, with_immediate, or_else, also, beside, needs, constant, constant_of, full}
use Rattle.typing_laws.proofs.Common.{is_int, has_field, place_at, form_access, operand_value, register_type, IsKnown, computed_type}
use Rattle.typing_laws.proofs.Common.{divisor_known, is_unary, folded, fold_row, or_ints, left_value, number, FunctionFrame, Frame, Config}
use Rattle.typing_laws.proofs.Common.{World, Outcome, Gives, Raises, Stuck, ◌>>=◌, combined, plainly, beside_extra, local_at_location}
use Rattle.typing_laws.proofs.Common.{offset_of, extra_pair, moved_by, direct_value, loaded_by, value, written, Form, Offset}
use Rattle.typing_laws.proofs.Common.{located_on_stack, NeutralEnd, Next, goes, same_Some, DivideError, operand_value-known, Accepts}
use Rattle.typing_laws.proofs.Common.{Access, Neutral, wrap_below}
use Rattle.rules_base.specs.Operands.{nowhere}
use Rattle.neutral_machine.specs.Rows.{arith_row}
use Rattle.rules_base.specs.declared.access.Access.{Access as RuleAccess}
use Rattle.rules_data.specs.declared.rows.Held.{Held}
use Rattle.rules_laws.proofs.{DataKeep.computed_type-known, RowsKeep.left_value-known}
use Rattle.typing_laws.proofs.Rows.{either_ok, map_ok, needs_true, unless_ok, when_ok, then_some, same_fits, err_ok, ok_same, wraps}
use Rattle.typing_laws.proofs.Operands.{IsSmall, register_fits, load_fits, then_ok}
use Rattle.typing_laws.proofs.Context.{FitsHere, TopSound, known_params, seen}
use Rattle.typing_laws.proofs.{Loads.finish, ComputedFit.computed_below, Accesses.access_of, SumsFit.sum_fits, WideFit.computed_fits}
use Rattle.typing_laws.proofs.{Pointed.IsBeside, Stores.Within, Written.After, Written.result_left}
use Rattle.rules_data.specs.Data as rules_data
use Rattle.note_types.specs.declared.spot.Spot.TheVariants as host

-- ---- outcomes

pub accepts_then : {A B : Type 0} (P : A → Type 0) (Q : B → Type 0) (o : Outcome A) (k : A → Outcome B) → Accepts P o
    → ((x : A) → P x → Accepts Q (k x)) → Accepts Q (o >>= k)
accepts_then P Q (Gives x) k h f = f x h
accepts_then P Q (Raises e) k h f = h
accepts_then P Q Stuck k h f = absurd h

pub accepts_is : {A : Type 0} (P : A → Type 0) (o : Outcome A) (x : A) → o ≡ Gives x → P x → Accepts P o
accepts_is P o x e h = subst (Accepts P) (sym e) h

pub beside_ok : {A B P : Type 0} (x : Result A RuleName) (y : Result B RuleName) (p : A × B) → beside x y ≡ Ok p
    → (x ≡ Ok p.0 → y ≡ Ok p.1 → P) → P
beside_ok (Ok x) (Ok y) p e k = let q = ok_same (x, y) p e in k (ap (λ z. Ok (z.0)) q) (ap (λ z. Ok (z.1)) q)
beside_ok (Ok x) (Err r) p e k = absurd (err_ok r p e)
beside_ok (Err r) (Ok y) p e k = absurd (err_ok r p e)
beside_ok (Err r) (Err q) p e k = absurd (err_ok _ p e)

pub also_ok : {A P : Type 0} (x : Result A RuleName) (c : Option RuleName) (y : A) → also x c ≡ Ok y → (x ≡ Ok y → c ≡ None → P) → P
also_ok (Ok x) None y e k = k e refl
also_ok (Ok x) (Some r) y e k = absurd (err_ok r y e)
also_ok (Err r) None y e k = absurd (err_ok r y e)
also_ok (Err r) (Some q) y e k = absurd (err_ok _ y e)

-- what stands beside an operand, as an instruction's form allows it
pub record BesideFits (op : Operand) (extra : Extra) : Type 0 where
  pub register : op.reg < 8
  pub memory : op.indirect ≡ true → IsBeside (extra_pair extra) (extra_distance extra) × IsSmall (extra_distance extra)
  pub direct : op.indirect ≡ false → (i : Index) → extra ≡ Idx i → ⊥

pub nowhere_small : IsSmall nowhere
nowhere_small = record { units = λ n e. zero_small n e; bytes = λ n e. zero_small n e }
  where
    zero_small : (n : ℕ) → pos 0 ≡ pos n → n < 2 ^ 64
    zero_small n e = let f : 0 ≡ n = cc in omega (arith, f)

-- a row goes on at a place, with a state that stays sound
pub record GoesOn (world : World) (p : ℕ) (z : State) (x : NeutralEnd × Config) : Type 0 where
  pub ends : x.0 ≡ Next
  pub spot : x.1.spot ≡ host.Place p
  pub frame : FunctionFrame
  pub below : List Frame
  pub after : After world x.1 frame below z

pub goes_on : {world : World} {g : FunctionFrame} {gs : List Frame} (c : Config) (p : ℕ) (z : State) → p < world.image_size
    → After world c g gs z → Accepts (GoesOn world p z) (goes world c p)
unfolding goes
goes_on {world} {g} {gs} c p z l h =
    subst (λ b. Accepts (GoesOn world p z) ((if b then Gives (record c { spot = host.Place p }) else Stuck) >>= (λ b. Gives (Next, b))))
    (sym (lt-ltb p world.image_size l)) (record {
      ends = refl;
      spot = refl;
      frame = g;
      below = gs;
      after = record {
        frames = h.frames;
        top = h.top;
        below = record { cells = h.below.cells; frames = h.below.frames; few = h.below.few };
      };
    })

pub form_same : (wide : Bool) → form_access wide ≡ access_of (Form wide)
form_same true = refl
form_same false = refl

pub known_made : (i : Ty) (t : Loaded) → known i ≡ Ok t → t.made ≡ true
known_made i t e = sym (ap (λ (z : Loaded). z.made) (ok_same (record { ty = i; made = true }) t e))

-- the value of a register that isn't R0
pub direct_is : (world : World) (a : Config) (r : ℕ) (b : Option Offset) → nat_eq r 0 ≡ false
    → direct_value world a r b ≡ moved_by (a.registers r) b
direct_is world a r b q =
    ap (λ z. if z then local_at_location (located_on_stack world.notes a.frames (offset_of b)) else moved_by (a.registers r) b) q

module _ {world : World} {a : Config} {f : FunctionFrame} {fs : List Frame} {note : FnNote} {s : State}
    (st : TopSound world a f fs note s) where
  -- a form's load is of no thunk cell
  made_place : (wide : Bool) (p : Place) (t : Loaded) → load_place s (access_of (Form wide)) p ≡ Ok t → t.made ≡ true
  made_place wide (Place.Object c null) t e = when_ok (loads (access_of (Form wide)) c) _ _ t e (λ _ e1.
      unless_ok null _ _ t e1 (λ _ e2. known_made _ t e2))
  made_place wide (Place.Local x c) t e = when_ok (loads (access_of (Form wide)) c) _ _ t e (λ _ e1.
      when_ok (has_field s.written x) _ _ t e1 (λ _ e2. known_made _ t e2))
  made_place true (Place.Parameter k i) t e = absurd (err_ok RuleName.Address t e)
  made_place false (Place.Parameter k i) t e = absurd (err_ok RuleName.Address t e)
  made_place true (Place.ThunkCell i) t e = absurd (err_ok RuleName.Address t e)
  made_place false (Place.ThunkCell i) t e = absurd (err_ok RuleName.Address t e)

  pub made_at : (wide : Bool) (r : ℕ) (d : Distance) (t : Loaded) → load_at world.notes note s (access_of (Form wide)) r d ≡ Ok t
      → t.made ≡ true
  unfolding load_at
  made_at wide r d t e = then_ok (or_else RuleName.Address (place_at world.notes note s r d)) (load_place s (access_of (Form wide))) t e
      (λ p e1 e2. made_place wide p t e2)

  -- the value in memory
  pub memory_value : (wide : Bool) (r : ℕ) (b : Option Offset) (d : Distance) (t : Loaded) → r < 8 → IsBeside b d → IsSmall d
      → load_at world.notes note s (access_of (Form wide)) r d ≡ Ok t → Accepts (FitsHere st t.ty) (loaded_by world a (Form wide) r b)
  memory_value wide r b d t l h m e =
      let q = load_fits st (Form wide) r b d t l h m e (made_at wide r d t e) in
      accepts_is (FitsHere st t.ty) (loaded_by world a (Form wide) r b) q.value q.loaded q.fits

  -- a value and the immediate beside it
  pub moved_immediate : (t : Ty) (v : Neutral) (extra : Extra) → IsBounded t → ((i : Index) → extra ≡ Idx i → ⊥) → FitsHere st t v
      → FitsHere st (with_immediate world.notes.shape t extra) (moved_by v (extra_pair extra))
  moved_immediate t v Nothing b h k = k
  moved_immediate t v (Idx i) b h k = absurd (h i refl)
  moved_immediate t v (Imm z) b h k = sum_fits (seen st) t (constant (wrap64 z)) v (number (wrap64 z)) b
      (let l = wrap_below z in (omega arith, l, omega arith, omega arith)) k
      (same_fits (seen st) (wrap64 z) (wrap64 z) (number (wrap64 z)) refl (wraps z))

  -- a register's value and the immediate beside it
  pub immediate_fits : (r : ℕ) (extra : Extra) → r ≢ 0 → r < 8 → ((i : Index) → extra ≡ Idx i → ⊥)
      → FitsHere st (with_immediate world.notes.shape (type_of s r) extra) (moved_by (a.registers r) (extra_pair extra))
  immediate_fits r extra n l h =
      moved_immediate (type_of s r) (a.registers r) extra (st.state.registers r).bounded h (register_fits st r n l)

  -- The value of an operand, by an access that doesn't extend what it loads.
  pub operand_fits : (access : Access) (op : Operand) (extra : Extra) (t : Loaded) → ((v : Neutral) → finish access v ≡ v)
      → BesideFits op extra → (load_at world.notes note s (access_of access) op.reg (extra_distance extra) ≡ Ok t → t.made ≡ true)
      → operand_value world.notes note s (access_of access) op extra ≡ Ok t
      → Accepts (FitsHere st t.ty) (value world a access (beside_extra op extra))
  unfolding operand_value value
  operand_fits access op extra t same b made e = either_ok op.indirect _ _ t e
      (λ n e0.
      let m = b.memory n in
      let q = load_fits st access op.reg (extra_pair extra) (extra_distance extra) t b.register m.0 m.1 e0 (made e0) in
      subst (λ z. Accepts (FitsHere st t.ty) (whole z)) (sym n)
      (accepts_is (FitsHere st t.ty) (whole true) q.value q.loaded (subst (FitsHere st t.ty) (same q.value) q.fits)))
      (λ n e0. unless_ok (nat_eq op.reg 0) _ _ t e0 (λ q e1.
      subst (λ z. Accepts (FitsHere st t.ty) (whole z)) (sym n)
      (subst (λ (z : Loaded). FitsHere st z.ty (direct_value world a op.reg (extra_pair extra))) (ok_same _ t e1)
      (subst (FitsHere st (with_immediate world.notes.shape (type_of s op.reg) extra)) (sym (direct_is world a op.reg (extra_pair extra) q))
      (immediate_fits op.reg extra (eqb-false op.reg 0 q) b.register (b.direct n))))))
    where
      whole : Bool → Outcome Neutral
      whole z = if z then loaded_by world a access op.reg (extra_pair extra) else Gives (direct_value world a op.reg (extra_pair extra))

  -- The value of operand 2.
  pub right_fits : (wide : Bool) (op : Operand) (extra : Extra) (t : Loaded) → BesideFits op extra
      → operand_value world.notes note s (access_of (Form wide)) op extra ≡ Ok t
      → Accepts (FitsHere st t.ty) (value world a (Form wide) (beside_extra op extra))
  right_fits wide op extra t b e = operand_fits (Form wide) op extra t (λ v. refl) b (λ h. made_at wide op.reg (extra_distance extra) t h) e

  pub operand_known : (access : RuleAccess) (op : Operand) (extra : Extra) (t : Loaded)
      → operand_value world.notes note s access op extra ≡ Ok t → IsKnown world.notes note t.ty
  operand_known access op extra t e = subst (λ o. IfOk o (λ (z : Loaded). IsKnown world.notes note z.ty)) e
      (operand_value-known world.notes note s access op extra st.typed.notes (known_params st) st.state.registers)

  -- a register that isn't R0
  pub register_is : (r : ℕ) (t : Ty) → r < 8 → register_type s r ≡ Ok t
      → (direct_value world a r None ≡ a.registers r) × FitsHere st t (a.registers r)
  unfolding register_type
  register_is r t l e = unless_ok (nat_eq r 0) _ _ t e (λ q e1.
      (direct_is world a r None q, subst (λ z. FitsHere st z (a.registers r)) (ok_same _ t e1) (register_fits st r (eqb-false r 0 q) l)))

  -- The value of operand 1.
  pub left_fits : (wide : Bool) (op : Operand) (t : Ty) → op.reg < 8
      → left_value world.notes note s (access_of (Form wide)) op nowhere ≡ Ok t
      → Accepts (FitsHere st t) (value world a (Form wide) (plainly op))
  unfolding value
  left_fits wide op t l e = either_ok op.indirect _ _ t e
      (λ n e0. map_ok (λ (z : Loaded). z.ty) (load_at world.notes note s (access_of (Form wide)) op.reg nowhere) t e0 (λ q e1 e2.
      subst (λ z. Accepts (FitsHere st t) (whole z)) (sym n) (subst (λ z. Accepts (FitsHere st z) (whole true)) e2
      (memory_value wide op.reg None nowhere q l (refl, refl) nowhere_small e1))))
      (λ n e0. let r = register_is op.reg t l e0 in
      subst (λ z. Accepts (FitsHere st t) (whole z)) (sym n) (subst (FitsHere st t) (sym r.0) r.1))
    where
      whole : Bool → Outcome Neutral
      whole z = if z then loaded_by world a (Form wide) op.reg None else Gives (direct_value world a op.reg None)

  -- A result that is left, and control that goes on.
  pub left_goes : (access : Access) (op : Operand) (b : Option Offset) (d : Distance) (next : ℕ) (to : Destination) (k : Change) (t : Ty)
      (v : Neutral) → op.reg < 8 → IsBeside b d → IsSmall d → next < world.image_size
      → destination world.notes note s (access_of access) op d ≡ Ok to → put to t ≡ Ok k → Within (access_of access) t → IsBounded t
      → FitsHere st t v → Accepts (GoesOn world next (changed s k))
      (written world a access (record { reg = op.reg; indirect = op.indirect; beside = b }) v >>= (λ b. goes world b next))
  left_goes access op b d next to k t v l h m i e p w q g =
      let r = result_left st access op b d to k t v l h m e p w q g in
      subst (λ o. Accepts (GoesOn world next (changed s k)) (o >>= (λ c. goes world c next))) (sym r.is)
      (goes_on r.config next (changed s k) i r.after)

  -- ---- the row

  -- 32-bit results are within 32 bits
  within_form : (op : ArithOp) (wide : Bool) (x y : Ty) → Within (access_of (Form wide)) (computed_type world.notes.shape op wide x y)
  unfolding computed_type
  within_form op true x y = tt
  within_form op false x y = go (fold_row op false (if is_unary op then y else x) y) refl
    where
      ints : (b : Bool) → Within RuleAccess.Dword (if b then full 32 else Ty.Any)
      ints true = omega arith
      ints false = tt

      folds : (o : Result ℕ DivideError) → ((r : ℕ) → o ≡ Ok r → r < 2 ^ 32) → Within RuleAccess.Dword (folded false o)
      folds (Ok r) h = h r refl
      folds (Err e) h = omega arith

      go : (o : Option Ty) → fold_row op false (if is_unary op then y else x) y ≡ o
          → Within RuleAccess.Dword (or_ints false (if is_unary op then y else x) y o)
      go None e = ints (is_int (if is_unary op then y else x) && is_int y)
      go (Some t) e = then_some (constant_of (if is_unary op then y else x)) _ t e (λ i e1 h1. then_some (constant_of y) _ t h1 (λ j e2 h2.
          subst (Within RuleAccess.Dword) (same_Some _ t h2) (folds (computed op false i j) (λ r h. computed_below op false i j r h))))

  -- Arithmetic that its rule accepts: the neutral machine isn't stuck, raises nothing but a division by zero, and goes on soundly.
  pub arith_fits : (op : ArithOp) (wide : Bool) (left right : Operand) (extra : Extra) (next : ℕ) (k : Change)
      → left.reg < 8 → BesideFits right extra → next < world.image_size
      → rules_data.arith_row world.notes note s op wide left right extra ≡ Ok k
      → Accepts (GoesOn world next (changed s k)) (arith_row world a next op wide (plainly left) (beside_extra right extra))
  unfolding arith_row rules_data.arith_row rules_data.left_operand
  arith_fits op wide left right extra next k l b i e =
      then_ok (beside (rules_data.left_operand world.notes note s (access_of (Form wide)) left)
      (operand_value world.notes note s (access_of (Form wide)) right extra)) _ k (rw (form_same wide) at e) (λ p e1 e2.
      beside_ok (rules_data.left_operand world.notes note s (access_of (Form wide)) left)
      (operand_value world.notes note s (access_of (Form wide)) right extra) p e1 (λ e3 right_is.
      also_ok (put p.0.to (computed_type world.notes.shape op wide p.0.ty p.1.ty)) (needs RuleName.Divide (divisor_known op p.1.ty)) k e2
      (λ e5 e6. map_ok rules_data.held (beside (left_value world.notes note s (access_of (Form wide)) left nowhere)
      (destination world.notes note s (access_of (Form wide)) left nowhere)) p.0 e3 (λ q e7 e8.
      beside_ok (left_value world.notes note s (access_of (Form wide)) left nowhere)
      (destination world.notes note s (access_of (Form wide)) left nowhere) q e7 (λ e9 e10.
      let left_is : left_value world.notes note s (access_of (Form wide)) left nowhere ≡ Ok p.0.ty = e9 ∙ ap (λ (z : Held). Ok z.ty) e8 in
      let right_known = operand_known (access_of (Form wide)) right extra p.1 right_is in
      let left_known : IsKnown world.notes note p.0.ty = subst (λ o. IfOk o (IsKnown world.notes note)) left_is
      (left_value-known world.notes note s (access_of (Form wide)) left nowhere st.typed.notes (known_params st) st.state.registers) in
      accepts_then (FitsHere st p.1.ty) (GoesOn world next (changed s k))
      (value world a (Form wide) (beside_extra right extra)) _ (right_fits wide right extra p.1 b right_is) (λ u fu.
      accepts_then (FitsHere st p.0.ty) (GoesOn world next (changed s k)) (value world a (Form wide) (plainly left)) _
      (left_fits wide left p.0.ty l left_is) (λ v fv.
      accepts_then (FitsHere st (computed_type world.notes.shape op wide p.0.ty p.1.ty)) (GoesOn world next (changed s k))
      (combined op wide v u) _ (computed_fits (seen st) op wide p.0.ty p.1.ty v u left_known.bounded right_known.bounded
      (needs_true RuleName.Divide _ e6) fv fu) (λ z fz.
      left_goes (Form wide) left None nowhere next p.0.to k _ z l (refl, refl) nowhere_small i (e10 ∙ ap (λ (z : Held). Ok z.to) e8) e5
      (within_form op wide p.0.ty p.1.ty)
      (computed_type-known world.notes note world.notes.shape op wide p.0.ty p.1.ty left_known right_known).bounded fz))))))))
