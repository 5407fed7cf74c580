-- The values of operands fit the types that the rules give.
use Rattle.typing_laws.proofs.Common.{◌≡◌, ◌≢◌, ℕ, suc, ◌+◌, ◌%◌, ◌^◌, ◌<◌, ◌⊎◌, true, false, ◌&&◌, if◌then◌else◌, nat_eq, List, length}
use Rattle.typing_laws.proofs.Common.{Option, Some, None, Result, Ok, Err, slice_get, refl, sym, ap, ap₂, ◌∙◌, subst, arith, inl, inr}
use Rattle.typing_laws.proofs.Common.{⊎_elim, option_map, option_and_then, ℤ, pos, negsuc, int_le, unsigned_abs, le-leb, ne_eqb, eqb-true}
use Rattle.typing_laws.proofs.Common.{eqb-false, cases_Bool, none-some, wrap64, IsBounded, type_of, N, Q, SlotKind, FnNote, RuleName, State}
use Rattle.typing_laws.proofs.Common.{Ty, Loaded, Distance, Place, known, loads, load_place, load_at, or_else, local_fields, from_stack}
use Rattle.typing_laws.proofs.Common.{locals_size, place_at, pointed, stack_at, Neutral, FieldOfLocals, StackItem, Pushed, FunctionFrame}
use Rattle.typing_laws.proofs.Common.{Frame, Config, depth, World, live_memory, Gives, or_stuck, kept_natural, sign_extended, offset_of}
use Rattle.typing_laws.proofs.Common.{moved_by, located_by, loaded_by, Access, Move, Form, Signed, Location, CellAt, Offset, kept, value_at}
use Rattle.typing_laws.proofs.Common.{parameters_of, located_past, located_on_stack, located_among, Size}
use Rattle.rules_base.specs.Access.{parameter_load}
use Rattle.ebc_base.specs.Steps.{◌>>=◌}
use Rattle.note_types.specs.Known.{Names}
use Rattle.neutral_machine.specs.Locations.{slot_value}
use Rattle.typing_laws.proofs.Pointed.{IsBeside, Named, may_be_null, pointed_named}
use Rattle.typing_laws.proofs.Context.{GoodParam, TopSound, FitsHere, objects, cells, has_locals, same_locals, sizes_same, counted_object}
use Rattle.typing_laws.proofs.Context.{params_fit, good_params, seen}
use Rattle.typing_laws.proofs.{Rows.err_ok, Rows.ok_same, Rows.when_ok, Accesses.access_of, KeptFit.natural_fits, KeptFit.signed_fits}
use Rattle.typing_laws.proofs.{OnStack.OnStack, OnStack.stack_named, Loads.finish, Loads.LoadFits, Loads.place_load}

-- the parts of a distance are numbers of 64 bits
pub record IsSmall (d : Distance) : Type 0 where
  pub units : (n : ℕ) → d.n ≡ pos n → n < 2 ^ 64
  pub bytes : (n : ℕ) → d.c ≡ pos n → n < 2 ^ 64

-- what stands beside R0, where it isn't negative
beside_zero : (b : Option Offset) (d : Distance) (n c : ℕ) → IsBeside b d → IsSmall d → d.n ≡ pos n → d.c ≡ pos c
    → ((offset_of b).n ≡ 0 + n) × ((offset_of b).c ≡ 0 + c)
beside_zero None d n c h s en ec = (zero_is n (sym en ∙ h.0), zero_is c (sym ec ∙ h.1))
  where
    zero_is : (n : ℕ) → pos n ≡ pos 0 → 0 ≡ 0 + n
    zero_is n e = let f : n ≡ 0 = cc in omega (arith, f)
beside_zero (Some p) d n c h s en ec =
    let a = s.units n en in
    let b = s.bytes c ec in
    let e1 : p.n ≡ n % 2 ^ 64 = h.0 ∙ ap wrap64 en in
    let e2 : p.c ≡ c % 2 ^ 64 = h.1 ∙ ap wrap64 ec in
    (omega (arith, a, e1), omega (arith, b, e2))

-- what a part gives, and what another part makes of it
pub then_ok : {A B P : Type 0} (o : Result A RuleName) (k : A → Result B RuleName) (y : B) → (o >>= k) ≡ Ok y
    → ((x : A) → o ≡ Ok x → k x ≡ Ok y → P) → P
then_ok (Ok x) k y e f = f x refl e
then_ok (Err r) k y e f = absurd (err_ok r y e)

pub some_ok : {A P : Type 0} (r : RuleName) (o : Option A) (x : A) → or_else r o ≡ Ok x → (o ≡ Some x → P) → P
some_ok r None x e f = absurd (err_ok r x e)
some_ok {A} r (Some y) x e f = f (ap Some (ok_same y x e))

module _ {world : World} {a : Config} {f : FunctionFrame} {fs : List Frame} {note : FnNote} {s : State}
    (st : TopSound world a f fs note s) where
  pub register_fits : (r : ℕ) → r ≢ 0 → r < 8 → FitsHere st (type_of s r) (a.registers r)
  register_fits r n l = st.top.registers r (omega (arith, n)) l

  -- what a load that the rules allow gives
  pub record OperandFits (access : Access) (r : ℕ) (b : Option Offset) (t : Ty) : Type 0 where
    pub value : Neutral
    pub loaded : loaded_by world a access r b ≡ Gives value
    pub fits : FitsHere st t (finish access value)
    pub whole : Neutral
    pub is : value ≡ kept world.notes (live_memory world a).objects access whole

  at_location : (access : Access) (r : ℕ) (b : Option Offset) (t : Ty) (l : Location) → located_by world a r b ≡ Some l
      → LoadFits st access l t → OperandFits access r b t
  unfolding loaded_by
  at_location access r b t l e h = record {
    value = kept world.notes (live_memory world a).objects access h.value;
    loaded = ap (λ o. or_stuck (option_map (kept world.notes (live_memory world a).objects access)
        (option_and_then (value_at world a access) o))) e
        ∙ ap (λ o. or_stuck (option_map (kept world.notes (live_memory world a).objects access) o)) h.at;
    fits = h.fits;
    whole = h.value;
    is = refl;
  }

  -- a load never is of a place that may be null
  no_null : (access : Access) (p : Place) (r : Loaded) → load_place s (access_of access) p ≡ Ok r
      → may_be_null world.notes (live_memory world a) (depth fs) p ≡ false
  no_null access (Place.Object c true) r e = when_ok (loads (access_of access) c) _ _ r e (λ _ h. absurd (err_ok RuleName.Null r h))
  no_null access p r e = refl

  -- ---- through a register

  pub by_register : (r : ℕ) (b : Option Offset) → r ≢ 0 → located_by world a r b ≡ located_past world.notes (live_memory world a).objects
      (moved_by (a.registers r) b)
  by_register r b n = ap (λ t. if t then located_on_stack world.notes a.frames (offset_of b)
      else located_past world.notes (live_memory world a).objects (moved_by (a.registers r) b)) (ne_eqb r 0 n)

  pub register_named : (r : ℕ) (b : Option Offset) (d : Distance) (p : Place) → r ≢ 0 → r < 8 → IsBeside b d
      → pointed world.notes note (type_of s r) d ≡ Some p → may_be_null world.notes (live_memory world a) (depth fs) p ≡ false
      → Named world.notes (live_memory world a) (depth fs) (moved_by (a.registers r) b) p
  register_named r b d p n l h e q =
      let k = st.state.registers r in
      pointed_named world.notes (live_memory world a) (objects st) (cells st) note (depth fs) f.saved (counted_object st) (same_locals st)
      (type_of s r) (a.registers r) b d p k.bounded (λ i g. thunk_in (type_of s r) i g k.names) h (register_fits r n l) e q
    where
      thunk_in : (t : Ty) (i : ℕ) → t ≡ Ty.ThunkAt i → Names world.notes note t → i < length world.notes.thunk
      thunk_in t i e h = subst (λ z. Names world.notes note z) e h

  -- ---- on the stack

  loaded_ty : (t : Ty) (r : Loaded) → known t ≡ Ok r → t ≡ r.ty
  loaded_ty t r e = cc

  -- fewer grants
  weaker : (g : ℕ) (v : Neutral) → FitsHere st (Ty.SignedStatus g) v → FitsHere st (Ty.SignedStatus 0) v
  weaker g v h = ⊎_elim (λ e. inl e) (λ q. inr (q.0, λ x i. absurd (omega (arith, i)))) h

  -- a status that is loaded with its sign
  signed_status : (x : ℕ) (v : Neutral) (r : Loaded) → known (Ty.SignedStatus 0) ≡ Ok r → IsBounded (Ty.Status x)
      → FitsHere st (Ty.Status x) v → FitsHere st r.ty (sign_extended (kept_natural world.notes (live_memory world a).objects v))
  signed_status x v r e b h =
      subst (λ z. FitsHere st z (sign_extended (kept_natural world.notes (live_memory world a).objects v)))
      (loaded_ty (Ty.SignedStatus 0) r e) (weaker x _ (signed_fits (seen st) (objects st) (Ty.Status x) _
      (natural_fits (seen st) (objects st) (Ty.Status x) v b h)))

  parameter_value : (access : Access) (k : SlotKind) (t : Ty) (v : Neutral) (o : Option StackItem) (r : Loaded) → o ≡ Some (Pushed k v)
      → GoodParam (record { kind = k; ty = t }) → FitsHere st t v → parameter_load (access_of access) k t ≡ Ok r
      → (slot_value access o ≡ Some v) × FitsHere st r.ty (finish access (kept world.notes (live_memory world a).objects access v))
  parameter_value (Move Size.Byte) N t v o r e g h q = absurd (err_ok RuleName.Address r q)
  parameter_value (Move Size.Word) N t v o r e g h q = absurd (err_ok RuleName.Address r q)
  parameter_value (Move Size.Dword) N t v o r e g h q = absurd (err_ok RuleName.Address r q)
  parameter_value (Move Size.Qword) Q t v o r e g h q = (
    ap (slot_value (Move Size.Qword)) e,
    subst (λ z. FitsHere st z v) (loaded_ty t r q) h,
  )
  parameter_value (Move Size.Natural) N t v o r e g h q = (
    ap (slot_value (Move Size.Natural)) e,
    subst (λ z. FitsHere st z (kept_natural world.notes (live_memory world a).objects v)) (g.1 refl ∙ loaded_ty t r q)
        (natural_fits (seen st) (objects st) t v g.0 h),
  )
  parameter_value (Form true) N t v o r e g h q = absurd (err_ok RuleName.Address r q)
  parameter_value (Form false) N t v o r e g h q = absurd (err_ok RuleName.Address r q)
  parameter_value Signed N (Ty.Status x) v o r e g h q = (ap (slot_value Signed) e, signed_status x v r q g.0 h)
  parameter_value Signed Q (Ty.Status x) v o r e g h q = (ap (slot_value Signed) e, signed_status x v r q g.0 h)
  parameter_value c k t v o r e g h q = absurd (err_ok RuleName.Address r q)

  on_stack : (access : Access) (p : Place) (l : Location) (r : Loaded)
      → OnStack world.notes (live_memory world a) (depth fs) f GoodParam (parameters_of world.notes a.frames) p l
      → load_place s (access_of access) p ≡ Ok r → r.made ≡ true → LoadFits st access l r.ty
  unfolding value_at
  on_stack access p l r o e h = ⊎_elim
      (λ q. subst (λ z. LoadFits st access z r.ty) (sym q.3) (place_load st access (Place.Local q.0 q.1)
      (CellAt (FieldOfLocals (depth fs) q.0)) r (refl, q.4) (sym (ap (load_place s (access_of access)) q.2) ∙ e) h))
      (λ q. subst (λ z. LoadFits st access z r.ty) (sym q.4)
      (let w = parameter_value access (q.1).kind (q.1).ty q.2 (slice_get (parameters_of world.notes a.frames) q.0) r q.5 q.7 q.6
      (sym (ap (load_place s (access_of access)) q.3) ∙ e) in
      record { value = q.2; at = w.0; fits = w.1 })) o.names

  -- what lies at a distance above R0
  pub stack_found : (b : Option Offset) (d : Distance) (p : Place) → IsBeside b d → IsSmall d
      → from_stack (local_fields world.notes note) (locals_size world.notes note) note.params s.items d ≡ Some p → (l : Location)
      × (located_by world a 0 b ≡ Some l) × OnStack world.notes (live_memory world a) (depth fs) f GoodParam
      (parameters_of world.notes a.frames) p l
  unfolding located_on_stack
  stack_found b d p h m e = go d.n refl d.c refl e
    where
      go : (x : ℤ) → d.n ≡ x → (y : ℤ) → d.c ≡ y → (if int_le (pos 0) x && int_le (pos 0) y then
          stack_at (local_fields world.notes note) (locals_size world.notes note) note.params s.items (unsigned_abs x) (unsigned_abs y)
          else None) ≡ Some p → (l : Location) × (located_by world a 0 b ≡ Some l)
          × OnStack world.notes (live_memory world a) (depth fs) f GoodParam (parameters_of world.notes a.frames) p l
      go (pos n) en (pos c) ec e =
          let z = beside_zero b d n c h m en ec in
          let r = stack_named world.notes (live_memory world a) (depth fs) f GoodParam (local_fields world.notes note)
          (locals_size world.notes note) (sizes_same st) (parameters_of world.notes a.frames) note.params (params_fit st) (good_params st)
          (offset_of b) 0 0 n c f.items s.items p (has_locals st) z.0 z.1 st.top.items (natural_case n c e) in (
            r.0,
            ap (λ k. located_on_stack world.notes k (offset_of b)) st.frames
                ∙ ap (λ k. located_among (offset_of b) (depth fs) 0 0 (parameters_of world.notes k) f.items) (sym st.frames) ∙ r.1,
            r.2,
          )
        where
          natural_case : (n c : ℕ) → (if int_le (pos 0) (pos n) && int_le (pos 0) (pos c) then
              stack_at (local_fields world.notes note) (locals_size world.notes note) note.params s.items n c else None) ≡ Some p
              → stack_at (local_fields world.notes note) (locals_size world.notes note) note.params s.items n c ≡ Some p
          natural_case n c e = sym (ap₂ (λ i j. if i && j then stack_at (local_fields world.notes note)
              (locals_size world.notes note) note.params s.items n c else None) (le-leb 0 n (omega arith)) (le-leb 0 c (omega arith))) ∙ e
      go (pos n) en (negsuc c) ec e = absurd (none-some p (sym (ap
          (λ i. if i && false then stack_at (local_fields world.notes note) (locals_size world.notes note) note.params s.items n (suc c)
          else None) (le-leb 0 n (omega arith))) ∙ e))
      go (negsuc n) en y ec e = absurd (none-some p e)

  -- ---- all loads

  -- A load that the rules allow gives what fits.
  pub load_fits : (access : Access) (r : ℕ) (b : Option Offset) (d : Distance) (t : Loaded) → r < 8 → IsBeside b d → IsSmall d
      → load_at world.notes note s (access_of access) r d ≡ Ok t → t.made ≡ true → OperandFits access r b t.ty
  unfolding load_at place_at
  load_fits access r b d t l h m e q =
      then_ok (or_else RuleName.Address (place_at world.notes note s r d)) (load_place s (access_of access)) t e
      (λ p e1 e2. some_ok RuleName.Address (place_at world.notes note s r d) p e1 (λ e3. at_place p e3 e2))
    where
      at_place : (p : Place) → place_at world.notes note s r d ≡ Some p → load_place s (access_of access) p ≡ Ok t
          → OperandFits access r b t.ty
      at_place p e3 e2 = go (cases_Bool (nat_eq r 0))
        where
          go : (nat_eq r 0 ≡ true) ⊎ (nat_eq r 0 ≡ false) → OperandFits access r b t.ty
          go k = ⊎_elim
              (λ y.
              let z : r ≡ 0 = eqb-true r 0 y in
              let found = stack_found b d p h m (sym (ap (λ i. if i then
              from_stack (local_fields world.notes note) (locals_size world.notes note) note.params s.items d
              else pointed world.notes note (type_of s r) d) y) ∙ e3) in
              at_location access r b t.ty found.0 (ap (λ i. located_by world a i b) z ∙ found.1) (on_stack access p found.0 t found.2 e2 q))
              (λ y.
              let n : r ≢ 0 = eqb-false r 0 y in
              let g = register_named r b d p n l h (sym (ap (λ i. if i then
              from_stack (local_fields world.notes note) (locals_size world.notes note) note.params s.items d
              else pointed world.notes note (type_of s r) d) y) ∙ e3) (no_null access p t e2) in
              at_location access r b t.ty g.location (by_register r b n ∙ g.located) (place_load st access p g.location t g.names e2 q)) k
