-- A result is left where the rules allow it, and the configuration stays sound.
use Rattle.typing_laws.proofs.Common.{◌≡◌, ◌≢◌, ℕ, suc, ◌<◌, Bool, true, false, ◌&&◌, if◌then◌else◌, nat_eq, List, ◌∷◌, Option, Some, None}
use Rattle.typing_laws.proofs.Common.{Ok, refl, sym, ap, ◌∙◌, subst, arith, ⊎_elim, option_and_then, eqb-true, eqb-false, ne_eqb, and_from}
use Rattle.typing_laws.proofs.Common.{cases_Bool, same_Some, none-some, Operand, IsBoundedCell, content_type, type_of, IsBounded, Cell}
use Rattle.typing_laws.proofs.Common.{FnNote, RuleName, State, Ty, Change, Destination, Register, Distance, Place, stores, takes}
use Rattle.typing_laws.proofs.Common.{target_place, target_at, changed, with_type, with_store, destination, put, or_else, local_fields}
use Rattle.typing_laws.proofs.Common.{from_stack, locals_size, place_at, pointed, Neutral, CellPlace, FieldOfLocals, FunctionFrame, Frame}
use Rattle.typing_laws.proofs.Common.{Function, Config, depth, with_value, World, live_memory, with_cell, FitsPlain, FitsState, SoundBelow}
use Rattle.typing_laws.proofs.Common.{Gives, Stuck, or_stuck, NeutralSide, located_by, stored_by, with_register, written, Access, Location}
use Rattle.typing_laws.proofs.Common.{CellAt, ParamAt, Offset, writes, fits_cell, parameters_of, memory_of}
use Rattle.rules_base.specs.declared.{access.Target.Target, destination.Destination.TheVariants.Memory}
use Rattle.rules_base.specs.Access.{object_target, local_target}
use Rattle.neutral_machine.specs.Locations.{stored_in, stored_at}
use Rattle.typing_laws.proofs.Stores.{Within, content_plain, content_fits, taken_fits}
use Rattle.typing_laws.proofs.Context.{GoodParam, TopSound, objects, counted_local, passed_params, FitsHere, seen}
use Rattle.typing_laws.proofs.Operands.{IsSmall, then_ok, some_ok, register_named, by_register, stack_found}
use Rattle.typing_laws.proofs.Rows.{either_ok, err_ok, map_ok, ok_same, unless_ok, when_ok}
use Rattle.typing_laws.proofs.{Pointed.IsBeside, Pointed.PlaceNames, Pointed.CellThere, Pointed.may_be_null, StoredSound.cells_stored}
use Rattle.typing_laws.proofs.{StoredSound.state_stored, StoredSound.store_later, Accesses.access_of, Accesses.writes_from, OnStack.OnStack}
use Rattle.typing_laws.proofs.{LiveCells.frames_kept, LiveCells.below_down, LiveCells.later_below, Changes.register_written}
use Rattle.neutral_machine.specs.Locations as locations

-- A configuration is sound with a state of the function on top.
pub record After (world : World) (c : Config) (f : FunctionFrame) (fs : List Frame) (s : State) : Type 0 where
  pub frames : c.frames ≡ Function f ∷ fs
  pub top : FitsState world.notes (live_memory world c) (depth fs) f s c.registers c.c c.made
  pub below : SoundBelow world c

module _ {world : World} {a : Config} {f : FunctionFrame} {fs : List Frame} {note : FnNote} {s : State}
    (st : TopSound world a f fs note s) where
  -- the cell that a store writes
  pub record TargetFound (access : Access) (r : ℕ) (b : Option Offset) (t : Target) : Type 0 where
    pub at : CellPlace
    pub located : located_by world a r b ≡ Some (CellAt at)
    pub there : CellThere world.notes (live_memory world a) (depth fs) at t.cell
    pub stored : stores (access_of access) t.cell ≡ true
    pub own : (x : ℕ) → t.field ≡ Some x → at ≡ FieldOfLocals (depth fs) x
    pub counted : IsBoundedCell t.cell

  -- what a cell of an object or of a lower frame gives
  object_found : (access : Access) (r : ℕ) (b : Option Offset) (t : Target) (c : Cell) (null : Bool) (l : Location)
      → located_by world a r b ≡ Some l → PlaceNames world.notes (live_memory world a) (depth fs) (Place.Object c null) l
      → object_target (access_of access) c null ≡ Ok t → TargetFound access r b t
  object_found access r b t c null (CellAt p) e n h =
      when_ok (stores (access_of access) c) _ _ t h (λ q h1. unless_ok null _ _ t h1 (λ _ h2.
      subst (λ z. TargetFound access r b z) (ok_same _ t h2)
      (record { at = p; located = e; there = n.0; stored = q; own = λ x g. absurd (none-some x g); counted = n.2 })))
  object_found access r b t c null (ParamAt j) e n h = absurd n
  object_found access r b t c null (locations.ThunkAt j) e n h = absurd n

  -- what a local field gives
  local_found : (access : Access) (r : ℕ) (b : Option Offset) (t : Target) (x : ℕ) (c : Cell)
      → located_by world a r b ≡ Some (CellAt (FieldOfLocals (depth fs) x))
      → CellThere world.notes (live_memory world a) (depth fs) (FieldOfLocals (depth fs) x) c → local_target (access_of access) x c ≡ Ok t
      → TargetFound access r b t
  local_found access r b t x c e n h = when_ok (stores (access_of access) c) _ _ t h (λ q h1.
      subst (λ z. TargetFound access r b z) (ok_same _ t h1) (record {
        at = FieldOfLocals (depth fs) x;
        located = e;
        there = n;
        stored = q;
        own = λ y g. ap (FieldOfLocals (depth fs)) (same_Some x y g);
        counted = subst IsBoundedCell n.cell_is (counted_local st x n.field n.there);
      }))

  place_found : (access : Access) (r : ℕ) (b : Option Offset) (t : Target) (p : Place) (l : Location) → located_by world a r b ≡ Some l
      → PlaceNames world.notes (live_memory world a) (depth fs) p l → target_place (access_of access) p ≡ Ok t → TargetFound access r b t
  place_found access r b t (Place.Object c null) l e n h = object_found access r b t c null l e n h
  place_found access r b t (Place.Local x c) (CellAt p) e n h =
      local_found access r b t x c (e ∙ ap (λ z. Some (CellAt z)) n.0)
      (subst (λ z. CellThere world.notes (live_memory world a) (depth fs) z c) n.0 n.1) h
  place_found access r b t (Place.Local x c) (ParamAt j) e n h = absurd n
  place_found access r b t (Place.Local x c) (locations.ThunkAt j) e n h = absurd n
  place_found access r b t (Place.Parameter k i) l e n h = absurd (err_ok RuleName.Address t h)
  place_found access r b t (Place.ThunkCell i) l e n h = absurd (err_ok RuleName.Address t h)

  stack_target : (access : Access) (r : ℕ) (b : Option Offset) (t : Target) (p : Place) (l : Location) → located_by world a r b ≡ Some l
      → OnStack world.notes (live_memory world a) (depth fs) f GoodParam (parameters_of world.notes a.frames) p l
      → target_place (access_of access) p ≡ Ok t → TargetFound access r b t
  stack_target access r b t p l e o h = ⊎_elim
      (λ q. local_found access r b t q.0 q.1 (e ∙ ap Some q.3) q.4 (sym (ap (target_place (access_of access)) q.2) ∙ h))
      (λ q. absurd (err_ok RuleName.Address t (sym (ap (target_place (access_of access)) q.3) ∙ h))) o.names

  -- a store never is to a place that may be null
  no_null : (access : Access) (p : Place) (t : Target) → target_place (access_of access) p ≡ Ok t
      → may_be_null world.notes (live_memory world a) (depth fs) p ≡ false
  no_null access (Place.Object c true) t e = when_ok (stores (access_of access) c) _ _ t e (λ _ h. absurd (err_ok RuleName.Null t h))
  no_null access p t e = refl

  pub target_found : (access : Access) (r : ℕ) (b : Option Offset) (d : Distance) (t : Target) → r < 8 → IsBeside b d → IsSmall d
      → target_at world.notes note s (access_of access) r d ≡ Ok t → TargetFound access r b t
  unfolding target_at place_at
  target_found access r b d t l h m e =
      then_ok (or_else RuleName.Address (place_at world.notes note s r d)) (target_place (access_of access)) t e
      (λ p e1 e2. some_ok RuleName.Address (place_at world.notes note s r d) p e1 (λ e3. at_place p e3 e2))
    where
      at_place : (p : Place) → place_at world.notes note s r d ≡ Some p → target_place (access_of access) p ≡ Ok t
          → TargetFound access r b t
      at_place p e3 e2 = ⊎_elim
          (λ y.
          let z : r ≡ 0 = eqb-true r 0 y in
          let found = stack_found st b d p h m
          (sym (ap (λ i. if i then from_stack (local_fields world.notes note) (locals_size world.notes note) note.params s.items d
          else pointed world.notes note (type_of s r) d) y) ∙ e3) in
          stack_target access r b t p found.0 (ap (λ i. located_by world a i b) z ∙ found.1) found.2 e2)
          (λ y.
          let n : r ≢ 0 = eqb-false r 0 y in
          let g = register_named st r b d p n l h
          (sym (ap (λ i. if i then from_stack (local_fields world.notes note) (locals_size world.notes note) note.params s.items d
          else pointed world.notes note (type_of s r) d) y) ∙ e3) (no_null access p t e2) in
          place_found access r b t p g.location (by_register st r b n ∙ g.located) g.names e2) (cases_Bool (nat_eq r 0))

  -- ---- results left

  -- what writing a result gives
  pub record Wrote (access : Access) (side : NeutralSide) (v : Neutral) (k : Change) : Type 0 where
    pub config : Config
    pub is : written world a access side v ≡ Gives config
    pub after : After world config f fs (changed s k)

  in_register : (r : ℕ) (t : Ty) (v : Neutral) → r ≢ 0 → r < 8 → FitsHere st t v
      → (with_register a r v ≡ Gives (record a { registers = with_value a.registers r v }))
      × After world (record a { registers = with_value a.registers r v }) f fs (with_type s r t)
  unfolding with_register
  in_register r t v n l h = (
    ap (λ b. if b then Stuck else Gives (record a { registers = with_value a.registers r v })) (ne_eqb r 0 n),
    record {
      frames = st.frames;
      top = register_written world.notes (live_memory world a) (depth fs) f s a.registers a.c a.made r t v l h st.top;
      below = record { cells = st.below.cells; frames = st.below.frames; few = st.below.few };
    },
  )

  in_memory : (access : Access) (r : ℕ) (b : Option Offset) (g : Target) (t : Ty) (v : Neutral) → TargetFound access r b g
      → takes g.cell t ≡ true → Within (access_of access) t → IsBounded t → FitsHere st t v → (c : Config)
      × (stored_by world a access r b v ≡ Gives c) × After world c f fs (with_store s g.field)
  unfolding stored_by stored_at
  in_memory access r b g t v q k w i h =
      let ok = objects st in
      let content = taken_fits (seen st) ok (access_of access) g.cell t v q.stored k w i h in
      let fits = content_fits (seen st) ok g.cell v q.counted content in
      let plain = content_plain (seen st) ok g.cell v content in
      let may = writes_from access g.cell q.stored in (
        record a { cells = with_cell a.cells q.at v },
        ap (λ o. or_stuck (option_and_then (λ l. stored_at world a access l v) o)) q.located
            ∙ ap (λ o. or_stuck (stored_in world a access q.at v o)) q.there.there
            ∙ ap (λ j. or_stuck (if j then Some (record a { cells = with_cell a.cells q.at v }) else None))
            (ap (λ c. writes access c && fits_cell world.notes (live_memory world a).objects c v) q.there.cell_is
            ∙ and_from (writes access g.cell) _ may fits),
        record {
          frames = st.frames;
          top = state_stored world.notes (memory_of world a) q.at v q.there.field q.there.there
              (depth fs) f s g.field a.registers a.c a.made q.own st.top;
          below = record {
            cells = cells_stored world.notes (memory_of world a) q.at v q.there.field q.there.there
                (subst (λ c. FitsPlain world.notes (live_memory world a).objects (content_type c) v)
                (sym q.there.cell_is) plain) st.below.cells;
            frames = frames_kept world (passed_params world st.typed) (live_memory world a)
                (live_memory world (record a { cells = with_cell a.cells q.at v })) refl a.made a.frames
                (below_down (suc (depth a.frames)) (depth a.frames) _ _ (omega arith)
                (later_below (depth a.frames) _ _ (store_later world.notes (memory_of world a) q.at v q.there.field q.there.there
                (depth a.frames)))) st.below.frames;
            few = st.below.few;
          };
        },
      )

  -- A result that its destination takes is left there, and the configuration stays sound.
  pub result_left : (access : Access) (op : Operand) (b : Option Offset) (d : Distance) (to : Destination) (k : Change) (t : Ty)
      (v : Neutral) → op.reg < 8 → IsBeside b d → IsSmall d → destination world.notes note s (access_of access) op d ≡ Ok to
      → put to t ≡ Ok k → Within (access_of access) t → IsBounded t → FitsHere st t v
      → Wrote access (record { reg = op.reg; indirect = op.indirect; beside = b }) v k
  unfolding destination written changed
  result_left access op b d to k t v l h m e p w i g = either_ok op.indirect _ _ to e
      (λ n e0. map_ok Memory (target_at world.notes note s (access_of access) op.reg d) to e0 (λ q e1 e2. memory n q e1 e2))
      (λ n e0. unless_ok (nat_eq op.reg 0) _ _ to e0 (λ q e1. register n (eqb-false op.reg 0 q) (ok_same _ to e1)))
    where
      memory : op.indirect ≡ true → (q : Target) → target_at world.notes note s (access_of access) op.reg d ≡ Ok q → Memory q ≡ to
          → Wrote access (record { reg = op.reg; indirect = op.indirect; beside = b }) v k
      memory n q e1 e2 = when_ok (takes q.cell t) _ _ k (ap (λ z. put z t) e2 ∙ p) (λ j e3.
          let r = in_memory access op.reg b q t v (target_found access op.reg b d q l h m e1) j w i g in
          record {
            config = r.0;
            is = ap (λ z. if z then stored_by world a access op.reg b v else with_register a op.reg v) n ∙ r.1;
            after = subst (λ z. After world r.0 f fs (changed s z)) (ok_same (Change.Stored q.field) k e3) r.2;
          })

      register : op.indirect ≡ false → op.reg ≢ 0 → Register op.reg ≡ to
          → Wrote access (record { reg = op.reg; indirect = op.indirect; beside = b }) v k
      register n q e2 =
          let r = in_register op.reg t v q l g in
          record {
            config = record a { registers = with_value a.registers op.reg v };
            is = ap (λ z. if z then stored_by world a access op.reg b v else with_register a op.reg v) n ∙ r.0;
            after = subst (λ z. After world (record a { registers = with_value a.registers op.reg v }) f fs (changed s z))
                (ok_same (Change.Written op.reg t) k (ap (λ z. put z t) e2 ∙ p)) r.1;
          }
