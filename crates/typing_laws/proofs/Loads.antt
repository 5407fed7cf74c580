-- What loads give fits what the rules say.
use Rattle.typing_laws.proofs.Common.{◌≡◌, ℕ, ◌%◌, ◌/◌, ◌^◌, ◌<◌, true, false, if◌then◌else◌, nat_lt, nat_eq, length, Some, None, Ok}
use Rattle.typing_laws.proofs.Common.{slice_get, refl, sym, ap, ◌∙◌, subst, arith, inl, inr, ⊎_elim, and_parts, eqb-true, false≢true}
use Rattle.typing_laws.proofs.Common.{IsBoundedCell, content_type, HasField, Cell, State, Ty, Status, Loaded, Place, loads, loaded_type}
use Rattle.typing_laws.proofs.Common.{known, load_place, has_field, Neutral, CellPlace, FunctionFrame, Frame, depth, List, FnNote, Config}
use Rattle.typing_laws.proofs.Common.{World, live_memory, AreWritten, FitsPlain, kept_natural, sign_extended, Access, Move, Form, Signed}
use Rattle.typing_laws.proofs.Common.{Location, CellAt, ParamAt, kept, value_at, memory_of, within_some, RuleName, Size}
use Rattle.note_types.proofs.TypeLaws.{content_type-bounded}
use Rattle.rules_base.specs.Access.{thunk_load}
use Rattle.neutral_machine.specs.Locations.{cell_value, entry_if}
use Rattle.typing_laws.proofs.Rows.{err_ok, ok_same, unless_ok, when_ok}
use Rattle.typing_laws.proofs.Context.{TopSound, FitsHere, objects, counted_local, seen}
use Rattle.typing_laws.proofs.{Accesses.access_of, Accesses.reads_is, Objects.ObjectsFit, KeptFit.low_fits, KeptFit.natural_fits}
use Rattle.typing_laws.proofs.{KeptFit.signed_fits, LiveCells.live_held, Pointed.CellThere, Pointed.PlaceNames, Views.View, Views.FitsIn}
use Rattle.host_model.specs.Values as values
use Rattle.neutral_machine.specs.Memory as memory
use Rattle.neutral_machine.specs.Locations as locations

-- what an instruction makes of a value that it loads: MOVsn extends it
abbrev pub finish : Access → Neutral → Neutral
finish Signed v = sign_extended v
finish _ v = v

-- a field of a set
pub has_field_is : (set f : ℕ) → has_field set f ≡ true → HasField set f
has_field_is set f h = eqb-true _ _ (and_parts (nat_lt f 64) (nat_eq (set / 2 ^ f % 2) 1) h).1

module _ (view : View) (ok : ObjectsFit view.notes view.m.objects) where
  open view use {notes, m, d}

  -- what fits a content type in every frame fits it in this one
  pub plain_content : (c : Cell) (v : Neutral) → FitsPlain notes m.objects (content_type c) v → FitsIn view (content_type c) v
  plain_content Cell.Stat v f = ⊎_elim (λ e. inl e) (λ s. inr (s, none)) f
    where
      none : AreWritten m d 0
      none x q = absurd (omega (arith, q))
  plain_content c v f = f

  -- what an access keeps of a cell's content fits what the rules say that it loads
  pub kept_content : (a : Access) (c : Cell) (v : Neutral) → loads (access_of a) c ≡ true → IsBoundedCell c
      → FitsPlain notes m.objects (content_type c) v → FitsIn view (loaded_type (access_of a) c) (finish a (kept notes m.objects a v))
  kept_content (Move Size.Byte) Cell.I8 v e k0 f = low_fits view ok 8 (content_type Cell.I8) v (omega arith) f
  kept_content (Move Size.Word) Cell.I16 v e k0 f = low_fits view ok 16 (content_type Cell.I16) v (omega arith) f
  kept_content (Move Size.Dword) Cell.I32 v e k0 f = low_fits view ok 32 (content_type Cell.I32) v (omega arith) f
  kept_content (Move Size.Qword) Cell.I64 v e k0 f = plain_content Cell.I64 v f
  kept_content (Move Size.Qword) (Cell.P64 s k may) v e k0 f = plain_content (Cell.P64 s k may) v f
  kept_content (Move Size.Natural) Cell.N v e k0 f = natural_fits view ok (content_type Cell.N) v
      (content_type-bounded Cell.N k0) (plain_content Cell.N v f)
  kept_content (Move Size.Natural) Cell.Stat v e k0 f = natural_fits view ok (content_type Cell.Stat) v
      (content_type-bounded Cell.Stat k0) (plain_content Cell.Stat v f)
  kept_content (Move Size.Natural) Cell.Handle v e k0 f = natural_fits view ok (content_type Cell.Handle) v
      (content_type-bounded Cell.Handle k0) (plain_content Cell.Handle v f)
  kept_content (Move Size.Natural) Cell.Entry v e k0 f = natural_fits view ok (content_type Cell.Entry) v
      (content_type-bounded Cell.Entry k0) (plain_content Cell.Entry v f)
  kept_content (Move Size.Natural) (Cell.Ptr s k may) v e k0 f =
      natural_fits view ok (content_type (Cell.Ptr s k may)) v (content_type-bounded (Cell.Ptr s k may) k0)
      (plain_content (Cell.Ptr s k may) v f)
  kept_content (Move Size.Natural) (Cell.Method n) v e k0 f = natural_fits view ok (content_type (Cell.Method n)) v
      (content_type-bounded (Cell.Method n) k0) (plain_content (Cell.Method n) v f)
  kept_content (Form true) Cell.I64 v e k0 f = plain_content Cell.I64 v f
  kept_content (Form true) (Cell.P64 s k may) v e k0 f = plain_content (Cell.P64 s k may) v f
  kept_content (Form false) Cell.I32 v e k0 f = low_fits view ok 32 (content_type Cell.I32) v (omega arith) f
  kept_content Signed Cell.Stat v e k0 f = signed_fits view ok (Status 0) (kept_natural notes m.objects v)
      (natural_fits view ok (Status 0) v (content_type-bounded Cell.Stat tt) (plain_content Cell.Stat v f))
  kept_content c cl v e k0 f = absurd (false≢true e)

-- ---- loads of places

module _ {world : World} {a : Config} {f : FunctionFrame} {fs : List Frame} {note : FnNote} {s : State}
    (st : TopSound world a f fs note s) where
  -- a value that a load gives
  pub record LoadFits (access : Access) (l : Location) (t : Ty) : Type 0 where
    pub value : Neutral
    pub at : value_at world a access l ≡ Some value
    pub fits : FitsHere st t (finish access (kept world.notes (live_memory world a).objects access value))

  cell_load : (access : Access) (c : Cell) (p : CellPlace) (v : Neutral) → loads (access_of access) c ≡ true → IsBoundedCell c
      → CellThere world.notes (live_memory world a) (depth fs) p c → (live_memory world a).cells p ≡ Some v
      → LoadFits access (CellAt p) (loaded_type (access_of access) c)
  unfolding value_at
  cell_load access c p v e k t h =
      let plain = st.below.cells.fit p t.field v t.there h in
      record {
        value = v;
        at = ap (cell_value world a access p) t.there ∙ ap (λ b. if b then a.cells p else None)
            (reads_is access t.field.cell ∙ ap (loads (access_of access)) t.cell_is ∙ e) ∙ live_held world.notes (memory_of world a) p v h;
        fits = subst (λ z. FitsHere st (loaded_type (access_of access) z)
            (finish access (kept world.notes (live_memory world a).objects access v))) t.cell_is (kept_content (seen st) (objects st) access
            t.field.cell v (ap (loads (access_of access)) t.cell_is ∙ e) (subst IsBoundedCell (sym t.cell_is) k) plain);
      }

  load_known : (access : Access) (l : Location) (t : Ty) (r : Loaded) → known t ≡ Ok r → LoadFits access l t → LoadFits access l r.ty
  load_known access l t r e f = subst (λ z. LoadFits access l z) (ap (λ (z : Loaded). z.ty) (ok_same _ r e)) f

  -- A load of a cell that the rules allow gives what fits.
  pub place_load : (access : Access) (p : Place) (l : Location) (r : Loaded) → PlaceNames world.notes (live_memory world a) (depth fs) p l
      → load_place s (access_of access) p ≡ Ok r → r.made ≡ true → LoadFits access l r.ty
  unfolding value_at kept_natural
  place_load access (Place.Object c null) (CellAt p) r n e h =
      when_ok (loads (access_of access) c) _ _ r e (λ e1 e2. unless_ok null _ _ r e2 (λ _ e3.
      load_known access (CellAt p) _ r e3 (cell_load access c p n.1.0 e1 n.2 n.0 n.1.1)))
  place_load access (Place.Local x c) (CellAt p) r n e h =
      when_ok (loads (access_of access) c) _ _ r e (λ e1 e2. when_ok (has_field s.written x) _ _ r e2 (λ e3 e4.
      let w = st.top.written x (has_field_is s.written x e3) in
      load_known access (CellAt p) _ r e4 (cell_load access c p w.value e1 (subst IsBoundedCell n.1.cell_is (counted_local st x n.1.field
      (subst (λ z. memory.cell_field world.notes (live_memory world a) z ≡ Some n.1.field) n.0 n.1.there))) n.1
      (ap (live_memory world a).cells n.0 ∙ w.is))))
  place_load (Move Size.Natural) (Place.ThunkCell i) (locations.ThunkAt j) r n e h = thunk i j (n.0) n.1 e
    where
      thunk : (i j : ℕ) → i ≡ j → i < length world.notes.thunk → thunk_load (access_of (Move Size.Natural)) (nat_lt i s.made) ≡ Ok r
          → LoadFits (Move Size.Natural) (locations.ThunkAt j) r.ty
      thunk i j q l e =
          let t = within_some world.notes.thunk i l in
          let made_is : nat_lt i s.made ≡ true = ap (λ (z : Loaded). z.made) (ok_same _ r e) ∙ h in
          subst (λ z. LoadFits (Move Size.Natural) (locations.ThunkAt j) z) (ap (λ (z : Loaded). z.ty) (ok_same _ r e)) (record {
            value = values.Entry t.0.function;
            at = ap (λ b. if b then entry_if (slice_get world.notes.thunk j) else None)
                (ap (λ z. nat_lt z a.made) (sym q) ∙ ap (nat_lt i) st.top.made_are ∙ made_is)
                ∙ ap (λ z. entry_if (slice_get world.notes.thunk z)) (sym q) ∙ ap entry_if t.1;
            fits = inl (record { func = t.0.function; is = refl });
          })
  place_load (Form true) (Place.ThunkCell i) (locations.ThunkAt j) r n e h = absurd (err_ok RuleName.Address r e)
  place_load access (Place.Object c null) (ParamAt j) r n e h = absurd n
  place_load access (Place.Object c null) (locations.ThunkAt j) r n e h = absurd n
  place_load access (Place.Local x c) (ParamAt j) r n e h = absurd n
  place_load access (Place.Local x c) (locations.ThunkAt j) r n e h = absurd n
  place_load access (Place.Parameter k t) l r n e h = absurd n
  place_load access (Place.ThunkCell i) (CellAt p) r n e h = absurd n
  place_load access (Place.ThunkCell i) (ParamAt j) r n e h = absurd n
  place_load access y l r n e h = absurd (err_ok RuleName.Address r e)
