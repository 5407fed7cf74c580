-- What frames that change leave of the memory: the cells of objects, and the locals that are as they were.
use Rattle.typing_laws.proofs.Common.{◌≡◌, ℕ, ◌<◌, is_some, if◌then◌else◌, List, Some, None, slice_get, sym, ap, ◌∙◌, subst}
use Rattle.typing_laws.proofs.Common.{option_and_then, content_type, Field, Shape, Config, locals_at, FitsPlain, field_in, memory_of}
use Rattle.typing_laws.proofs.Common.{cell_field, made_objects, TypedObject, CellPlace, FieldOf, FieldOfLocals, World, live_memory}
use Rattle.typing_laws.proofs.Common.{CellsFit}
use Rattle.host_model.specs.Progress.{ScriptPlace}
use Rattle.typing_laws.proofs.{LiveCells.live_held, LiveCells.live_there, LiveCells.LaterBelow, Rows.bound_some}

module _ (world : World) (a b : Config) (script : b.script ≡ a.script) (cells : b.cells ≡ a.cells) where
  pub objects_same : (live_memory world b).objects ≡ (live_memory world a).objects
  objects_same = ap (λ (p : ScriptPlace). made_objects world.notes world.script p.entries) script

  pub object_field : (k i f : ℕ) → cell_field world.notes (live_memory world b) (FieldOf k i f) ≡ cell_field world.notes
      (live_memory world a) (FieldOf k i f)
  object_field k i f = ap (λ (o : List TypedObject). option_and_then (field_in world.notes i f) (slice_get o k)) objects_same

  pub local_field : (d f : ℕ) → locals_at b.frames d ≡ locals_at a.frames d
      → cell_field world.notes (live_memory world b) (FieldOfLocals d f) ≡ cell_field world.notes (live_memory world a) (FieldOfLocals d f)
  local_field d f e = ap (option_and_then (λ (s : Shape). slice_get s.fields f)) e

  pub held_same : (p : CellPlace) → cell_field world.notes (live_memory world b) p ≡ cell_field world.notes (live_memory world a) p
      → (live_memory world b).cells p ≡ (live_memory world a).cells p
  held_same p e = ap (λ o. if is_some o then b.cells p else None) e
      ∙ ap (λ c. if is_some (cell_field world.notes (live_memory world a) p) then c p else None) cells

  pub later_at : (d : ℕ) → ((e : ℕ) → e < d → locals_at b.frames e ≡ locals_at a.frames e)
      → LaterBelow d (live_memory world a) (live_memory world b)
  later_at d h = record {
    objects = λ k o e. ap (λ (x : List TypedObject). slice_get x k) objects_same ∙ e;
    locals = h;
    written = λ e f l w. record { value = w.value; is = held_same (FieldOfLocals e f) (local_field e f (h e l)) ∙ w.is };
  }

  fewer : (d f : ℕ) (z : Field) → ((s : Shape) → locals_at b.frames d ≡ Some s → locals_at a.frames d ≡ Some s)
      → option_and_then (λ (s : Shape). slice_get s.fields f) (locals_at b.frames d) ≡ Some z
      → option_and_then (λ (s : Shape). slice_get s.fields f) (locals_at a.frames d) ≡ Some z
  fewer d f z h e = bound_some (λ (s : Shape). slice_get s.fields f) (locals_at b.frames d) z e
      (λ s q g. ap (option_and_then (λ (s : Shape). slice_get s.fields f)) (h s q) ∙ g)

  -- the field of a cell that is there now was there before
  pub field_before : (p : CellPlace) (z : Field) → ((d : ℕ) (s : Shape) → locals_at b.frames d ≡ Some s → locals_at a.frames d ≡ Some s)
      → cell_field world.notes (live_memory world b) p ≡ Some z → cell_field world.notes (live_memory world a) p ≡ Some z
  field_before (FieldOf k i f) z h e = sym (object_field k i f) ∙ e
  field_before (FieldOfLocals d f) z h e = fewer d f z (h d) e

  -- what cells hold fits, where no more locals are there
  pub cells_at : ((d : ℕ) (s : Shape) → locals_at b.frames d ≡ Some s → locals_at a.frames d ≡ Some s)
      → CellsFit world.notes (live_memory world a) → CellsFit world.notes (live_memory world b)
  cells_at h k = record {
    fit = λ p z v e q.
        let before = field_before p z h e in
        let held : b.cells p ≡ Some v = live_held world.notes (memory_of world b) p v q in
        let old : a.cells p ≡ Some v = ap (λ c. c p) (sym cells) ∙ held in
        subst (λ o. FitsPlain world.notes o (content_type z.cell) v) (sym objects_same)
        (k.fit p z v before (live_there world.notes (memory_of world a) p z (Some v) before old));
    all = λ x i f z e.
        let before = sym (object_field x i f) ∙ e in
        let r = k.all x i f z before in
        (r.0, held_same (FieldOf x i f) (object_field x i f) ∙ r.1);
  }
