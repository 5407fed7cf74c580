-- The conditions on notes, of notes with other points.
use Rattle.note_infer.proofs.Common.{◌≤◌, List, length, map, Option, Some, None, IfSome, IsStrictlyIncreasing, IsState, local_fields}
use Rattle.note_infer.proofs.Common.{point_limit, Each, IsNotes, IsPointNote, function_at, FnNote, Notes, Point, State, Ty, with_points}
use Rattle.note_types.specs.Records.{IsFieldNote, IsFunctionNote, IsKnownWant, IsParamNote, IsResultNote, IsShapeNote, IsSignatureNote}
use Rattle.note_types.specs.{Known.IsKnown, Known.IsKnownCell, Records.IsSiteNote, Records.IsStaticNote, Records.IsThunkNote}
use Rattle.note_types.specs.Records.{IsWantNote}
use Rattle.note_types.specs.declared.{cell.Cell.Cell, notes.Param.Param, notes.Signature.Signature, notes.Site.Site, notes.Static.Static}
use Rattle.note_types.specs.declared.{notes.Thunk.Thunk, notes.Want.Want, notes.WantParam.WantParam, shape.Field.Field, shape.Shape.Shape}
use Rattle.note_types.specs.declared.notes.Want.TheVariants as want

-- notes that differ in their points alone
module _ (notes : Notes) (points : List Point) where
  other : Notes
  other = with_points notes points

  cell_known : (cell : Cell) → IsKnownCell notes cell → IsKnownCell other cell
  unfolding other
  cell_known cell h = record { bounded = h.bounded; names = h.names }

  type_known : (f : FnNote) (t : Ty) → IsKnown notes f t → IsKnown other f t
  unfolding other local_fields
  type_known f t h = record { bounded = h.bounded; names = h.names }

  pub state_is : (f : FnNote) (s : State) → IsState notes f s → IsState (with_points notes points) f s
  unfolding other
  state_is f s h =
      record {
        eight = h.eight;
        unused = h.unused;
        registers = λ r. type_known f _ (h.registers r);
        slots = λ k kind t e. type_known f t (h.slots k kind t e);
        few = h.few;
        once = h.once;
        there = h.there;
        fact = h.fact;
      }

  field_is : (x : Field) → IsFieldNote notes x → IsFieldNote other x
  field_is x h = record { name = h.name; units = h.units; bytes = h.bytes; cell = cell_known x.cell h.cell }

  shape_is : (s : Shape) → IsShapeNote notes s → IsShapeNote other s
  shape_is s h = record { name = h.name; units = h.units; bytes = h.bytes; few = h.few; fields = λ k x e. field_is x (h.fields k x e) }

  static_is : (o : Static) → IsStaticNote notes o → IsStaticNote other o
  unfolding other
  static_is o h = record { place = h.place; shape = h.shape; count = h.count }

  thunk_is : (o : Thunk) → IsThunkNote notes o → IsThunkNote other o
  unfolding other
  thunk_is o h = record { place = h.place; function = h.function }

  param_is : (f : FnNote) (p : Param) → IsParamNote notes f p → IsParamNote other f p
  param_is f p h = record { kind = h.kind; known = type_known f p.ty h.known; kept = h.kept; passed = h.passed }

  function_is : (f : FnNote) → IsFunctionNote notes f → IsFunctionNote other f
  unfolding other local_fields
  function_is f h =
      record {
        name = h.name;
        place = h.place;
        end = h.end;
        level = h.level;
        need = h.need;
        locals = h.locals;
        fields = h.fields;
        few = h.few;
        params = λ k p e. param_is f p (h.params k p e);
        result = type_known f f.result h.result;
        returned = h.returned;
        entered = h.entered;
      }

  want_known : (w : Want) → IsKnownWant notes w → IsKnownWant other w
  want_known want.Any h = h
  want_known (want.Int lo hi) h = h
  want_known (want.Size n c) h = h
  want_known want.Ptr h = h
  want_known want.Handle h = h
  want_known want.Status h = h
  want_known want.Entry h = h
  want_known (want.Out cell) h = cell_known cell h
  want_known (want.Inout cell) h = cell_known cell h

  want_is : (p : WantParam) → IsWantNote notes p → IsWantNote other p
  want_is p h = record { kind = h.kind; known = want_known p.want h.known; kept = h.kept }

  result_is : (t : Ty) → IsResultNote notes t → IsResultNote other t
  result_is t h = record { given = h.given; known = λ f. type_known f t (h.known f) }

  some_result : (o : Option Ty) → IfSome o (IsResultNote notes) → IfSome o (IsResultNote other)
  some_result None h = tt
  some_result (Some t) h = result_is t h

  signature_is : (g : Signature) → IsSignatureNote notes g → IsSignatureNote other g
  unfolding other
  signature_is g h =
      record {
        name = h.name;
        method = h.method;
        few = h.few;
        params = λ k p e. want_is p (h.params k p e);
        result = some_result g.result
            h.result;
      }

  site_is : (o : Site) → IsSiteNote notes o → IsSiteNote other o
  unfolding other
  site_is o h = record { place = h.place; signature = h.signature }

  -- what is asked of a point doesn't look at the points
  pub point_is : (p : Point) → IsPointNote notes p → IsPointNote (with_points notes points) p
  unfolding other local_fields function_at
  point_is p h =
      record {
        place = h.place;
        owner = h.owner;
        there = h.there;
        state = state_is h.owner p.state h.state;
        written = h.written;
        set = h.set;
        made = h.made;
        fact = h.fact;
      }

  -- the conditions hold of the notes with other points, where these are within their limit, ascend, and are points of the
  -- notes
  pub notes_with : IsNotes notes → length points ≤ point_limit notes.version → Each (IsPointNote notes) points
      → IsStrictlyIncreasing (map (λ (p : Point). p.place) points) → IsNotes (with_points notes points)
  unfolding other
  notes_with h few each up =
      record {
        version = h.version;
        few = record {
          shapes = h.few.shapes;
          statics = h.few.statics;
          thunks = h.few.thunks;
          functions = h.few.functions;
          points = few;
          signatures = h.few.signatures;
          sites = h.few.sites;
          methods = h.few.methods;
        };
        entry = h.entry;
        shapes = λ k x e. shape_is x (h.shapes k x e);
        statics = λ k x e. static_is x (h.statics k x e);
        thunks = λ k x e. thunk_is x (h.thunks k x e);
        functions = λ k x e. function_is x (h.functions k x e);
        points = λ k x e. point_is x (each k x e);
        signatures = λ k x e. signature_is x (h.signatures k x e);
        sites = λ k x e. site_is x (h.sites k x e);
        methods = h.methods;
        ascends = record { functions = h.ascends.functions; points = up; sites = h.ascends.sites };
        code = h.code;
      }
