-- What is known where an instruction stands: a configuration that is sound with a state of the function on top.
use Rattle.typing_laws.proofs.Common.{◌≡◌, ℕ, ◌^◌, true, if◌then◌else◌, nat_lt, List, [], ◌∷◌, length, take, Some, slice_get, refl, sym, ap}
use Rattle.typing_laws.proofs.Common.{◌∙◌, subst, arith, option_and_then, pos, negsuc, AllZip, and_from, eq-eqb, false≢true, le-leb, lt-ltb}
use Rattle.typing_laws.proofs.Common.{Decides-int_eq, same_Some, none-some, get_or_from_slice_get, IsBoundedCell, IsKnown, local_fields}
use Rattle.typing_laws.proofs.Common.{IsShape, IsBounded, N, Item, FnNote, Notes, Pair, Param, Field, Shape, State, Ty, locals_size}
use Rattle.typing_laws.proofs.Common.{StackItem, Pushed, LocalsOf, FunctionFrame, Frame, Function, Host, Config, depth, locals_among}
use Rattle.typing_laws.proofs.Common.{locals_at, ItemFits, FitsState, field_in, parameters_of, Memory, cell_field, made_objects, no_shape}
use Rattle.typing_laws.proofs.Common.{FieldOf, FieldOfLocals, World, frame_locals, live_memory, WorldTyped, CellsFit, ParamFits, FrameBelow}
use Rattle.typing_laws.proofs.Common.{FramesKeep, SoundBelow, within_some, Neutral}
use Rattle.note_types.specs.{Known.IsState, Known.fields_of, Known.locals_of, Passing.IsKept}
use Rattle.rules_base.specs.{Kept.kept_natural, Places.size_of}
use Rattle.neutral_machine.specs.Locations.{items_below, parameter_count}
use Rattle.typing_laws.proofs.{Objects.ObjectsFit, LiveCells.ParamsPassed, OnStack.any_locals, Views.View, Views.FitsIn, Views.view_at}
use Rattle.typing_laws.proofs.{Rows.bound_some, Rows.when_some}

-- a parameter's type is within its bounds, and in a natural slot what MOVn keeps
abbrev pub GoodParam : Param → Type 0
GoodParam q = IsBounded q.ty × (q.kind ≡ N → kept_natural q.ty ≡ q.ty)

-- What is known where an instruction of a function stands.
pub record TopSound (world : World) (a : Config) (f : FunctionFrame) (fs : List Frame) (note : FnNote) (s : State) : Type 0 where
  pub frames : a.frames ≡ Function f ∷ fs
  pub top : FitsState world.notes (live_memory world a) (depth fs) f s a.registers a.c a.made
  pub below : SoundBelow world a
  pub there : slice_get world.notes.function f.func ≡ Some note
  pub state : IsState world.notes note s
  pub typed : WorldTyped world

-- ---- the world

-- a type that MOVn keeps stays
pub kept_stays : (t : Ty) → IsKept t → kept_natural t ≡ t
kept_stays (Ty.Int lo hi div) h = ap (λ b. if b then Ty.Int lo hi div else Ty.Any) (lt-ltb hi (2 ^ 32) h)
kept_stays (Ty.Lin n (pos c)) h = ap (λ b. if b then Ty.Lin n (pos c) else Ty.Any) (le-leb 0 c (omega arith))
kept_stays (Ty.Lin n (negsuc c)) h = absurd h
kept_stays (Ty.Ptr s k n c null) h =
    ap (λ b. if b then Ty.Ptr s k n c null else Ty.Any) (and_from _ _ ((Decides-int_eq n (pos 0)).1 h.0) ((Decides-int_eq c (pos 0)).1 h.1))
kept_stays (Ty.SignedStatus g) h = absurd h
kept_stays (Ty.Saved i) h = absurd h
kept_stays t h = refl

-- objects have well-formed shapes and are small
pub objects_fit : (world : World) (n : ℕ) → WorldTyped world → ObjectsFit world.notes (made_objects world.notes world.script n)
objects_fit world n ok = record {
  shaped = λ k o h.
      let r = (ok.fits.objects n k o h).0 in
      let s = within_some world.notes.shape o.shape r in
      subst IsShape (sym (get_or_from_slice_get world.notes.shape o.shape s.0 no_shape s.1)) (ok.fits.shapes o.shape s.0 s.1);
  small = ok.small n;
}

-- each function's parameters are passed
pub passed_params : (world : World) → WorldTyped world → ParamsPassed world.notes
passed_params world ok j k g q h e = ((ok.notes.functions j g h).params k q e).passed

-- the cells of shapes are within their bounds
pub bounded_cell : (world : World) → WorldTyped world → (k f : ℕ) (s : Shape) (z : Field) → slice_get world.notes.shape k ≡ Some s
    → slice_get s.fields f ≡ Some z → IsBoundedCell z.cell
bounded_cell world ok k f s z e g = ((ok.notes.shapes k s e).fields f z g).cell.bounded

-- the locals of a function, as the rules and as the neutral machine have them
pub locals_are : (notes : Notes) (func : ℕ) (note : FnNote) → slice_get notes.function func ≡ Some note
    → locals_of notes note ≡ frame_locals notes func
locals_are notes func note h = sym (ap (option_and_then (locals_of notes)) h)

pub locals_there : (notes : Notes) (func : ℕ) (s : Shape) → frame_locals notes func ≡ Some s → (k : ℕ) × (slice_get notes.shape k ≡ Some s)
locals_there notes func s e = bound_some (locals_of notes) (slice_get notes.function func) s e (λ f _ h.
    bound_some (slice_get notes.shape) f.locals s h (λ k _ g. (k, g)))

module _ (notes : Notes) (m : Memory) (d : ℕ) (f : FunctionFrame) where
  among : (is : List StackItem) (xs : List Item) → AllZip (ItemFits notes m d f) is xs
      → (any_locals is ≡ true → locals_among is ≡ frame_locals notes f.func)
      × ((s : Shape) → locals_among is ≡ Some s → frame_locals notes f.func ≡ Some s)
  among [] xs z = (λ e. absurd (false≢true e), λ s e. absurd (none-some s e))
  among (Pushed kind v ∷ is) (x ∷ xs) z = among is xs z.1
  among (Pushed kind v ∷ is) [] z = absurd z
  among (LocalsOf s ∷ is) (Item.Locals ∷ xs) z = (λ _. sym z.0, λ q e. z.0 ∙ e)
  among (LocalsOf s ∷ is) (Item.Slot k t ∷ xs) z = absurd z.0
  among (LocalsOf s ∷ is) [] z = absurd z

module _ {world : World} {a : Config} {f : FunctionFrame} {fs : List Frame} {note : FnNote} {s : State}
    (st : TopSound world a f fs note s) where
  abbrev pub seen : View
  seen = view_at world.notes (live_memory world a) (depth fs) f.saved

  -- a value fits a type here
  abbrev pub FitsHere : Ty → Neutral → Type 0
  FitsHere t v = FitsIn seen t v

  pub objects : ObjectsFit world.notes (live_memory world a).objects
  objects = objects_fit world a.script.entries st.typed

  pub cells : CellsFit world.notes (live_memory world a)
  cells = st.below.cells

  pub own_locals : (live_memory world a).locals (depth fs) ≡ locals_among f.items
  own_locals = ap (λ z. locals_at z (depth fs)) st.frames ∙ ap (λ b. if b then locals_among f.items else locals_at fs (depth fs))
      (eq-eqb (depth fs) (depth fs) refl)

  pub has_locals : any_locals f.items ≡ true → (live_memory world a).locals (depth fs) ≡ frame_locals world.notes f.func
  has_locals e = own_locals ∙ (among world.notes (live_memory world a) (depth fs) f f.items s.items st.top.items).0 e

  own_some : (x : Shape) → (live_memory world a).locals (depth fs) ≡ Some x → frame_locals world.notes f.func ≡ Some x
  own_some x e = (among world.notes (live_memory world a) (depth fs) f f.items s.items st.top.items).1 x (sym own_locals ∙ e)

  pub fields_same : (x : Shape) → frame_locals world.notes f.func ≡ Some x → local_fields world.notes note ≡ x.fields
  unfolding local_fields
  fields_same x e = ap fields_of (locals_are world.notes f.func note st.there ∙ e)

  pub same_locals : (x : Shape) → (live_memory world a).locals (depth fs) ≡ Some x → local_fields world.notes note ≡ x.fields
  same_locals x e = fields_same x (own_some x e)

  pub sizes_same : (x : Shape) → frame_locals world.notes f.func ≡ Some x → (local_fields world.notes note ≡ x.fields)
      × ((locals_size world.notes note).n ≡ x.n) × ((locals_size world.notes note).c ≡ x.c) × IsShape x
  unfolding locals_size
  sizes_same x e =
      let g = ap size_of (locals_are world.notes f.func note st.there ∙ e) in
      let k = locals_there world.notes f.func x e in
      (fields_same x e, ap (λ (z : Pair). z.n) g, ap (λ (z : Pair). z.c) g, st.typed.fits.shapes k.0 x k.1)

  pub counted_local : (x : ℕ) (z : Field) → cell_field world.notes (live_memory world a) (FieldOfLocals (depth fs) x) ≡ Some z
      → IsBoundedCell z.cell
  counted_local x z e =
      bound_some (λ (q : Shape). slice_get q.fields x) ((live_memory world a).locals (depth fs)) z e (λ q h g.
      let k = locals_there world.notes f.func q (own_some q h) in
      bounded_cell world st.typed k.0 x q z k.1 g)

  pub counted_object : (k i x : ℕ) (z : Field) → cell_field world.notes (live_memory world a) (FieldOf k i x) ≡ Some z
      → IsBoundedCell z.cell
  counted_object k i x z e =
      bound_some (field_in world.notes i x) (slice_get (live_memory world a).objects k) z e (λ o h g. when_some (nat_lt i o.count) _ z g
      (λ _ y.
      let l = (st.typed.fits.objects a.script.entries k o h).0 in
      let q = within_some world.notes.shape o.shape l in
      bounded_cell world st.typed o.shape x q.0 z q.1 (ap (λ (y : Shape). slice_get y.fields x)
      (sym (get_or_from_slice_get world.notes.shape o.shape q.0 no_shape q.1)) ∙ y)))

  -- ---- parameters

  params_below : (g : FnNote) (below : List Frame) → FrameBelow world (live_memory world a) f g below
      → AllZip (ParamFits world.notes (live_memory world a) (depth below) f) (take (length g.params) (items_below below)) g.params
  params_below g [] h = absurd h
  params_below g (Host h ∷ gs) k = k.1
  params_below g (Function h ∷ gs) k = k.1

  pub params_fit : AllZip (ParamFits world.notes (live_memory world a) (depth fs) f) (parameters_of world.notes a.frames) note.params
  params_fit = let k : FramesKeep world (live_memory world a) a.made (Function f ∷ fs) =
      subst (FramesKeep world (live_memory world a) a.made) st.frames st.below.frames in
      let g = k.0 in
      let e : g.0 ≡ note = same_Some g.0 note (sym g.1.there ∙ st.there) in
      let z : AllZip (ParamFits world.notes (live_memory world a) (depth fs) f) (take (length note.params) (items_below fs)) note.params =
      subst (λ (q : FnNote). AllZip (ParamFits world.notes (live_memory world a) (depth fs) f)
      (take (length q.params) (items_below fs)) q.params) e (params_below g.0 fs g.2) in
      subst (λ q. AllZip (ParamFits world.notes (live_memory world a) (depth fs) f) q note.params)
      (sym (ap (parameters_of world.notes) st.frames ∙ ap (λ o. take (parameter_count o) (items_below fs)) st.there)) z

  -- the parameters' types are as a reader gives them
  pub good_params : (k : ℕ) (q : Param) → slice_get note.params k ≡ Some q → GoodParam q
  good_params k q h = let p = (st.typed.notes.functions f.func note st.there).params k q h in
      (p.known.bounded, λ e. kept_stays q.ty (p.kept e))

  pub known_params : (k : ℕ) (q : Param) → slice_get note.params k ≡ Some q → IsKnown world.notes note q.ty
  known_params k q h = ((st.typed.notes.functions f.func note st.there).params k q h).known
