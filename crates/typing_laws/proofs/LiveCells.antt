-- The cells that are there, before and after a change: what they hold, and what frames and types see of them.
use Rattle.typing_laws.proofs.Common.{◌≡◌, ℕ, suc, ◌%◌, ◌<◌, ◌≤◌, if◌then◌else◌, is_some, List, [], ◌∷◌, Option, Some, None, slice_get}
use Rattle.typing_laws.proofs.Common.{refl, sym, ap, ◌∙◌, subst, arith, inl, inr, ⊎_elim, option_and_then, AllZip, none-some, IsPassed}
use Rattle.typing_laws.proofs.Common.{FnNote, Notes, Param, Field, Shape, Ty, Any, Ptr, Local, Lent, Status, SignedStatus, Registers}
use Rattle.typing_laws.proofs.Common.{StackItem, Pushed, LocalsOf, FunctionFrame, Frame, Function, Host, depth, Fits, Memory, cell_field}
use Rattle.typing_laws.proofs.Common.{AreWritten, IsFieldWritten, TypedObject, Neutral, CellPlace, World, Later, live_cells, ParamFits}
use Rattle.typing_laws.proofs.Common.{FrameKeeps, FrameBelow, FramesKeep}
use Rattle.note_types.specs.declared.types.Ty.TheVariants.{Saved}
use Rattle.invariant_laws.proofs.LaterFits.{or_null_later, pointer_later}
use Rattle.typing_laws.proofs.Rows.{when_some}

-- ---- what live cells hold

-- what a live cell holds is what the cell holds
pub live_held : (notes : Notes) (m : Memory) (p : CellPlace) (v : Neutral) → live_cells notes m p ≡ Some v → m.cells p ≡ Some v
live_held notes m p v e = when_some (is_some (cell_field notes m p)) _ v e (λ _ h. h)

-- a cell that is there holds what the cell holds
pub live_there : (notes : Notes) (m : Memory) (p : CellPlace) (z : Field) (o : Option Neutral) → cell_field notes m p ≡ Some z
    → m.cells p ≡ o → live_cells notes m p ≡ o
live_there notes m p z o e h = ap (λ x. if is_some x then m.cells p else None) e ∙ h

-- it is there
pub live_some : (notes : Notes) (m : Memory) (p : CellPlace) (v : Neutral) → live_cells notes m p ≡ Some v → (z : Field)
    × (cell_field notes m p ≡ Some z)
live_some notes m p v e = go (cell_field notes m p) refl e
  where
    go : (o : Option Field) → cell_field notes m p ≡ o → (if is_some o then m.cells p else None) ≡ Some v → (z : Field)
        × (cell_field notes m p ≡ Some z)
    go None h e = absurd (none-some v e)
    go (Some z) h e = (z, h)

-- ---- what lower frames see

-- V comes later than U, as what lies below depth d sees it.
pub record LaterBelow (d : ℕ) (U V : Memory) : Type 0 where
  pub objects : (k : ℕ) (o : TypedObject) → slice_get U.objects k ≡ Some o → slice_get V.objects k ≡ Some o
  pub locals : (e : ℕ) → e < d → V.locals e ≡ U.locals e
  pub written : (e f : ℕ) → e < d → IsFieldWritten U e f → IsFieldWritten V e f

pub below_down : (d e : ℕ) (U V : Memory) → e ≤ d → LaterBelow d U V → LaterBelow e U V
below_down d e U V l p = record {
  objects = p.objects;
  locals = λ c h. p.locals c (omega (arith, l, h));
  written = λ c f h. p.written c f (omega (arith, l, h));
}

-- what comes later as a frame sees it does so as what is below the next depth does, and the other way round
pub later_below : (d : ℕ) (U V : Memory) → Later d U V → LaterBelow (suc d) U V
later_below d U V p = record {
  objects = p.objects;
  locals = λ e h. p.locals e (omega (arith, h));
  written = λ e f h. p.written e f (omega (arith, h));
}

pub below_later : (d : ℕ) (U V : Memory) → LaterBelow (suc d) U V → Later d U V
below_later d U V p = record {
  objects = p.objects;
  locals = λ e h. p.locals e (omega (arith, h));
  written = λ e f h. p.written e f (omega (arith, h));
}

module _ (notes : Notes) (d : ℕ) (U V : Memory) (l : LaterBelow d U V) where
  none_granted : (m : Memory) (e g : ℕ) → g ≡ 0 → AreWritten m e g
  none_granted m e g h x q = absurd (omega (arith, h, q))

  -- What fits a type that says nothing of its own frame fits it in a frame above too, whatever that keeps of its entry.
  pub passed_up : (e : ℕ) (saved other : Registers) (t : Ty) (v : Neutral) → d ≤ e → IsPassed t → Fits notes U d saved t v
      → Fits notes V e other t v
  passed_up e saved other Any v h p x = tt
  passed_up e saved other (Ptr s k n c may) v h p x =
      or_null_later may v _ _ (λ q. pointer_later notes U.objects V.objects l.objects s k n c v q) x
  passed_up e saved other (Local f) v h p x = absurd p
  passed_up e saved other (Lent cell) v h p x =
      let b = x.cell_below in
      record {
        cell_below = record {
          e = b.e;
          f = b.f;
          is = b.is;
          lower = omega (arith, b.lower, h);
          field = b.field;
          there = ap (option_and_then (λ (s : Shape). slice_get s.fields b.f)) (l.locals b.e b.lower) ∙ b.there;
          cell_is = b.cell_is;
        };
        written = l.written b.e b.f b.lower x.written;
      }
  passed_up e saved other (Status g) v h p x = ⊎_elim (λ q. inl q) (λ q. inr (q.0, none_granted V e g p)) x
  passed_up e saved other (SignedStatus g) v h p x = ⊎_elim (λ q. inl q) (λ q. inr (q.0, none_granted V e g p)) x
  passed_up e saved other (Saved i) v h p x = absurd p
  passed_up e saved other t v h p x = x

  -- so the parameters of a frame at that depth, which may keep other registers now
  pub params_up : (f g : FunctionFrame) (is : List StackItem) (ps : List Param)
      → ((k : ℕ) (q : Param) → slice_get ps k ≡ Some q → IsPassed q.ty) → AllZip (ParamFits notes U d f) is ps
      → AllZip (ParamFits notes V d g) is ps
  params_up f g [] [] h z = tt
  params_up f g [] (p ∷ ps) h z = absurd z
  params_up f g (i ∷ is) [] h z = absurd z
  params_up f g (Pushed kind v ∷ is) (p ∷ ps) h z = (
    (z.0.0, passed_up d f.saved g.saved p.ty v (omega arith) (h 0 p refl) z.0.1),
    params_up f g is ps (λ k q e. h (suc k) q e) z.1,
  )
  params_up f g (LocalsOf s ∷ is) (p ∷ ps) h z = absurd z.0

-- ---- frames

-- each function's parameters are passed
abbrev pub ParamsPassed : Notes → Type 0
ParamsPassed notes = (j k : ℕ) (g : FnNote) (q : Param) → slice_get notes.function j ≡ Some g → slice_get g.params k ≡ Some q
    → IsPassed q.ty

module _ (world : World) (passed : ParamsPassed world.notes) (U V : Memory) (same : V.objects ≡ U.objects) where
  -- what a frame finds below it, where it keeps other registers
  pub below_kept : (f g : FunctionFrame) (n : FnNote) (fs : List Frame) → slice_get world.notes.function f.func ≡ Some n → g.func ≡ f.func
      → g.ret ≡ f.ret → LaterBelow (depth fs) U V → FrameBelow world U f n fs → FrameBelow world V g n fs
  below_kept f g n [] h ef er l k = absurd k
  below_kept f g n (Host t ∷ fs) h ef er l k = (
    ef ∙ k.0,
    params_up world.notes (depth fs) U V l f g _ n.params
        (λ j q e. passed f.func j n q h e) k.1,
  )
  below_kept f g n (Function t ∷ fs) h ef er l k = (
    k.0,
    params_up world.notes (depth (Function t ∷ fs)) U V l f g _ n.params (λ j q e. passed f.func j n q h e) k.1,
    subst (λ p. (p % 2 ≡ 0) × (p < world.image_size)) (sym er) k.2,
  )

  keeps_kept : (made : ℕ) (f : FunctionFrame) (n : FnNote) → FrameKeeps world.notes U.objects made f n
      → FrameKeeps world.notes V.objects made f n
  keeps_kept made f n k = subst (λ o. FrameKeeps world.notes o made f n) (sym same) k

  pub frames_kept : (made : ℕ) (fs : List Frame) → LaterBelow (depth fs) U V → FramesKeep world U made fs → FramesKeep world V made fs
  frames_kept made [] l k = tt
  frames_kept made (Host t ∷ fs) l k = (k.0, frames_kept made fs l k.1)
  frames_kept made (Function t ∷ fs) l k =
      let down = below_down (suc (depth fs)) (depth fs) U V (omega arith) l in
      ((k.0.0, keeps_kept made t k.0.0 k.0.1, below_kept t t k.0.0 fs k.0.1.there refl refl down k.0.2), frames_kept made fs down k.1)
