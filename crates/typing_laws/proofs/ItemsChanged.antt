-- Other items in the function on top, its locals being there as before, leave a configuration sound.
use Rattle.typing_laws.proofs.Common.{◌≡◌, ℕ, suc, ◌≤◌, if◌then◌else◌, nat_eq, List, [], ◌∷◌, length, refl, sym, ap, ◌∙◌, subst, arith}
use Rattle.typing_laws.proofs.Common.{AllZip, same_Some, Item, FnNote, Notes, State, Ty, with_items, StackItem, Pushed, LocalsOf}
use Rattle.typing_laws.proofs.Common.{FunctionFrame, Frame, Function, Config, depth, hosts, locals_among, locals_at, Fits, ItemFits}
use Rattle.typing_laws.proofs.Common.{FitsState, height, Memory, frame_limit, Neutral, World, Later, live_memory, FrameKeeps, FrameBelow}
use Rattle.typing_laws.proofs.Common.{FramesKeep, KeepsWithin, SlotsKept, SoundBelow, FieldsLater, fields_later, fits_later, items_later}
use Rattle.typing_laws.proofs.LiveCells.{LaterBelow, below_later, below_kept, frames_kept}
use Rattle.typing_laws.proofs.{Context.TopSound, Context.passed_params, Context.FitsHere, Relaid.cells_at, Relaid.later_at}

-- what fits a frame fits it with other items
pub items_moved : (notes : Notes) (m : Memory) (d : ℕ) (f : FunctionFrame) (js : List StackItem) (is : List StackItem) (xs : List Item)
    → AllZip (ItemFits notes m d f) is xs → AllZip (ItemFits notes m d (record f { items = js })) is xs
items_moved notes m d f js [] [] z = tt
items_moved notes m d f js [] (x ∷ xs) z = absurd z
items_moved notes m d f js (i ∷ is) [] z = absurd z
items_moved notes m d f js (Pushed k v ∷ is) (Item.Slot l t ∷ xs) z = (z.0, items_moved notes m d f js is xs z.1)
items_moved notes m d f js (LocalsOf s ∷ is) (Item.Locals ∷ xs) z = (z.0, items_moved notes m d f js is xs z.1)
items_moved notes m d f js (Pushed k v ∷ is) (Item.Locals ∷ xs) z = absurd z.0
items_moved notes m d f js (LocalsOf s ∷ is) (Item.Slot l t ∷ xs) z = absurd z.0

module _ {world : World} {a : Config} {f : FunctionFrame} {fs : List Frame} {note : FnNote} {s : State}
    (st : TopSound world a f fs note s) where
  -- what holds of the frame on top, and of those below it
  pub top_keeps : FrameKeeps world.notes (live_memory world a).objects a.made f note × FrameBelow world (live_memory world a) f note fs
      × FramesKeep world (live_memory world a) a.made fs
  top_keeps =
      let k : FramesKeep world (live_memory world a) a.made (Function f ∷ fs) =
      subst (FramesKeep world (live_memory world a) a.made) st.frames st.below.frames in
      let g = k.0 in
      let e : g.0 ≡ note = same_Some g.0 note (sym g.1.there ∙ st.there) in (
        subst (FrameKeeps world.notes (live_memory world a).objects a.made f) e g.1,
        subst (λ n. FrameBelow world (live_memory world a) f n fs) e g.2,
        k.1,
      )

  pub few_hosts : length (hosts fs) ≤ frame_limit
  few_hosts = subst (λ z. length (hosts z) ≤ frame_limit) st.frames st.below.few

module _ {world : World} {a : Config} {f : FunctionFrame} {fs : List Frame} {note : FnNote} {s : State} (st : TopSound world a f fs note s)
    (js : List StackItem) (same : locals_among js ≡ locals_among f.items) where
  abbrev pub frame : FunctionFrame
  frame = record f { items = js }

  abbrev pub after : Config
  after = with_items a f js fs

  pub locals_same : (e : ℕ) → locals_at after.frames e ≡ locals_at a.frames e
  locals_same e = ap (λ o. if nat_eq e (depth fs) then o else locals_at fs e) same ∙ ap (λ z. locals_at z e) (sym st.frames)

  pub later : (d : ℕ) → LaterBelow d (live_memory world a) (live_memory world after)
  later d = later_at world a after refl refl d (λ e l. locals_same e)

  pub later_here : (d : ℕ) → Later d (live_memory world a) (live_memory world after)
  later_here d = below_later d (live_memory world a) (live_memory world after) (later (suc d))

  fields_here : FieldsLater world.notes (depth fs) (live_memory world a) (live_memory world after)
  fields_here = fields_later world.notes (depth fs) (live_memory world a) (live_memory world after) (later_here (depth fs))

  pub fits_after : (t : Ty) (v : Neutral) → FitsHere st t v → Fits world.notes (live_memory world after) (depth fs) f.saved t v
  fits_after t v h = fits_later world.notes (depth fs) (live_memory world a) (live_memory world after) fields_here f.saved t v h

  -- the frames keep, where the items keep within the need
  pub below_after : KeepsWithin (λ w. height w js) note → SlotsKept world.notes (live_memory world a).objects js → SoundBelow world after
  below_after within slots =
      let k = top_keeps st in
      record {
        cells = cells_at world a after refl refl (λ d q e. sym (locals_same d) ∙ e) st.below.cells;
        frames = (
          (
            note,
            record { there = st.there; within = within; slots = slots; thunks = k.0.thunks },
            below_kept world (passed_params world st.typed) (live_memory world a)
                (live_memory world after) refl f frame note fs st.there refl refl (later (depth fs)) k.1,
          ),
          frames_kept world (passed_params world st.typed) (live_memory world a) (live_memory world after) refl a.made fs
              (later (depth fs)) k.2,
        );
        few = few_hosts st;
      }

  -- the items that are as before fit
  pub items_after : (is : List StackItem) (xs : List Item) → AllZip (ItemFits world.notes (live_memory world a) (depth fs) f) is xs
      → AllZip (ItemFits world.notes (live_memory world after) (depth fs) frame) is xs
  items_after is xs z =
      items_moved world.notes (live_memory world after) (depth fs) f js is xs
      (items_later world.notes (depth fs) (live_memory world a) (live_memory world after) fields_here f is xs z)

  -- the frame on top fits the state with other items
  pub top_after : (xs : List Item) → AllZip (ItemFits world.notes (live_memory world after) (depth fs) frame) js xs
      → FitsState world.notes (live_memory world after) (depth fs) frame (record s { items = xs }) a.registers a.c a.made
  top_after xs z = record {
    registers = λ x l n. fits_after _ (a.registers x) (st.top.registers x l n);
    items = z;
    written = λ x y. (later_here (depth fs)).written (depth fs) x (omega arith) (st.top.written x y);
    made_are = st.top.made_are;
    fact = λ x y. record { gave = (st.top.fact x y).gave };
  }
