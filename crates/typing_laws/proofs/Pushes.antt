-- The rows of the pushes and the pops.
use Rattle.typing_laws.proofs.Common.{◌≡◌, ℕ, ◌<◌, Bool, true, false, List, ◌∷◌, Some, Ok, refl, sym, ap, subst, arith, Extra, Operand}
use Rattle.typing_laws.proofs.Common.{FnNote, State, Ty, Loaded, FunctionFrame, Frame, Config, Move, Form, Outcome, ◌>>=◌, Neutral, World}
use Rattle.typing_laws.proofs.Common.{value, goes, Accepts, live_memory, SlotKind, N, Q, D, operand_value, beside_extra, same_kind, also}
use Rattle.typing_laws.proofs.Common.{needs, has_room, slot_access, with_item, slot_kind, falls, Successors, Pushed, kept_natural, narrowed}
use Rattle.typing_laws.proofs.Common.{pushed, with_items, Item, RuleAccess, RuleName, Size}
use Rattle.typing_laws.proofs.ArithRow.{GoesOn, accepts_then, goes_on, BesideFits, also_ok, operand_fits, operand_known, right_fits}
use Rattle.typing_laws.proofs.{Rows.ok_same, Rows.needs_true, Context.TopSound, Context.objects, Context.FitsHere, Context.seen}
use Rattle.typing_laws.proofs.{Operands.then_ok, KeptFit.low_fits, KeptFit.natural_fits, MoveValues.natural_twice, PushFits.push_fits}
use Rattle.rules_flow.specs.Frames.{slot_type}
use Rattle.neutral_machine.specs.Rows.{push_natural_row, push_row}
use Rattle.neutral_machine.specs.Rows as rows
use Rattle.rules_flow.specs.Frames as rules_flow

-- ---- successors

-- An instruction that goes on at the next one, with the state that its rule gives there.
pub record FallsOn (world : World) (next : ℕ) (x : Successors) (o : Outcome (rows.NeutralEnd × Config)) : Type 0 where
  pub state : State
  pub falls_to : x.fall ≡ Some state
  pub goes : Accepts (GoesOn world next state) o

pub kind_same : (k : SlotKind) → same_kind k k ≡ true
kind_same N = refl
kind_same Q = refl
kind_same D = refl

module _ {world : World} {a : Config} {f : FunctionFrame} {fs : List Frame} {note : FnNote} {s : State}
    (st : TopSound world a f fs note s) where
  -- ---- pushes

  -- a slot pushed, and control that goes on
  push_goes : (kind : SlotKind) (v : Neutral) (t : Ty) (next : ℕ) → next < world.image_size → FitsHere st t v
      → (kind ≡ N → kept_natural world.notes (live_memory world a).objects v ≡ v)
      → has_room world.notes note (Item.Slot kind Ty.Any) s.items ≡ true → Accepts (GoesOn world next (with_item s (Item.Slot kind t)))
      (pushed a a.frames (Pushed kind v) >>= (λ b. goes world b next))
  push_goes kind v t next i h n r =
      let p = push_fits st kind v t h n r in
      subst (λ o. Accepts (GoesOn world next (with_item s (Item.Slot kind t))) (o >>= (λ b. goes world b next))) (sym p.0)
      (goes_on (with_items a f (Pushed kind v ∷ f.items) fs) next (with_item s (Item.Slot kind t)) i p.1)

  -- the rule of a push
  pub push_rule : {P : Type 0} (kind : SlotKind) (op : Operand) (extra : Extra) (x : Successors)
      → rules_flow.push_row world.notes note s kind op extra ≡ Ok x
      → ((t : Loaded) → operand_value world.notes note s (slot_access kind) op extra ≡ Ok t → t.made ≡ true
      → has_room world.notes note (Item.Slot kind Ty.Any) s.items ≡ true
      → falls (with_item s (Item.Slot kind (slot_type kind t.ty))) ≡ x → P) → P
  unfolding rules_flow.push_row
  push_rule kind op extra x e k =
      then_ok (also (operand_value world.notes note s (slot_access kind) op extra)
      (needs RuleName.Stack (has_room world.notes note (Item.Slot kind Ty.Any) s.items))) _ x e (λ t e1 e2.
      also_ok (operand_value world.notes note s (slot_access kind) op extra)
      (needs RuleName.Stack (has_room world.notes note (Item.Slot kind Ty.Any) s.items)) t e1 (λ e3 e4.
      also_ok (Ok (falls (with_item s (Item.Slot kind (slot_type kind t.ty))))) (needs RuleName.Thunk t.made) x e2 (λ e5 e6.
      k t e3 (needs_true RuleName.Thunk t.made e6) (needs_true RuleName.Stack _ e4) (ok_same _ x e5))))

  fall_of : (z : State) (x : Successors) → falls z ≡ x → x.fall ≡ Some z
  fall_of z x e = ap (λ (y : Successors). y.fall) (sym e)

  pub push_natural_fits : (op : Operand) (extra : Extra) (next : ℕ) (x : Successors) → BesideFits op extra
      → next < world.image_size → rules_flow.push_row world.notes note s N op extra ≡ Ok x
      → FallsOn world next x (push_natural_row world a next (beside_extra op extra))
  unfolding push_natural_row
  push_natural_fits op extra next x b i e = push_rule N op extra x e (λ t e1 made room out.
      let q = (operand_known st RuleAccess.Natural op extra t e1).bounded in
      record {
        state = with_item s (Item.Slot N (slot_type N t.ty));
        falls_to = fall_of _ x out;
        goes = accepts_then (FitsHere st t.ty) (GoesOn world next (with_item s (Item.Slot N (slot_type N t.ty)))) (value world a
            (Move Size.Natural) (beside_extra op extra)) _ (operand_fits st (Move Size.Natural) op extra t (λ v. refl) b (λ h. made) e1)
            (λ v fv. push_goes N (kept_natural world.notes (live_memory world a).objects v) (slot_type N t.ty) next i
            (natural_fits (seen st) (objects st) t.ty v q fv)
            (λ e. natural_twice world.notes (live_memory world a).objects v) room);
      })

  pub push_wide_fits : (wide : Bool) (op : Operand) (extra : Extra) (next : ℕ) (x : Successors) → BesideFits op extra
      → next < world.image_size → rules_flow.push_row world.notes note s (slot_kind wide) op extra ≡ Ok x
      → FallsOn world next x (push_row world a next wide (beside_extra op extra))
  unfolding push_row
  push_wide_fits true op extra next x b i e = push_rule Q op extra x e (λ t e1 made room out. record {
    state = with_item s (Item.Slot Q t.ty);
    falls_to = fall_of _ x out;
    goes = accepts_then (FitsHere st t.ty) (GoesOn world next (with_item s (Item.Slot Q t.ty)))
        (value world a (Form true) (beside_extra op extra)) _ (right_fits st true op extra t b e1) (λ v fv.
        push_goes Q v t.ty next i fv (λ e. absurd cc) room);
  })
  push_wide_fits false op extra next x b i e = push_rule D op extra x e (λ t e1 made room out. record {
    state = with_item s (Item.Slot D (slot_type D t.ty));
    falls_to = fall_of _ x out;
    goes = accepts_then (FitsHere st t.ty) (GoesOn world next
        (with_item s (Item.Slot D (slot_type D t.ty)))) (value world a (Form false) (beside_extra op extra)) _
        (right_fits st false op extra t b e1) (λ v fv.
        push_goes D (narrowed 32 v) (slot_type D t.ty) next i (low_fits (seen st) (objects st) 32 t.ty v (omega arith) fv)
        (λ e. absurd cc) room);
  })
