-- For proofs: when a function frame of a configuration fits a typing state. It is said of a memory, registers, C and a
-- number of thunks by themselves, since it is also said of frames that wait for these. docs/NOTES.md, "States".
use Rattle.std.specs.Prelude.{◌≡◌, ℕ, ◌<◌, Bool, true, Some}
use Rattle.std.specs.List.{AllZip}
use Rattle.note_types.specs.States.{type_of}
use Rattle.note_types.specs.declared.items.Item.{Item}
use Rattle.note_types.specs.declared.items.Item.TheVariants as item
use Rattle.note_types.specs.declared.notes.Notes.{Notes}
use Rattle.note_types.specs.declared.state.Fact.{Fact}
use Rattle.note_types.specs.declared.state.State.{State}
use Rattle.host_model.specs.Values.{number}
use Rattle.neutral_machine.specs.Config.{Registers, StackItem, Pushed, LocalsOf, FunctionFrame}
use Rattle.host_model.specs.World.{frame_locals}
use Rattle.neutral_machine.specs.Memory.{Memory, AreWritten}
use Rattle.neutral_machine.specs.Operations.{compared_as}
use Rattle.neutral_machine.specs.Fits.{Fits}

-- an item of a function at depth d has the kind of an item of a state and fits its type; the locals are the function's
abbrev pub ItemFits : Notes → Memory → ℕ → FunctionFrame → StackItem → Item → Type 0
ItemFits notes m d f (Pushed kind v) (item.Slot k t) = (kind ≡ k) × Fits notes m d f.saved t v
ItemFits notes m d f (LocalsOf s) item.Locals = frame_locals notes f.func ≡ Some s
ItemFits notes m d f _ _ = ⊥

-- the comparison that a fact names gave C
pub record FactHolds (notes : Notes) (m : Memory) (regs : Registers) (c : Bool) (fact : Fact) : Type 0 where
  pub gave : compared_as notes m.objects fact.op true (regs fact.reg) (number fact.k) ≡ Some c

-- The function frame at depth d fits a state, where these are the memory, the registers, C and the number of thunks made.
pub record FitsState (notes : Notes) (m : Memory) (d : ℕ) (f : FunctionFrame) (s : State) (regs : Registers) (c : Bool)
    (made : ℕ) : Type 0 where
  pub registers : (r : ℕ) → 0 < r → r < 8 → Fits notes m d f.saved (type_of s r) (regs r)
  pub items : AllZip (ItemFits notes m d f) f.items s.items
  pub written : AreWritten m d s.written
  pub made_are : made ≡ s.made
  pub fact : (x : Fact) → s.fact ≡ Some x → FactHolds notes m regs c x
