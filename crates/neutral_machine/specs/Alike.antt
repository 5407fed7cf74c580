-- For proofs: how what a machine does at a width is like what the neutral machine does. docs/SIMULATION.md, "What the laws
-- say".
use Rattle.std.specs.Prelude.{◌≡◌, ℕ, Some, None, Result, Ok, Err, ⊤}
use Rattle.ebc_machine.specs.declared.StepEnd.{StepEnd}
use Rattle.ebc_machine.specs.declared.StepEnd.TheVariants as ends
use Rattle.note_types.specs.Concrete.{Concrete}
use Rattle.note_types.specs.declared.exception.Exception.{Exception}
use Rattle.neutral_machine.specs.Config.{Config}
use Rattle.neutral_machine.specs.Layout.{addresses}
use Rattle.neutral_machine.specs.Outcomes.{Outcome, Gives, Raises, Stuck}
use Rattle.host_model.specs.Placements.{Placement, thunk_cell_address}
use Rattle.host_model.specs.Values.{Shows}
use Rattle.host_model.specs.World.{World}
use Rattle.neutral_machine.specs.Rows.{NeutralEnd, Next, Native, MakeThunk}
use Rattle.neutral_machine.specs.Stands.{MachineStands}

-- The machine does what the neutral machine does, unless that is stuck: related results, or the same exception.
abbrev pub Does : {A B : Type 0} → (A → B → Type 0) → Outcome A → Result B Exception → Type 0
Does R Stuck o = ⊤
Does R (Raises e) (Ok y) = ⊥
Does R (Raises e) (Err f) = e ≡ f
Does R (Gives x) (Ok y) = R x y
Does R (Gives x) (Err f) = ⊥

-- how the two machines' ends agree: a target shows as the number there, and a thunk cell lies at the address there
abbrev pub EndsAlike : ℕ → World → Placement → Config → NeutralEnd → StepEnd → Type 0
EndsAlike w world P b Next ends.Next = ⊤
EndsAlike w world P b (Native v) (ends.Native x) = Shows w (addresses w world.notes P b.frames) v x
EndsAlike w world P b (MakeThunk i) (ends.MakeThunk x) = thunk_cell_address world.notes P i ≡ Some x
EndsAlike w world P b _ _ = ⊥

-- the ends agree, and the machine stands for the configuration
abbrev pub RowsAlike : ℕ → World → Placement → (ℕ → ℕ) → NeutralEnd × Config → StepEnd × Concrete → Type 0
RowsAlike w world P mapped (e, b) (f, t) = EndsAlike w world P b e f × MachineStands w world P mapped None b t

-- what a step of the machine is beside what the neutral machine gives: a step that raises leaves the state as it was
abbrev pub StepAlike : ℕ → World → Placement → (ℕ → ℕ) → Concrete → Outcome (NeutralEnd × Config) → StepEnd × Concrete → Type 0
StepAlike w world P mapped s Stuck t = ⊤
StepAlike w world P mapped s (Raises e) t = t ≡ (ends.Raised e, s)
StepAlike w world P mapped s (Gives b) t = RowsAlike w world P mapped b t
