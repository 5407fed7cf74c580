-- For proofs: the rules of instructions on data are true of the neutral machine.
use Rattle.std.specs.Prelude.{◌≡◌, List, Ok}
use Rattle.ebc_insn.specs.declared.Insn.{Insn}
use Rattle.neutral_machine.specs.Rows.{NeutralEnd, Next, Site, executed}
use Rattle.note_types.specs.declared.notes.FnNote.{FnNote}
use Rattle.note_types.specs.declared.spot.Spot.TheVariants.{Place}
use Rattle.note_types.specs.declared.state.State.{State}
use Rattle.rules_data.specs.Data.{after_data}
use Rattle.rules_flow.specs.Successors.{falls}
use Rattle.neutral_machine.specs.Config.{FunctionFrame, Frame, Config}
use Rattle.host_model.specs.World.{World}
use Rattle.invariant_laws.specs.Accepts.{Accepts}
use Rattle.typing_laws.specs.OneRule.{WorldTyped, StandsTyped, here_of}
use Rattle.invariant_laws.specs.Sound.{Sound}

-- the run goes on at the next place, and is sound there with a state
abbrev pub FallsSound : World → Site → State → NeutralEnd × Config → Type 0
FallsSound world here t (e, b) = (e ≡ Next) × (b.spot ≡ Place here.next) × Sound world b t

-- An instruction on data that its rule accepts goes on at the next place, soundly with the state that the rule gives.
abbrev pub OneDataRule : Type 0
OneDataRule =
    (world : World) (a : Config) (f : FunctionFrame) (fs : List Frame) (note : FnNote) (here : Site) (s : State) (i : Insn) (t : State)
    → WorldTyped world → StandsTyped world a f fs note here s i (falls t) → after_data world.notes (here_of here f.func) s i ≡ Ok t
    → Accepts (FallsSound world here t) (executed world a here i)
