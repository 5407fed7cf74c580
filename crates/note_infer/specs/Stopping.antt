-- For proofs: what holds where no states are found.
use Rattle.std.specs.Prelude.{ℕ, List, ⊤}
use Rattle.note_types.specs.declared.notes.Notes.{Notes}
use Rattle.note_types.specs.declared.rule.RuleName.{RuleName}
use Rattle.note_types.specs.declared.state.State.{State}
use Rattle.pe_image.specs.declared.image.Image.{Image}
use Rattle.note_infer.specs.Inferred.{HasRounds}
use Rattle.note_infer.specs.Rounds.{IsStuck, States}
use Rattle.note_infer.specs.declared.rounds.NotFound.{NotFound}
use Rattle.note_infer.specs.declared.rounds.NotFound.TheVariants.{NoMemory, Stuck}

-- a round after some others is stuck
pub record StuckAfter (image : Image) (notes : Notes) (leaders : List ℕ) (place : ℕ) (r : RuleName) (s : State) : Type 0 where
  pub states : States
  pub found : HasRounds image notes leaders states
  pub stuck : IsStuck image notes leaders states place r s

-- there was no memory, or a round is stuck
abbrev pub IsNotFound : Image → Notes → List ℕ → NotFound → Type 0
IsNotFound image notes leaders NoMemory = ⊤
IsNotFound image notes leaders (Stuck stop) = StuckAfter image notes leaders stop.place stop.rule stop.state

-- the same where the states before the round are these
abbrev pub IsEnd : Image → Notes → List ℕ → States → NotFound → Type 0
IsEnd image notes leaders states NoMemory = ⊤
IsEnd image notes leaders states (Stuck stop) = IsStuck image notes leaders states stop.place stop.rule stop.state
