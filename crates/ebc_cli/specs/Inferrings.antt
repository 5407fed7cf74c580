-- Meaning: what `infer` replies: docs/COMMANDS.md, "The answer".
use Rattle.std.specs.Prelude.{◌≡◌, ℕ, List, [], ◌++◌, Option, Some, None}
use Rattle.note_infer.specs.Inferred.{IsInferred}
use Rattle.note_infer.specs.declared.inferred.Inferred.{Inferred}
use Rattle.note_infer.specs.declared.inferred.Inferred.TheVariants.{Points, Stuck, Many}
use Rattle.note_types.specs.declared.notes.Notes.{Notes}
use Rattle.note_types.specs.declared.state.State.{State}
use Rattle.pe_image.specs.declared.image.Image.{Image}
use Rattle.printed_texts.specs.PrintedStates.{points_text, state_text}
use Rattle.cli_base.specs.declared.outcome.Outcome.TheVariants as outcomes
use Rattle.cli_base.specs.declared.reply.Reply.{Reply}
use Rattle.cli_base.specs.Outputs.{prints}
use Rattle.cli_base.specs.Readings.{large_reply}
use Rattle.printed_texts.specs.Refusals.{refused_line}

-- the lines of the state in which the instruction at a place fails, where it has one
abbrev pub stuck_lines : Notes → ℕ → Option State → List ℕ
stuck_lines notes place None = []
stuck_lines notes place (Some s) = state_text notes place s

-- the points that are found are printed as tables; or where the search is stuck, by which rule, and the state there; or the image, whose
-- word is the first one, has more leaders than notes may have points
abbrev pub inferred_reply : List ℕ → Notes → Inferred → Reply
inferred_reply name notes (Points points) = prints outcomes.Done (points_text notes points)
inferred_reply name notes (Stuck place rule state) =
    prints (outcomes.Refused place rule) (refused_line place rule ++ stuck_lines notes place state)
inferred_reply name notes (Many leaders) = large_reply 1 name

-- the reply tells what is found for the image of this name under notes, whose own points are ignored
pub record TellsInferred (name : List ℕ) (image : Image) (notes : Notes) (reply : Reply) : Type 0 where
  pub answer : Inferred
  pub inferred : IsInferred image notes answer
  pub told : reply ≡ inferred_reply name notes answer
