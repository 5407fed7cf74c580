-- Meaning: the points that are found for an image under notes, or where it got stuck. docs/crates/note_infer.md has the
-- words.
use Rattle.std.specs.Prelude.{◌≡◌, ℕ, ◌<◌, List, [], ◌∷◌, Option, Some, None, length}
use Rattle.note_types.specs.Limits.{point_limit}
use Rattle.note_types.specs.declared.notes.Notes.{Notes}
use Rattle.note_types.specs.declared.notes.Point.{Point}
use Rattle.note_types.specs.declared.rule.RuleName.{RuleName}
use Rattle.note_types.specs.declared.state.State.{State}
use Rattle.pe_image.specs.declared.image.Image.{Image}
use Rattle.plain_check.specs.declared.verdict.Verdict.TheVariants.{Neutral, Refused}
use Rattle.width_checker.specs.Typed.{TablesHold}
use Rattle.width_checker.specs.Verdicts.{IsRefused, IsVerdict}
use Rattle.note_infer.specs.declared.inferred.Inferred.{Inferred}
use Rattle.note_infer.specs.declared.inferred.Inferred.TheVariants.{Points, Stuck, Many}
use Rattle.note_infer.specs.Leaders.{AreLeaders}
use Rattle.note_infer.specs.Rounds.{AreAfter, AreSame, IsRound, IsStuck, States, with_points}

-- the point at a leader that has a state, before other points
abbrev pub with_point : ℕ → Option State → List Point → List Point
with_point leader None points = points
with_point leader (Some s) points = record { place = leader; state = s } ∷ points

-- the points at the leaders that have a state
unfoldable pub points_of : States → List ℕ → List Point
points_of states [] = []
points_of states (leader ∷ leaders) = with_point leader (states leader) (points_of states leaders)

-- where the rules of things hold and the leaders are within the limit, the states after some rounds
pub record HasRounds (image : Image) (notes : Notes) (leaders : List ℕ) (states : States) : Type 0 where
  pub tables : TablesHold image notes
  pub all : AreLeaders image notes leaders
  pub few : ¬ (point_limit notes.version < length leaders)
  pub rounds : ℕ
  pub after : AreAfter image notes leaders rounds states

-- rounds went on until one changed nothing
pub record IsSettled (image : Image) (notes : Notes) (leaders : List ℕ) (states : States) : Type 0 where
  pub found : HasRounds image notes leaders states
  pub next : States
  pub round : IsRound image notes leaders states next
  pub same : AreSame leaders states next

-- the answer: by the verdict where a rule of shapes, functions, static objects or thunk cells fails, by the leaders' number, by a
-- round that is stuck, or by the verdict under the points found
pub data IsInferred (image : Image) (notes : Notes) (answer : Inferred) : Type 0 where
  by_tables : (place : ℕ) (r : RuleName) → ¬ TablesHold image notes → IsRefused image notes place r → answer ≡ Stuck place r None
      → IsInferred image notes answer
  by_number : (leaders : List ℕ) → TablesHold image notes → AreLeaders image notes leaders → point_limit notes.version < length leaders
      → answer ≡ Many (length leaders) → IsInferred image notes answer
  by_round : (leaders : List ℕ) (states : States) (place : ℕ) (r : RuleName) (s : State) → HasRounds image notes leaders states
      → IsStuck image notes leaders states place r s → answer ≡ Stuck place r (Some s) → IsInferred image notes answer
  by_verdict : (leaders : List ℕ) (states : States) (place : ℕ) (r : RuleName) → IsSettled image notes leaders states
      → IsVerdict image (with_points notes (points_of states leaders)) (Refused place r) → answer ≡ Stuck place r None
      → IsInferred image notes answer
  by_points : (leaders : List ℕ) (states : States) → IsSettled image notes leaders states
      → IsVerdict image (with_points notes (points_of states leaders)) Neutral → answer ≡ Points (points_of states leaders)
      → IsInferred image notes answer
