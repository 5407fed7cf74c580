-- For proofs: what follows from the definition of the points that are found. docs/crates/note_infer.md has it in words.
use Rattle.std.specs.Prelude.{◌≡◌, ◌⊎◌, ℕ, ◌+◌, ◌*◌, ◌<◌, ◌≤◌, List, None, length}
use Rattle.note_types.specs.Limits.{point_limit}
use Rattle.note_types.specs.Records.{IsNotes}
use Rattle.note_types.specs.declared.notes.Notes.{Notes}
use Rattle.note_types.specs.declared.notes.Point.{Point}
use Rattle.pe_image.specs.declared.image.Image.{Image}
use Rattle.width_checker.specs.Typed.{Typed}
use Rattle.note_infer.specs.declared.inferred.Inferred.TheVariants.{Points}
use Rattle.note_infer.specs.Inferred.{IsInferred, points_of}
use Rattle.note_infer.specs.Leaders.{AreLeaders}
use Rattle.note_infer.specs.Ranks.{most_rank}
use Rattle.note_infer.specs.RoundEnds.{leaders_rank}
use Rattle.note_infer.specs.Rounds.{AreAfter, AreSame, IsRound, States, with_points}

-- rounds go on with notes as they were read and leaders within the limit
pub record GoesOn (image : Image) (notes : Notes) (leaders : List ℕ) (rounds : ℕ) (states : States) : Type 0 where
  pub read : IsNotes notes
  pub all : AreLeaders image notes leaders
  pub few : length leaders ≤ point_limit notes.version
  pub after : AreAfter image notes leaders rounds states

-- a round changes no leader's state, or it leaves less known at all of them together
abbrev pub RoundsEnd : Type 0
RoundsEnd =
    (image : Image) (notes : Notes) (leaders : List ℕ) (rounds : ℕ) (states next : States) → GoesOn image notes leaders rounds states
    → IsRound image notes leaders states next → AreSame leaders states next ⊎ (leaders_rank next leaders < leaders_rank states leaders)

-- before the first round at most so much is known
abbrev pub RoundsBegin : Type 0
RoundsBegin = (leaders : List ℕ) (states : States) → ((x : ℕ) → states x ≡ None) → leaders_rank states leaders
    ≡ length leaders * (most_rank + 1)

-- the conditions on notes hold of the notes with the points that are found, so that they may be checked
abbrev pub FoundAreNotes : Type 0
FoundAreNotes =
    (image : Image) (notes : Notes) (leaders : List ℕ) (rounds : ℕ) (states : States) → GoesOn image notes leaders rounds states
    → IsNotes (with_points notes (points_of states leaders))

-- where points are the answer, the image is typed under the notes with these points
abbrev pub FoundIsTyped : Type 0
FoundIsTyped = (image : Image) (notes : Notes) (points : List Point) → IsInferred image notes (Points points)
    → Typed image (with_points notes points)
