-- For proofs: where the walks of the first round begin, and where those of a round after another one.
use Rattle.std.specs.Prelude.{◌≡◌, ◌⊎◌, ℕ, ◌<◌, List, Option, Some, None, length, map, slice_get, slice_index_or}
use Rattle.std.specs.List.{Contains}
use Rattle.note_types.specs.declared.notes.FnNote.{FnNote}
use Rattle.note_types.specs.declared.notes.Notes.{Notes}
use Rattle.note_types.specs.declared.state.State.{State}
use Rattle.note_infer.specs.Rounds.{IsWithin, States, all_in, by_entry}
use Rattle.note_infer.specs.declared.rounds.Start.{Start}

-- a walk begins at a place
abbrev pub StartsAt : List Start → ℕ → Type 0
StartsAt starts place = Contains (map (λ (x : Start). x.place) starts) place

-- what the entries give has come to the leaders, and walks begin at the functions' starts that are no leaders
pub record AreEntries (notes : Notes) (leaders : List ℕ) (states come : States) (starts : List Start) : Type 0 where
  pub taken : (k : ℕ) (f : FnNote) → slice_get notes.function k ≡ Some f → (leader : ℕ) → Contains leaders leader → IsWithin f leader
      → all_in (states leader) (by_entry notes k f leader) ≡ Some (come leader)
  pub begins : (k : ℕ) (f : FnNote) → slice_get notes.function k ≡ Some f → (Contains leaders f.place → ⊥) → StartsAt starts f.place

-- a leader that has a state has one after the round
abbrev pub StayKnown : List (Option State) → List (Option State) → Type 0
StayKnown old new = (k : ℕ) → k < length new → slice_index_or new k None ≡ None → slice_index_or old k None ≡ None

-- walks begin where the state changes, and nowhere else
pub record AreChanges (states next : States) (starts : List Start) : Type 0 where
  pub all : (place : ℕ) → StartsAt starts place ⊎ (next place ≡ states place)
  pub differ : (place : ℕ) → StartsAt starts place → next place ≡ states place → ⊥
