-- For proofs: what has come to the leaders, by their places.
use Rattle.std.specs.Prelude.{◌≡◌, ℕ, ◌<◌, nat_eq, if◌then◌else◌, List, [], ◌∷◌, Option, Some, None, length}
use Rattle.std.specs.Prelude.{slice_index_or, slice_set}
use Rattle.std.specs.List.{Contains}
use Rattle.note_types.specs.declared.notes.FnNote.{FnNote}
use Rattle.note_types.specs.declared.state.State.{State}
use Rattle.note_infer.specs.JoinStates.{taken_in}
use Rattle.note_infer.specs.Rounds.{IsWithin, States, all_in}
use Rattle.note_infer.specs.declared.coming.Coming.{Coming}

-- the states at leaders, from a list of them in the leaders' order
unfoldable pub state_at : List ℕ → List (Option State) → States
state_at [] states x = None
state_at (l ∷ ls) [] x = None
state_at (l ∷ ls) (o ∷ os) x = if nat_eq l x then o else state_at ls os x

-- what has come to these leaders: a leader to which nothing was given has the state of the round before
pub record IsComing (leaders : List ℕ) (c : Coming) : Type 0 where
  pub before : length c.before.items ≡ length leaders
  pub states : length c.states.items ≡ length leaders
  pub given : (k : ℕ) → Contains c.given.items k → k < length leaders
  pub quiet : (k : ℕ) → (Contains c.given.items k → ⊥) → slice_index_or c.states.items k None ≡ slice_index_or c.before.items k None

-- a state is joined in at a leader, by its number
pub record TakesNumber (old new : List (Option State)) (number : ℕ) (s : State) : Type 0 where
  pub u : State
  pub taken : taken_in (slice_index_or old number None) s ≡ Some u
  pub is : new ≡ slice_set old number (Some u)

-- the state where it goes to a leader
abbrev pub given_to : ℕ → State → ℕ → List State
given_to place s leader = if nat_eq place leader then s ∷ [] else []

-- each leader of the function takes what is given to it, and the others stay
pub record Takes (leaders : List ℕ) (f : FnNote) (given : ℕ → List State) (old new : States) : Type 0 where
  pub within : (leader : ℕ) → Contains leaders leader → IsWithin f leader → all_in (old leader) (given leader) ≡ Some (new leader)
  pub others : (leader : ℕ) → Contains leaders leader → (IsWithin f leader → ⊥) → new leader ≡ old leader

-- what is given to a leader of the function clashes with what has come there
pub record ClashesAt (leaders : List ℕ) (f : FnNote) (given : ℕ → List State) (old : States) : Type 0 where
  pub leader : ℕ
  pub there : Contains leaders leader
  pub within : IsWithin f leader
  pub clash : all_in (old leader) (given leader) ≡ None
