-- For proofs: how far the states of a round have become those of the round before, leader by leader.
use Rattle.std.specs.Prelude.{◌≡◌, ◌⊎◌, ℕ, ◌<◌, ◌≤◌, List, [], ◌∷◌, ◌++◌, Option, None, Some, slice_get, slice_index, slice_index_or}
use Rattle.note_types.specs.declared.notes.FnNote.{FnNote}
use Rattle.note_types.specs.declared.notes.Notes.{Notes}
use Rattle.note_types.specs.declared.state.State.{State}
use Rattle.note_infer.specs.Rounds.{IsWithin}
use Rattle.note_infer.specs.Beginning.{StartsAt}
use Rattle.note_infer.specs.Coming.{IsComing}
use Rattle.note_infer.specs.Starting.{StartsAscend}
use Rattle.note_infer.specs.declared.coming.Coming.{Coming}
use Rattle.note_infer.specs.declared.rounds.Start.{Start}

-- a walk begins at the leader of this number, whose state is another one than before
pub record IsChange (notes : Notes) (leaders : List ℕ) (before states : List (Option State)) (number : ℕ) (x : Start) : Type 0 where
  pub place_is : slice_index leaders number ≡ x.place
  pub state_is : slice_index_or states number None ≡ Some x.state
  pub differs : slice_index_or before number None ≡ Some x.state → ⊥
  pub f : FnNote
  pub there : slice_get notes.function x.func ≡ Some f
  pub within : IsWithin f x.place

-- one walk more begins, at the leader of this number, where its state changes
pub data Turned (notes : Notes) (leaders : List ℕ) (before states : List (Option State)) (number : ℕ) (starts more : List Start) : Type 0
  where
    turned_none : slice_index_or states number None ≡ slice_index_or before number None → more ≡ starts
        → Turned notes leaders before states number starts more
    turned : (x : Start) → IsChange notes leaders before states number x → more ≡ starts ++ x ∷ []
        → Turned notes leaders before states number starts more

-- the change of a leader before this one
pub record IsChangeBelow (notes : Notes) (leaders : List ℕ) (before states : List (Option State)) (n : ℕ) (x : Start) : Type 0 where
  pub number : ℕ
  pub below : number < n
  pub change : IsChange notes leaders before states number x

-- the states of the leaders before this one were taken over, and walks begin at those that changed
pub record Changed (notes : Notes) (leaders : List ℕ) (first now : Coming) (starts : List Start) (n : ℕ) : Type 0 where
  pub coming : IsComing leaders now
  pub states : now.states.items ≡ first.states.items
  pub over : (k : ℕ) → k < n → slice_index_or now.before.items k None ≡ slice_index_or first.states.items k None
  pub ahead : (k : ℕ) → n ≤ k → slice_index_or now.before.items k None ≡ slice_index_or first.before.items k None
  pub ascend : StartsAscend starts
  pub each : (j : ℕ) (x : Start) → slice_get starts j ≡ Some x
      → IsChangeBelow notes leaders first.before.items first.states.items n x
  pub all : (k : ℕ) → k < n → StartsAt starts (slice_index leaders k)
      ⊎ (slice_index_or first.states.items k None ≡ slice_index_or first.before.items k None)
