-- For proofs: how far the entries have come, function by function.
use Rattle.std.specs.Prelude.{◌≡◌, ℕ, ◌<◌, ◌≤◌, List, None, Some, slice_get}
use Rattle.std.specs.List.{Contains}
use Rattle.note_types.specs.Notes.{entry_state}
use Rattle.note_types.specs.declared.notes.FnNote.{FnNote}
use Rattle.note_types.specs.declared.notes.Notes.{Notes}
use Rattle.note_infer.specs.Rounds.{IsWithin, States, all_in, by_entry}
use Rattle.note_infer.specs.Beginning.{StartsAt}
use Rattle.note_infer.specs.Starting.{StartsAscend}
use Rattle.note_infer.specs.declared.rounds.Start.{Start}

-- a walk begins at the start of a function before this one, which is no leader, with its entry state
pub record IsEntry (notes : Notes) (leaders : List ℕ) (n : ℕ) (x : Start) : Type 0 where
  pub below : x.func < n
  pub f : FnNote
  pub there : slice_get notes.function x.func ≡ Some f
  pub apart : Contains leaders f.place → ⊥
  pub place_is : x.place ≡ f.place
  pub state_is : x.state ≡ entry_state notes x.func

-- what the entries of the functions before this one give has come, and nothing yet to the others' leaders
pub record Entered (notes : Notes) (leaders : List ℕ) (come : States) (starts : List Start) (n : ℕ) : Type 0 where
  pub ascend : StartsAscend starts
  pub each : (j : ℕ) (x : Start) → slice_get starts j ≡ Some x → IsEntry notes leaders n x
  pub taken : (k : ℕ) (f : FnNote) → slice_get notes.function k ≡ Some f → k < n → (leader : ℕ) → Contains leaders leader
      → IsWithin f leader → all_in None (by_entry notes k f leader) ≡ Some (come leader)
  pub rest : (k : ℕ) (f : FnNote) → slice_get notes.function k ≡ Some f → n ≤ k → (leader : ℕ) → Contains leaders leader
      → IsWithin f leader → come leader ≡ None
  pub begins : (k : ℕ) (f : FnNote) → slice_get notes.function k ≡ Some f → k < n → (Contains leaders f.place → ⊥)
      → StartsAt starts f.place
