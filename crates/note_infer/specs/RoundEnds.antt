-- For proofs: why rounds end: each one that changes something leaves less known at the leaders together.
use Rattle.std.specs.Prelude.{◌≡◌, ℕ, ◌^◌, ◌<◌, ◌≤◌, List, Some, length, slice_get}
use Rattle.note_types.specs.declared.notes.FnNote.{FnNote}
use Rattle.note_types.specs.declared.notes.Notes.{Notes}
use Rattle.note_types.specs.declared.state.State.{State}
use Rattle.pe_image.specs.declared.image.Image.{Image}
use Rattle.note_infer.specs.Ranks.{leader_rank, summed}
use Rattle.note_infer.specs.Rounds.{GivenAt, States}

-- a state has as many registers, items and fields as there is room for
pub record HasRoom (s : State) : Type 0 where
  pub registers : length s.regs ≤ 8
  pub items : length s.items ≤ 65
  pub written : s.written < 2 ^ 64

-- all states that are given in a round have
abbrev pub GivesRoom : Image → Notes → List ℕ → States → Type 0
GivesRoom image notes leaders states =
    (k : ℕ) (f : FnNote) → slice_get notes.function k ≡ Some f → (leader place : ℕ) (ts : List State)
    → GivenAt image notes leaders states k f leader place ts
    → (j : ℕ) (t : State) → slice_get ts j ≡ Some t → HasRoom t

-- how much is known at all leaders together
abbrev pub leaders_rank : States → List ℕ → ℕ
leaders_rank states leaders = summed (λ (x : ℕ). leader_rank (states x)) leaders
