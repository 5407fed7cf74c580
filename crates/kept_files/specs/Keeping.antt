-- For proofs: what a folder keeps of the files that it gave. This project defines it: docs/OUTSIDE.md.
use Rattle.std.specs.Prelude.{◌≡◌, ℕ, ◌+◌, List, [], length, Result, Ok, Err, Vec, ◌⊎◌}
use Rattle.std.specs.declared.alloc.Global.{Global}
use Rattle.std.specs.FinMap.{insert}
use Rattle.ebc_outside.specs.Files.{Files}
use Rattle.ebc_outside.specs.declared.ends.ReadEnd.{ReadEnd}

-- how many bytes are kept in all: 32 MiB
abbrev pub room_of_all : ℕ
room_of_all = 33554432

-- a file that is given is kept, in the place of an older one of its name and with room for it, or all stays
pub record IsStored (name bytes : List ℕ) (old : Files) (before : ℕ) (new : Files) (after : ℕ) : Type 0 where
  pub stands : new ≡ insert old name bytes
  pub room : before ≡ after + length bytes

pub record IsLeft (old : Files) (before : ℕ) (new : Files) (after : ℕ) : Type 0 where
  pub same : new ≡ old
  pub room : after ≡ before

abbrev pub Keeps : List ℕ → List ℕ → Files → ℕ → Files → ℕ → Type 0
Keeps name bytes old before new after = IsStored name bytes old before new after ⊎ IsLeft old before new after

-- what a read leaves kept
abbrev pub KeptAfter : List ℕ → Result (Vec ℕ Global) ReadEnd → Files → ℕ → Files → ℕ → Type 0
KeptAfter name (Ok bytes) old before new after = Keeps name bytes.items old before new after
KeptAfter name (Err end) old before new after = IsLeft old before new after

-- a name, or nothing if there was no memory for it
abbrev pub IsNameOrNothing : List ℕ → List ℕ → Type 0
IsNameOrNothing name kept = (kept ≡ name) ⊎ (kept ≡ [])
