-- Meaning: how far a run is in its script, and the native call that is under way in a frame of the host. docs/HOST.md says
-- what the modelled host does.
use Rattle.std.specs.Prelude.{ℕ, suc, ◌+◌, Bool, true, false, List, [], ◌∷◌}

-- How far a run has come in its script: calls accepted, notifications entered, instructions done, thunks served.
pub record ScriptPlace : Type 0 where
  pub entries : ℕ
  pub notifications : ℕ
  pub instructions : ℕ
  pub thunks : ℕ

-- where a run begins in its script
abbrev pub script_start : ScriptPlace
script_start = record { entries = 0; notifications = 0; instructions = 0; thunks = 0 }

-- the script place once one more call was accepted
abbrev pub one_entry : ScriptPlace → ScriptPlace
one_entry p = record p { entries = p.entries + 1 }

-- once one more instruction was done
abbrev pub one_instruction : ScriptPlace → ScriptPlace
one_instruction p = record p { instructions = p.instructions + 1 }

-- once one more notification was entered
abbrev pub one_notification : ScriptPlace → ScriptPlace
one_notification p = record p { notifications = p.notifications + 1 }

-- once one more thunk was served
abbrev pub one_thunk : ScriptPlace → ScriptPlace
one_thunk p = record p { thunks = p.thunks + 1 }

-- A native call that is under way in a host frame: none; asked for at a place, with a target, until the host accepts it; and
-- then by its script entry, how many of its callbacks were entered, and the argument slots that were copied. A value is
-- neutral in a configuration, and a number in the state of a machine.
pub data NativeCall (A : Type 0) : Type 0 where
  NoCall : NativeCall A
  Asked : (place : ℕ) (target : A) → NativeCall A
  Accepted : (entry callbacks : ℕ) (slots : List A) → NativeCall A

-- the slots that a native call copied
abbrev pub copied : {A : Type 0} → NativeCall A → List A
copied (Accepted entry callbacks slots) = slots
copied _ = []

-- a native call with one more callback entered
abbrev pub one_callback : {A : Type 0} → NativeCall A → NativeCall A
one_callback (Accepted entry callbacks slots) = Accepted entry (suc callbacks) slots
one_callback call = call

-- nothing is in a list; where these are the frames below one of the host, it is the first
abbrev pub is_empty : {A : Type 0} → List A → Bool
is_empty [] = true
is_empty (x ∷ xs) = false
