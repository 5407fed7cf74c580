-- Meaning: the limits of notes. docs/NOTES.md lists them.
use Rattle.std.specs.Prelude.{◌≡◌, ◌⊎◌, ℕ, nat_eq, if◌then◌else◌}

-- a version that notes and scripts may have
abbrev pub IsVersion : ℕ → Type 0
IsVersion version = (version ≡ 1) ⊎ (version ≡ 2)

-- how many bytes of code all functions of notes of a version have at most; 0 for a version that isn't there
abbrev pub code_limit : ℕ → ℕ
code_limit version = if nat_eq version 1 then 262144 else if nat_eq version 2 then 1048576 else 0

-- how many points notes of a version have at most
abbrev pub point_limit : ℕ → ℕ
point_limit version = if nat_eq version 1 then 16384 else if nat_eq version 2 then 32768 else 0

-- how many bytes of stack nine frames of a function that the firmware enters take at most where a pointer has 8 bytes
abbrev pub stack_limit : ℕ
stack_limit = 1048576
