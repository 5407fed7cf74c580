-- Meaning: the lines that are printed of a file: docs/COMMANDS.md, "Printed lines".
use Rattle.std.specs.Prelude.{ℕ, List, ◌++◌, codes}

-- a file that the folder doesn't hold
abbrev pub missing_line : List ℕ → List ℕ
missing_line name = codes "missing " ++ (name ++ codes "\n")

-- a file, or a number, past its limit
abbrev pub large_line : List ℕ → List ℕ
large_line name = codes "large " ++ (name ++ codes "\n")

-- a file with a fault, and where in it the fault stands
abbrev pub bad_line : List ℕ → List ℕ → List ℕ → List ℕ
bad_line name fault detail = codes "bad " ++ (name ++ (codes " " ++ (fault ++ (codes " " ++ (detail ++ codes "\n")))))
