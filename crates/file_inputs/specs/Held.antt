-- Meaning: the files that a folder has, within their limits: docs/COMMANDS.md, "The answer".
use Rattle.std.specs.Prelude.{◌≡◌, ℕ, ◌≤◌, List, length, Some}
use Rattle.std.specs.FinMap.{get}
use Rattle.ebc_outside.specs.Files.{Files}

-- the folder has these bytes under this name, and they are within the limit
pub record HasFile (files : Files) (name : List ℕ) (limit : ℕ) (bytes : List ℕ) : Type 0 where
  pub there : get files name ≡ Some bytes
  pub fits : length bytes ≤ limit
