-- For proofs: the names that several labels have, one label more.
use Rattle.std.specs.Prelude.{ℕ, List, if◌then◌else◌}
use Rattle.ebc_base.specs.Tables.{is_named, with_name}

-- the names that came again, with one that comes among all names so far
abbrev pub shared_with : List ℕ → List (List ℕ) → List (List ℕ) → List (List ℕ)
shared_with name all shared = if is_named name all then with_name name shared else shared
