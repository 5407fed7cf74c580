-- Meaning: what the items of a list give, one after the other: the first that fails decides. docs/SCRIPTS.md, "What the
-- reader refuses".
use Rattle.std.specs.Prelude.{ℕ, ◌+◌, List, [], ◌∷◌, Option, Some, None, Result, Ok, option_map, option_and_then}
use Rattle.note_types.specs.declared.fault.TomlFault.{TomlFault}
use Rattle.ebc_base.specs.Steps.{◌>>=◌}

-- what all items give, where each gives something
unfoldable pub all_of : {A B : Type 0} → (A → Option B) → List A → Option (List B)
all_of gives [] = Some []
all_of gives (x ∷ xs) = option_and_then (λ y. option_map (λ ys. y ∷ ys) (all_of gives xs)) (gives x)

-- what each item gives, the items being counted from i on, or the first fault
unfoldable pub each_of : {A B : Type 0} → (ℕ → A → Result B TomlFault) → ℕ → List A → Result (List B) TomlFault
each_of gives i [] = Ok []
each_of gives i (x ∷ xs) = do
  y ← gives i x
  ys ← each_of gives (i + 1) xs
  Ok (y ∷ ys)

-- nothing where each item passes, the items being counted from i on, or the first fault
unfoldable pub all_pass : {A : Type 0} → (ℕ → A → Result (Unit {0}) TomlFault) → ℕ → List A → Result (Unit {0}) TomlFault
all_pass check i [] = Ok tt
all_pass check i (x ∷ xs) = do
  _ ← check i x
  all_pass check (i + 1) xs
