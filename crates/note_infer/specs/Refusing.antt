-- For proofs: what is known where a state isn't joined in, or where an instruction isn't passed: nothing for want of memory.
use Rattle.std.specs.Prelude.{⊤}
use Rattle.note_types.specs.declared.rule.RuleName.{RuleName}
use Rattle.note_infer.specs.declared.coming.NotTaken.{NotTaken}
use Rattle.note_infer.specs.declared.coming.NotTaken.TheVariants as refusals
use Rattle.note_infer.specs.declared.walk.Failure.{Failure}
use Rattle.note_infer.specs.declared.walk.Failure.TheVariants as failures

-- this holds where a state clashes
abbrev pub OnClash : Type 0 → NotTaken → Type 0
OnClash P refusals.NoMemory = ⊤
OnClash P refusals.Clashes = P

-- this holds of the rule that fails
abbrev pub OnRule : (RuleName → Type 0) → Failure → Type 0
OnRule P failures.NoMemory = ⊤
OnRule P (failures.Rule r) = P r
