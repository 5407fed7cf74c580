use Rattle.std.proofs.Common.{ℕ, ◌<◌}
use Rattle.note_types.specs.declared.notes.FnNote.{FnNote}
use Rattle.rules_image.specs.Images.{IsFunction}
use Rattle.rules_image.proofs.Firsts.{HoldsOf}
use Rattle.rules_image.proofs.tables.first_misplaced.Given as goal

abbrev pub invariant-loop-number : goal.invariant-loop-number
invariant-loop-number l = (k : ℕ) → k < l.number → HoldsOf (λ j (f : FnNote). IsFunction l.image l.notes j f) l.functions k
