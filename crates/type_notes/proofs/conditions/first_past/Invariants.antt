use Rattle.std.proofs.Common.{◌≡◌, ◌≤◌, take}
use Rattle.type_notes.specs.Conditions.{code_of}
use Rattle.type_notes.proofs.PastLemmas.{WithinBelow}
use Rattle.type_notes.proofs.conditions.first_past.Given as goal

abbrev pub invariant-loop-i : goal.invariant-loop-i
invariant-loop-i l = record {
  small : l.code ≤ l.limit;
  so_far : l.code ≡ code_of (take l.i l.functions);
  within : WithinBelow l.limit l.functions l.i;
}
