use Rattle.std.proofs.Common.{◌≡◌}
use Rattle.printed_texts.specs.PrintedTypes.{names_below}
use Rattle.printed_texts.proofs.names.field_names.Given as goal

abbrev pub invariant-loop-number : goal.invariant-loop-number
invariant-loop-number l = l.names.items ≡ names_below l.fields l.set l.number
