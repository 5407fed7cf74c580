use Rattle.std.proofs.Common.{◌≡◌, map, take}
use Rattle.printed_texts.specs.PrintedStates.{in_quotes}
use Rattle.printed_texts.proofs.lists.quoted_each.Given as goal

abbrev pub invariant-loop-text : goal.invariant-loop-text
invariant-loop-text l = l.quoted.items ≡ map in_quotes (take l.text-index l.texts)
