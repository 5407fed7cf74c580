use Rattle.std.proofs.Common.{◌≡◌, map}
use Rattle.printed_texts.specs.PrintedStates.{register_type_text, told_up_to}
use Rattle.printed_texts.proofs.state.register_texts.Given as goal

abbrev pub invariant-loop-before : goal.invariant-loop-before
invariant-loop-before l = l.texts.items ≡ map (register_type_text l.notes l.fields l.state) (told_up_to l.state l.before)
