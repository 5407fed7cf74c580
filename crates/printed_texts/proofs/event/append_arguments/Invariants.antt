use Rattle.std.proofs.Common.{◌≡◌, ◌++◌, take}
use Rattle.printed_texts.specs.RunTexts.{arguments_text}
use Rattle.printed_texts.proofs.event.append_arguments.Given as goal

abbrev pub invariant-loop-seen : goal.invariant-loop-seen
invariant-loop-seen l = l.out.items ≡ l.fn.out.items ++ arguments_text l.notes (take l.seen-index l.args)
