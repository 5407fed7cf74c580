use Rattle.std.proofs.Common.{◌≡◌, take}
use Rattle.printed_texts.specs.PrintedStates.{item_texts}
use Rattle.printed_texts.proofs.state.item_texts.Given as goal

abbrev pub invariant-loop-item : goal.invariant-loop-item
invariant-loop-item l = l.texts.items ≡ item_texts l.notes l.fields (take l.item-index l.items)
