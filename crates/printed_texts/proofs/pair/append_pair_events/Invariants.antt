use Rattle.std.proofs.Common.{◌≡◌, ◌++◌, take}
use Rattle.std.specs.List.{flat_map}
use Rattle.printed_texts.specs.PairTexts.{pair_event_line}
use Rattle.printed_texts.proofs.pair.append_pair_events.Given as goal

abbrev pub invariant-loop-event : goal.invariant-loop-event
invariant-loop-event l = l.out.items ≡ l.fn.out.items ++ flat_map (pair_event_line l.a l.b) (take l.event-index l.events)
