use Rattle.std.proofs.Common.{◌≡◌, ◌++◌, take}
use Rattle.std.specs.List.{flat_map}
use Rattle.printed_texts.specs.RunTexts.{event_line}
use Rattle.printed_texts.proofs.run.append_events.Given as goal

abbrev pub invariant-loop-event : goal.invariant-loop-event
invariant-loop-event l = l.out.items ≡ l.fn.out.items ++ flat_map (event_line l.notes) (take l.event-index l.events)
