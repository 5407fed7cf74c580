use Rattle.twin_run.proofs.Common.{◌≡◌, length, map, take, Notes, written_number, IsOf, placement_of}
use Rattle.twin_run.proofs.entering.numbers_of.Given as goal

abbrev pub invariant-loop-value : goal.invariant-loop-value
invariant-loop-value g l = (length l.numbers.items ≡ l.value-index) × ((notes : Notes) → IsOf g.row.W notes l.host.places
    → l.numbers.items ≡ map (written_number g.row.W notes (placement_of l.host.places) l.host.made.items) (take l.value-index l.values))
