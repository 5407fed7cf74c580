use Rattle.twin_run.proofs.Common.{◌≡◌, length, map, take, Notes, Seen, written_number, IsOf, placement_of}
use Rattle.twin_run.proofs.entering.argument_numbers.Given as goal

abbrev pub invariant-loop-arg : goal.invariant-loop-arg
invariant-loop-arg g l = (length l.numbers.items ≡ l.arg-index) × ((notes : Notes) → IsOf g.row.W notes l.host.places
    → l.numbers.items ≡ map (λ (s : Seen). written_number g.row.W notes (placement_of l.host.places) l.host.made.items s.value) (take
    l.arg-index l.args))
