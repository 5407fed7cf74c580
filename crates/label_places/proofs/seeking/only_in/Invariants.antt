use Rattle.label_places.proofs.Common.{◌≡◌, take, filter, option_map, or_else, Unknown, is_meant_in, the_only}
use Rattle.label_places.proofs.seeking.only_in.Given as goal

abbrev pub invariant-loop-position : goal.invariant-loop-position
invariant-loop-position l =
    the_only (filter (is_meant_in l.names (option_map (λ o. o.now) l.object)) (take l.position-index l.positions)) ≡ or_else Unknown l.found
