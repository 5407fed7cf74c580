use Rattle.native_host.proofs.Common.{◌≡◌, map, take, Static}
use Rattle.native_host.proofs.starting.statics_of.Given as goal

abbrev pub invariant-loop-object : goal.invariant-loop-object
invariant-loop-object l = l.places.items ≡ map (λ (s : Static). s.place) (take l.object-index l.notes.statics)
