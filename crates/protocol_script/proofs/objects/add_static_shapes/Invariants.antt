use Rattle.protocol_script.proofs.Common.{◌≡◌, ◌++◌, map, take, Some, Static}
use Rattle.protocol_script.proofs.objects.add_static_shapes.Given as goal

abbrev pub invariant-loop-object : goal.invariant-loop-object
invariant-loop-object l = l.shapes.items ≡ l.initial.shapes.items ++ map (λ (o : Static). Some o.shape) (take l.object-index l.statics)
