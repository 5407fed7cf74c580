use Rattle.protocol_script.proofs.Common.{◌≡◌, ◌++◌, map, take, static_object}
use Rattle.protocol_script.proofs.objects.add_statics.Given as goal

abbrev pub invariant-loop-object : goal.invariant-loop-object
invariant-loop-object l = l.made.items ≡ l.initial.made.items ++ map static_object (take l.object-index l.statics)
