use Rattle.protocol_script.proofs.Common.{◌≡◌, ◌++◌, map, take, script_object}
use Rattle.protocol_script.proofs.objects.add_objects.Given as goal

abbrev pub invariant-loop-object : goal.invariant-loop-object
invariant-loop-object l = l.made.items ≡ l.initial.made.items ++ map script_object (take l.object-index l.objects)
