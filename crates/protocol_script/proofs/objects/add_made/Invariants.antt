use Rattle.protocol_script.proofs.Common.{◌≡◌, ◌++◌, map, take, flat_map, ScriptCall, script_object}
use Rattle.protocol_script.proofs.objects.add_made.Given as goal

abbrev pub invariant-loop-call : goal.invariant-loop-call
invariant-loop-call l = l.made.items ≡ l.initial.made.items ++ flat_map (λ (c : ScriptCall). map script_object c.make)
    (take l.call-index l.calls)
