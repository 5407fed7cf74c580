use Rattle.protocol_script.proofs.Common.{◌≡◌, ◌++◌, take, flat_map, CallDraft, draft_shapes}
use Rattle.protocol_script.proofs.objects.add_call_shapes.Given as goal

abbrev pub invariant-loop-call : goal.invariant-loop-call
invariant-loop-call l = l.shapes.items ≡ l.initial.shapes.items
    ++ flat_map (λ (c : CallDraft). draft_shapes l.notes c.make) (take l.call-index l.calls)
