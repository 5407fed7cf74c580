use Rattle.protocol_script.proofs.Common.{◌≡◌, ◌++◌, take, draft_shapes}
use Rattle.protocol_script.proofs.objects.add_draft_shapes.Given as goal

abbrev pub invariant-loop-object : goal.invariant-loop-object
invariant-loop-object l = l.shapes.items ≡ l.initial.shapes.items ++ draft_shapes l.notes (take l.object-index l.objects)
