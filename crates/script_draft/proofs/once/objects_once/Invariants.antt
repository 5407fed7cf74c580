use Rattle.script_draft.proofs.Common.{◌≡◌, drop, all_pass, object_once, objects_once}
use Rattle.script_draft.proofs.once.objects_once.Given as goal

abbrev pub invariant-loop-i : goal.invariant-loop-i
invariant-loop-i l = all_pass (object_once l.path) l.i (drop l.i l.objects) ≡ objects_once l.path l.objects
