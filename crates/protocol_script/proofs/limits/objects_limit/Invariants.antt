use Rattle.protocol_script.proofs.Common.{◌≡◌, drop, take, all_pass, IsLoad, object_limit, objects_limit}
use Rattle.protocol_script.proofs.limits.objects_limit.Given as goal

abbrev pub invariant-loop-i : goal.invariant-loop-i
invariant-loop-i l = record {
  so_far : all_pass (λ i o. object_limit l.notes l.objects i) l.i (drop l.i l.objects) ≡ objects_limit l.notes l.objects;
  load : IsLoad l.notes (take l.i l.objects) l.load;
}
