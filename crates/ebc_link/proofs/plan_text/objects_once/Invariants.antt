use Rattle.ebc_link.proofs.Common.{◌≡◌, ◌≤◌, [], drop, length, first_again}
use Rattle.ebc_link.proofs.plan_text.objects_once.Given as goal

abbrev pub invariant-loop-object : goal.invariant-loop-object
invariant-loop-object l =
    record {
      so_far : first_again l.names (drop l.object-index l.objects) ≡ first_again [] l.objects;
      few : length l.names ≤ l.object-index;
    }
