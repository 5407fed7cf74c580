use Rattle.ebc_link.proofs.Common.{◌≡◌, ◌+◌, ◌*◌, ◌≤◌, drop, contents_end}
use Rattle.ebc_link.proofs.layout.contents_end.Given as goal

abbrev pub invariant-loop-object : goal.invariant-loop-object
invariant-loop-object l =
    record {
      end : contents_end l.end (drop l.object-index l.objects) ≡ contents_end l.start l.objects;
      small : l.end ≤ l.start + 1048584 * l.object-index;
    }
