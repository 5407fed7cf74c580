use Rattle.ebc_link.proofs.Common.{◌≡◌, ◌+◌, ◌++◌, drop, length, filled_section, section_from, ArePacked, defined_in, laid_in}
use Rattle.ebc_link.proofs.resolved.Resolved.bytes.Given as goal

abbrev pub invariant-loop-number : goal.invariant-loop-number
invariant-loop-number l =
    record {
      joined : l.bytes.items
          ++ section_from l.section (filled_section l.section l.base (defined_in l.self)) (l.start + length l.bytes.items)
          (drop l.number (laid_in l.self))
          ≡ section_from l.section (filled_section l.section l.base (defined_in l.self)) l.start (laid_in l.self);
      packed : ArePacked l.section (filled_section l.section l.base (defined_in l.self)) (l.start + length l.bytes.items)
          (drop l.number (laid_in l.self));
    }
