use Rattle.std.proofs.Common.{◌≡◌, ◌+◌, ◌-◌, ◌≤◌, ◌++◌, length, drop, All}
use Rattle.ebc_disasm.specs.CodeItems.{IsItem, items_from, section_items}
use Rattle.ebc_disasm.specs.Walks.{IsComing}
use Rattle.ebc_disasm.proofs.code.append_items.Given as goal

abbrev pub invariant-loop-at : goal.invariant-loop-at
invariant-loop-at l = record {
  short : l.at ≤ length l.bytes.items;
  coming : IsComing l.image (l.section.place + l.at) l.left.relocs.now l.left.labels.now;
  items : l.items.items ++ items_from l.image 0 (l.section.place + l.at) (drop l.at l.bytes.items) ≡ l.fn.items.items
      ++ section_items l.image l.section;
  fit : All IsItem l.items.items;
}

abbrev pub decreases-loop-at : goal.decreases-loop-at
decreases-loop-at l = length l.bytes.items - l.at
