use Rattle.std.proofs.Common.{◌≡◌, ◌+◌, ◌-◌, ◌≤◌, ◌++◌, length, drop, string_bytes}
use Rattle.ebc_disasm.specs.Listings.{lines_from, section_lines, text_of}
use Rattle.ebc_disasm.specs.Walks.{IsComing}
use Rattle.ebc_disasm.proofs.sections.append_section.Given as goal

abbrev pub invariant-loop-at : goal.invariant-loop-at
invariant-loop-at l = record {
  short : l.at ≤ length l.bytes.items;
  coming : IsComing l.image (l.section.place + l.at) l.left.relocs.now l.left.labels.now;
  lines : string_bytes l.out ++ text_of (lines_from l.image l.code 0 (l.section.place + l.at) (drop l.at l.bytes.items))
      ≡ string_bytes l.fn.out ++ text_of (section_lines l.image l.section);
}

abbrev pub decreases-loop-at : goal.decreases-loop-at
decreases-loop-at l = length l.bytes.items - l.at
