use Rattle.std.proofs.Common.{◌≡◌, ℕ, ◌<◌, ◌≤◌, length, take, get_or, All}
use Rattle.std.specs.List.{flat_map}
use Rattle.pe_image.specs.declared.image.Section.{Section}
use Rattle.ebc_disasm.specs.CodeItems.{IsItem, section_items}
use Rattle.ebc_disasm.specs.Walks.{IsComing}
use Rattle.ebc_disasm.proofs.code.code_items.Given as goal

abbrev pub invariant-loop-section : goal.invariant-loop-section
invariant-loop-section l = record {
  items : l.items.items ≡ flat_map (section_items l.image) (take l.section-index l.image.sections);
  coming : (k : ℕ) (d : Section) → l.section-index ≤ k → k < length l.image.sections
      → IsComing l.image (get_or l.image.sections k d).place l.coming.relocs.now l.coming.labels.now;
  fit : All IsItem l.items.items;
}
