use Rattle.std.proofs.Common.{◌≡◌, ℕ, ◌<◌, ◌≤◌, length, take, get_or, string_bytes}
use Rattle.std.specs.List.{flat_map}
use Rattle.pe_image.specs.declared.image.Section.{Section}
use Rattle.ebc_disasm.specs.Listings.{section_lines, text_of}
use Rattle.ebc_disasm.specs.Walks.{IsComing}
use Rattle.ebc_disasm.proofs.listing.list.Given as goal

abbrev pub invariant-loop-section : goal.invariant-loop-section
invariant-loop-section l = record {
  lines : string_bytes l.out ≡ text_of (flat_map (section_lines l.image) (take l.section-index l.image.sections));
  coming : (k : ℕ) (d : Section) → l.section-index ≤ k → k < length l.image.sections
      → IsComing l.image (get_or l.image.sections k d).place l.coming.relocs.now l.coming.labels.now;
}
