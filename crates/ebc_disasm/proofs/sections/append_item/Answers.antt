use Rattle.std.proofs.Common.{ℕ, ◌++◌, ap, ◌∙◌, string_bytes}
use Rattle.asm_text.specs.declared.listing.Listed.{Listed}
use Rattle.ebc_disasm.specs.Listings.{item_at, label_lines, line_text}
use Rattle.ebc_disasm.proofs.Lines.{item_lines}
use Rattle.ebc_disasm.proofs.sections.append_item.Goals as goal

pub returns-clause-lines : goal.returns-clause-lines
returns-clause-lines c =
    item_lines (label_lines c.args.image.now c.args.place) (item_at c.args.image.now c.args.code c.args.place c.args.bytes.now).0
    (string_bytes c.args.out.now) (string_bytes c.append_labels.new.out) (string_bytes c.append_line.new.out)
    c.in_ok-append_labels.ensures
    (c.in_ok-append_line.ensures
    ∙ ap (λ (p : Listed × ℕ). string_bytes c.append_labels.new.out ++ line_text p.0) c.next_at-next.ensures.item)
