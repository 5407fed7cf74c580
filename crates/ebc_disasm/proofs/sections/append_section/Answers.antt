use Rattle.std.proofs.Common.{◌≡◌, ℕ, List, ◌+◌, ◌-◌, ◌≤◌, ◌++◌, length, take, drop, length-drop, arith, ap, ◌∙◌, string_bytes}
use Rattle.std.proofs.lemmas.List.{take_all}
use Rattle.asm_text.specs.declared.listing.Listed.{Listed}
use Rattle.ebc_disasm.specs.Listings.{line_text, section_lines, text_of}
use Rattle.ebc_disasm.proofs.Coming.{later}
use Rattle.ebc_disasm.proofs.Lines.{first_lines, last_lines, more_lines}
use Rattle.ebc_disasm.proofs.sections.append_section.Goals as goal

pub loop-at-init : goal.loop-at-init
loop-at-init c = record {
  short = omega arith;
  coming = later c.args.image.now c.args.section.now.place
      (c.args.section.now.place + 0) c.args.coming.relocs.now c.args.coming.labels.now c.requires.coming (omega arith);
  lines = first_lines c.args.image.now c.args.section.now c.has_code-code.result c.in_ok-bytes.bytes.items (string_bytes c.args.out.now)
      (string_bytes c.append_line.new.out)
      c.has_code-code.ensures c.in_ok-bytes.ensures.bytes
      (c.in_ok-append_line.ensures ∙ ap (λ (l : Listed). string_bytes c.args.out.now ++ line_text l) c.heading.ensures.same);
}

pub loop-at-preserved : goal.loop-at-preserved
loop-at-preserved c =
    let all : List ℕ = c.deref.result.now in
    let rest : List ℕ = take (length all - c.loop-at.at) (drop c.loop-at.at all) in
    let left : length (drop c.loop-at.at all) ≡ length all - c.loop-at.at = length-drop c.loop-at.at all in
    let is : rest ≡ drop c.loop-at.at c.in_ok-bytes.bytes.items =
    take_all (length all - c.loop-at.at) (drop c.loop-at.at all) (omega arith) ∙ ap (λ t. drop c.loop-at.at t) c.deref.ensures.value
    in
    let some : 1 ≤ c.in_ok-count.count = c.in_ok-count.ensures.count.1 in
    let most : c.in_ok-count.count ≤ length rest = c.in_ok-count.ensures.count.2 in
    let long : length rest ≡ length c.in_ok-bytes.bytes.items - c.loop-at.at = ap length is
    ∙ length-drop c.loop-at.at c.in_ok-bytes.bytes.items in
    let inside : c.loop-at.at ≤ length c.in_ok-bytes.bytes.items = c.loop-at.invariant.short in
    record {
      short = omega (arith, some, most, long, inside);
      coming = later c.args.image.now (c.args.section.now.place + c.loop-at.at + 1)
          (c.args.section.now.place + (c.loop-at.at + c.in_ok-count.count)) c.in_ok-count.after.relocs.now c.in_ok-count.after.labels.now
          c.in_ok-count.ensures.coming (omega (arith, some));
      lines = more_lines c.args.image.now c.has_code-code.result (c.args.section.now.place + c.loop-at.at)
          (c.args.section.now.place + (c.loop-at.at + c.in_ok-count.count)) c.in_ok-count.count c.loop-at.at
          c.in_ok-bytes.bytes.items rest (string_bytes c.loop-at.out) (string_bytes c.append_item.new.out)
          (string_bytes c.args.out.now ++ text_of (section_lines c.args.image.now c.args.section.now))
          is c.in_ok-count.ensures.count.0 some most (omega arith) c.in_ok-count.ensures.lines c.loop-at.invariant.lines;
    }

pub returns-clause-lines : goal.returns-clause-lines
returns-clause-lines c =
    let past : length c.in_ok-bytes.bytes.items ≤ c.loop-at.at = omega arith in
    last_lines c.args.image.now c.has_code-code.result
    (c.args.section.now.place + c.loop-at.at) c.loop-at.at c.in_ok-bytes.bytes.items (string_bytes c.loop-at.out)
    (string_bytes c.args.out.now ++ text_of (section_lines c.args.image.now c.args.section.now)) past c.loop-at.invariant.lines
