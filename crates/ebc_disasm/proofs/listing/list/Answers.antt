use Rattle.std.proofs.Common.{◌≡◌, ◌<◌, ◌≤◌, length, get_or, arith, ap, ◌∙◌, string_bytes}
use Rattle.std.specs.List.{flat_map}
use Rattle.std.proofs.lemmas.List.{take_all}
use Rattle.ebc_disasm.specs.Listings.{lines_of, listing_of, section_lines, text_of}
use Rattle.ebc_disasm.proofs.Coming.{behind_section, item_coming, later, start_at}
use Rattle.ebc_disasm.proofs.Lines.{more_sections}
use Rattle.ebc_disasm.proofs.listing.list.Goals as goal

pub loop-section-init : goal.loop-section-init
unfolding text_of
loop-section-init c = record {
  lines = c.new-out.ensures.bytes;
  coming = λ k d low short.
      later c.args.image.now 0 (get_or c.args.image.now.sections k d).place c.as_slice.result.now c.deref.result.now
      (start_at c.args.image.now c.as_slice.result.now c.deref.result.now c.in_ok-labels.labels.items c.as_slice.ensures
      c.deref.ensures.value c.in_ok-labels.ensures.same c.in_ok-labels.ensures.ascend)
      (omega arith);
}

pub append_section-requires-clause-coming : goal.append_section-requires-clause-coming
append_section-requires-clause-coming c =
    let items : c.as_slice-section-items.result.now ≡ c.args.image.now.sections = c.as_slice-section-items.ensures in
    let long : length c.as_slice-section-items.result.now ≡ length c.args.image.now.sections = ap length items in
    let short : c.loop-section.section-index < length c.as_slice-section-items.result.now = c.loop-section-test.true in
    item_coming c.args.image.now c.args.image.now.sections c.loop-section.section-index c.section-item.result
    c.loop-section.coming.relocs.now c.loop-section.coming.labels.now
    (c.section-item.is ∙ ap (λ ss. get_or ss c.loop-section.section-index c.section-item.result) items)
    (c.loop-section.invariant.coming c.loop-section.section-index c.section-item.result (omega arith) (omega arith))

pub loop-section-preserved : goal.loop-section-preserved
loop-section-preserved c =
    let items : c.as_slice-section-items.result.now ≡ c.args.image.now.sections = c.as_slice-section-items.ensures in
    let long : length c.as_slice-section-items.result.now ≡ length c.args.image.now.sections = ap length items in
    let test : c.loop-section.section-index < length c.as_slice-section-items.result.now = c.loop-section-test.true in
    let here : c.loop-section.section-index < length c.args.image.now.sections = omega arith in
    let is : c.section-item.result ≡ get_or c.args.image.now.sections c.loop-section.section-index c.section-item.result =
    c.section-item.is ∙ ap (λ ss. get_or ss c.loop-section.section-index c.section-item.result) items
    in record {
      lines = more_sections c.args.image.now c.args.image.now.sections c.loop-section.section-index c.section-item.result
          (string_bytes c.loop-section.out) (string_bytes c.append_section.new.out)
          here is c.loop-section.invariant.lines c.in_ok-coming.ensures.lines;
      coming = λ k d low short.
          behind_section c.args.image.now c.args.image.now.sections c.loop-section.section-index k c.section-item.result d
          c.in_ok-coming.coming.relocs.now c.in_ok-coming.coming.labels.now
          c.requires.ascend is (omega arith) short c.in_ok-coming.ensures.coming;
    }

pub returns : goal.returns
unfolding listing_of lines_of
returns c =
    let items : c.as_slice-section-items.result.now ≡ c.args.image.now.sections = c.as_slice-section-items.ensures in
    let long : length c.as_slice-section-items.result.now ≡ length c.args.image.now.sections = ap length items in
    let past : length c.as_slice-section-items.result.now ≤ c.loop-section.section-index = c.loop-section-test.false in
    ap (λ bytes. bytes.items) c.into_bytes.ensures.value
    ∙ c.loop-section.invariant.lines
    ∙ ap (λ ss. text_of (flat_map (section_lines c.args.image.now) ss))
    (take_all c.loop-section.section-index c.args.image.now.sections (omega arith))
