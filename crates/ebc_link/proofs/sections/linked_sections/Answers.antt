use Rattle.ebc_link.proofs.Common.{◌≡◌, ◌+◌, ◌<◌, length, ap, arith, subst, sym, ◌∙◌, rules, rounded, laid}
use Rattle.ebc_link.proofs.ImageLaws.{bytes_laid, bytes_there, sections_by}
use Rattle.ebc_link.proofs.sections.linked_sections.Goals as goal

pub returns-clause-sections : goal.returns-clause-sections
returns-clause-sections c =
    let long : c.len.result ≡ length c.args.text.items = search rules in
    sections_by c.args.text.items c.args.contents.items c.new-sections.result.items c.append.new.sections.items
    c.append-2.new.sections.items c.rounded-contents_place.result c.new-sections.ensures.items c.in_ok-append.ensures
    c.in_ok-append-2.ensures (c.rounded-contents_place.ensures ∙ ap (λ n. rounded 0x1000 (0x1000 + n)) long)

pub returns-clause-bytes : goal.returns-clause-bytes
returns-clause-bytes c = λ x.
    subst (λ ss. laid ss x < 256) (sym (returns-clause-sections c))
    (bytes_laid c.args.text.items c.args.contents.items (bytes_there c.args.text.items (λ i within. omega (arith, within)))
    (bytes_there c.args.contents.items (λ i within. omega (arith, within))) x)
