use Rattle.ebc_link.proofs.Common.{arith, defined_in}
use Rattle.ebc_link.proofs.{AnswerLaws.laid_so, ImageLaws.contents_ends, ImageLaws.text_ends, OwnLaws.code_packed, OwnLaws.contents_packed}
use Rattle.ebc_link.proofs.resolved.Resolved.image.Goals as goal

pub bytes-requires-clause-packed : goal.bytes-requires-clause-packed
bytes-requires-clause-packed c =
    let r = c.args.self.now in
    rw (laid_so r c.requires.resolved) (code_packed c.args.plan.now.base (defined_in r) r.objects.now c.requires.resolved.objects)

pub bytes-requires-2-clause-packed : goal.bytes-requires-2-clause-packed
bytes-requires-2-clause-packed c =
    let r = c.args.self.now in
    rw (c.requires.bounds.contents_begin, laid_so r c.requires.resolved)
    (contents_packed c.args.plan.now.base (defined_in r) r.objects.now c.requires.resolved.objects)

pub linked_sections-requires-clause-text : goal.linked_sections-requires-clause-text
linked_sections-requires-clause-text c =
    let r = c.args.self.now in
    let b = c.requires.bounds in
    let ends = text_ends c.args.plan.now.base (defined_in r) r.objects.now c.requires.resolved.objects in
    rw (c.in_ok-text.ensures, laid_so r c.requires.resolved) (omega (arith, ends, b.code_ends, b.code_small))

pub linked_sections-requires-clause-contents : goal.linked_sections-requires-clause-contents
linked_sections-requires-clause-contents c =
    let r = c.args.self.now in
    let b = c.requires.bounds in
    let behind = contents_ends c.args.plan.now.base (defined_in r) r.objects.now c.requires.resolved.objects in
    rw (c.in_ok-contents.ensures, b.contents_begin, laid_so r c.requires.resolved)
    (omega (arith, behind, b.contents_end_there, b.end_small))
