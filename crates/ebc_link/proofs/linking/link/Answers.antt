use Rattle.ebc_link.proofs.Common.{arith, sym, ◌∙◌, err_from_is_err_and, contents_start}
use Rattle.pe_image.proofs.RoundTrip.{IsImage-linked}
use Rattle.ebc_link.proofs.AnswerLaws.{ends_resolution, is_of, relocs_apart_there, size_there, told_entry, told_far, told_linked, told_size}
use Rattle.ebc_link.proofs.{ImageLaws.links_layout, LinkedLaws.is_linked, StandLaws.code_grows, StandLaws.contents_grow}
use Rattle.ebc_link.proofs.linking.link.Goals as goal

pub returns-in_err-resolved-clause-answer : goal.returns-in_err-resolved-clause-answer
returns-in_err-resolved-clause-answer c =
    let p = err_from_is_err_and c.from_residual.result c.from_residual.ensures.1 in
    rw (p.1, p.2)
    (ends_resolution c.args.plan.now c.args.objects.now c.in_err-resolved.field-0.0 c.in_err-resolved.ensures.resolution)

pub returns-in-Some-clause-answer : goal.returns-in-Some-clause-answer
returns-in-Some-clause-answer c =
    let it = c.in_ok-resolved.ensures in
    let of = is_of c.in_ok-resolved.resolved c.args.objects.now it.resolved it.objects it.definitions it.resolution in
    told_far c.args.plan.now c.in-Some.place of (sym c.in-Some.is ∙ c.first_far.ensures)

pub returns-in_default-entry-clause-answer : goal.returns-in_default-entry-clause-answer
returns-in_default-entry-clause-answer c =
    let it = c.in_ok-resolved.ensures in
    let of = is_of c.in_ok-resolved.resolved c.args.objects.now it.resolved it.objects it.definitions it.resolution in
    told_entry c.args.plan.now of (sym c.in_default.is ∙ c.first_far.ensures) (sym c.in_default-entry.is ∙ c.entry.ensures)

pub size-size-requires-clause-code : goal.size-size-requires-clause-code
size-size-requires-clause-code c =
    let b = c.bounds_of-bounds.ensures in
    (omega (arith, code_grows 0x1000 c.args.objects.now, b.code_ends), b.code_small)

pub size-size-requires-clause-contents : goal.size-size-requires-clause-contents
size-size-requires-clause-contents c =
    let b = c.bounds_of-bounds.ensures in
    let grow = contents_grow (contents_start c.args.objects.now) c.args.objects.now in
    (omega (arith, grow, b.contents_begin, b.contents_end_there), b.end_small)

pub size-size-requires-clause-apart : goal.size-size-requires-clause-apart
size-size-requires-clause-apart c =
    let it = c.in_ok-resolved.ensures in
    let of = is_of c.in_ok-resolved.resolved c.args.objects.now it.resolved it.objects it.definitions it.resolution in
    relocs_apart_there c.deref.result.now c.requires.objects of (c.deref.ensures.value ∙ c.in-Ok.ensures)

pub returns-then-size-gt-MOST-clause-answer : goal.returns-then-size-gt-MOST-clause-answer
returns-then-size-gt-MOST-clause-answer c =
    let it = c.in_ok-resolved.ensures in
    let of = is_of c.in_ok-resolved.resolved c.args.objects.now it.resolved it.objects it.definitions it.resolution in
    told_size c.args.plan.now c.bounds_of-bounds.result c.in-Some-entry.entry c.size-size.result c.deref.result.now c.requires.objects of
    c.bounds_of-bounds.ensures (sym c.in_default.is ∙ c.first_far.ensures) (sym c.in-Some-entry.is ∙ c.entry.ensures)
    (c.deref.ensures.value ∙ c.in-Ok.ensures) c.size-size.ensures (omega arith)

pub image-image-requires-clause-size : goal.image-image-requires-clause-size
image-image-requires-clause-size c =
    let it = c.in_ok-resolved.ensures in
    let of = is_of c.in_ok-resolved.resolved c.args.objects.now it.resolved it.objects it.definitions it.resolution in
    size_there c.args.plan.now c.bounds_of-bounds.result c.in-Some-entry.entry c.size-size.result c.deref.result.now c.requires.objects of
    c.bounds_of-bounds.ensures (sym c.in_default.is ∙ c.first_far.ensures) (sym c.in-Some-entry.is ∙ c.entry.ensures)
    (c.deref.ensures.value ∙ c.in-Ok.ensures) c.size-size.ensures

pub returns-clause-answer : goal.returns-clause-answer
returns-clause-answer c =
    let it = c.in_ok-resolved.ensures in
    let of = is_of c.in_ok-resolved.resolved c.args.objects.now it.resolved it.objects it.definitions it.resolution in
    told_linked c.args.plan.now c.bounds_of-bounds.result c.in-Some-entry.entry c.size-size.result c.deref.result.now c.requires.objects of
    c.bounds_of-bounds.ensures (sym c.in_default.is ∙ c.first_far.ensures) (sym c.in-Some-entry.is ∙ c.entry.ensures)
    (c.deref.ensures.value ∙ c.in-Ok.ensures) c.size-size.ensures c.in_ok-image.field-0 (omega arith) c.in_ok-image.ensures.image

pub returns-clause-linked : goal.returns-clause-linked
returns-clause-linked c =
    is_linked c.args.objects.now c.args.plan.now c.in_ok-image.field-0 c.requires.objects
    (omega (arith, c.requires.count, c.requires.plan.few)) c.requires.plan (returns-clause-answer c)

pub returns-clause-layout : goal.returns-clause-layout
returns-clause-layout c =
    links_layout c.args.objects.now c.args.plan.now c.in_ok-image.field-0 c.requires.objects c.requires.plan (returns-clause-answer c)

pub returns-clause-image : goal.returns-clause-image
returns-clause-image c = IsImage-linked c.in_ok-image.field-0 (returns-clause-layout c)
