use Rattle.label_places.proofs.Common.{ap, length, map, ◌∙◌, laid_with, labels_from, span_of}
use Rattle.ebc_link.specs.Layout.{laid_objects}
use Rattle.ebc_link.proofs.AnswerLaws.{length-homes_of}
use Rattle.label_places.specs.Labels.{labels_of, spans_of}
use Rattle.label_places.proofs.collecting.labels_of.Goals as goal

pub collected-requires-clause-homes : goal.collected-requires-clause-homes
collected-requires-clause-homes c =
    ap length (c.as_slice.ensures.value ∙ c.in_ok-homes.ensures.homes) ∙ length-homes_of c.args.objects.now

pub spans_of-requires-clause-homes : goal.spans_of-requires-clause-homes
spans_of-requires-clause-homes c =
    ap length (c.as_slice-2.ensures.value ∙ c.in_ok-homes.ensures.homes) ∙ length-homes_of c.args.objects.now

pub returns-clause-labels : goal.returns-clause-labels
unfolding labels_of laid_objects
returns-clause-labels c =
    c.new.ensures
    ∙ (c.in_ok-labels.ensures
    ∙ ap (λ hs. labels_from 0 (laid_with c.args.objects.now hs)) (c.as_slice.ensures.value ∙ c.in_ok-homes.ensures.homes))

pub returns-clause-spans : goal.returns-clause-spans
unfolding spans_of laid_objects
returns-clause-spans c =
    c.new-2.ensures
    ∙ (c.in_ok-spans.ensures
    ∙ ap (λ hs. map span_of (laid_with c.args.objects.now hs)) (c.as_slice-2.ensures.value ∙ c.in_ok-homes.ensures.homes))
