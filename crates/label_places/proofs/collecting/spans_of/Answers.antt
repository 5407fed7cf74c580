use Rattle.label_places.proofs.Common.{[], ◌∷◌, ◌++◌, ap, arith, get_or, map, sym, take, ◌∙◌, ◌≡◌, map-append, take_all, laid_with, IsAt}
use Rattle.label_places.proofs.Common.{at_number, laid_at, length-laid, no_home, span_of}
use Rattle.ebc_link.proofs.LaidLaws.{laid_taken}
use Rattle.label_places.proofs.collecting.spans_of.Goals as goal

pub loop-number-preserved : goal.loop-number-preserved
loop-number-preserved c =
    let i = c.loop-number.number in
    let os = c.args.objects.now in
    let hs = c.args.homes.now in
    let ls = laid_with os hs in
    let o = c.index-objects-number.result in
    let h = get_or hs i no_home in
    let at : IsAt os hs i o h = at_number os hs i o no_home c.loop-number-test.true c.requires.homes c.index-objects-number.is in
    c.in_ok-push.ensures.items
    ∙ (ap (λ s. c.loop-number.spans.items ++ s ∷ []) c.span_of.ensures
    ∙ (ap (λ ss. ss ++ span_of (laid_at o h) ∷ []) c.loop-number.invariant
    ∙ sym (ap (map span_of) (laid_taken os hs i o h at) ∙ map-append span_of (take i ls) (laid_at o h ∷ []))))

pub returns : goal.returns
returns c =
    let ls = laid_with c.args.objects.now c.args.homes.now in
    let long = length-laid c.args.objects.now c.args.homes.now c.requires.homes in
    let whole : take c.loop-number.number ls ≡ ls = take_all c.loop-number.number ls (omega (arith, long, c.loop-number-test.false)) in
    c.loop-number.invariant ∙ ap (map span_of) whole
