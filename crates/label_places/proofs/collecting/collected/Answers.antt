use Rattle.label_places.proofs.Common.{◌++◌, ap, arith, get_or, ◌∙◌, ◌≤◌, length, laid_with, IsAt, at_number, laid_at, length-laid, no_home}
use Rattle.label_places.proofs.Common.{labels_from, labels_in}
use Rattle.ebc_link.proofs.LaidLaws.{laid_more}
use Rattle.label_places.proofs.LabelLaws.{object-more, objects-done}
use Rattle.label_places.proofs.collecting.collected.Goals as goal

pub loop-number-preserved : goal.loop-number-preserved
loop-number-preserved c =
    let i = c.loop-number.number in
    let os = c.args.objects.now in
    let hs = c.args.homes.now in
    let ls = laid_with os hs in
    let o = c.index-objects-number.result in
    let h = get_or hs i no_home in
    let at : IsAt os hs i o h = at_number os hs i o no_home c.loop-number-test.true c.requires.homes c.index-objects-number.is in
    object-more ls i (laid_at o h) c.loop-number.labels.items _ (labels_from 0 ls) (laid_more os hs i o h at)
    (c.in_ok-append_labels.ensures ∙ ap (λ ss. c.loop-number.labels.items ++ labels_in i h ss) c.as_slice-symbols.ensures)
    c.loop-number.invariant

pub returns : goal.returns
returns c =
    let ls = laid_with c.args.objects.now c.args.homes.now in
    let long = length-laid c.args.objects.now c.args.homes.now c.requires.homes in
    let past : length ls ≤ c.loop-number.number = omega (arith, long, c.loop-number-test.false) in
    objects-done ls c.loop-number.number c.loop-number.labels.items (labels_from 0 ls) past c.loop-number.invariant
