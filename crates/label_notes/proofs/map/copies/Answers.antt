use Rattle.std.proofs.Common.{[], ◌∷◌, ◌++◌, ap, arith, sym, ◌∙◌}
use Rattle.std.proofs.lemmas.List.{take_all}
use Rattle.ebc_link.proofs.LaidLaws.{taken}
use Rattle.label_notes.proofs.map.copies.Goals as goal

pub loop-label-preserved : goal.loop-label-preserved
loop-label-preserved c =
    let labels = c.args.labels.now in
    let i = c.loop-label.label-index in
    let l = c.label-item.result in
    rw c.in_ok-name.ensures at c.in_ok-push.ensures.items
    ∙ (ap (λ ls. ls ++ l ∷ []) c.loop-label.invariant ∙ sym (taken labels i l (omega arith) c.label-item.is))

pub returns : goal.returns
returns c = c.loop-label.invariant ∙ take_all c.loop-label.label-index c.args.labels.now (omega arith)
