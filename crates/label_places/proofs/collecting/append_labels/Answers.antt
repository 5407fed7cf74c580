use Rattle.label_places.proofs.Common.{[], ◌∷◌, ◌++◌, ap, append-nil, append_assoc, arith, sym, take, ◌∙◌, ◌≡◌, take_all, labels_in}
use Rattle.label_places.proofs.LabelLaws.{labels-more}
use Rattle.label_places.proofs.collecting.append_labels.Goals as goal

pub loop-symbol-init : goal.loop-symbol-init
loop-symbol-init c = sym (append-nil c.args.labels.now.items)

pub loop-symbol-preserved : goal.loop-symbol-preserved
loop-symbol-preserved c =
    let i = c.loop-symbol.symbol-index in
    let s = c.symbol-item.result in
    let n = c.args.number in
    let h = c.args.home in
    let symbols = c.args.symbols.now in
    let old = c.args.labels.now.items in
    let more = labels-more n h symbols i s (omega arith) c.symbol-item.is in
    c.in_ok-append_label.ensures
    ∙ (ap (λ ls. ls ++ labels_in n h (s ∷ [])) c.loop-symbol.invariant
    ∙ (append_assoc old (labels_in n h (take i symbols)) (labels_in n h (s ∷ [])) ∙ ap (λ ls. old ++ ls) (sym more)))

pub returns : goal.returns
returns c =
    let symbols = c.args.symbols.now in
    let whole : take c.loop-symbol.symbol-index symbols ≡ symbols = take_all c.loop-symbol.symbol-index symbols (omega arith) in
    c.loop-symbol.invariant ∙ ap (λ ss. c.args.labels.now.items ++ labels_in c.args.number c.args.home ss) whole
