use Rattle.std.proofs.Common.{◌≡◌, arith, subst, sym, take}
use Rattle.std.proofs.lemmas.List.{take_all}
use Rattle.ebc_link.proofs.LaidLaws.{taken}
use Rattle.label_notes.proofs.SharedLaws.{AreSoFar, shared-all, so-far-more, so-far-none}
use Rattle.label_notes.proofs.shared.shared_names.Goals as goal

pub loop-label-init : goal.loop-label-init
loop-label-init c = rw (c.new.ensures, c.new-2.ensures) so-far-none

pub loop-label-preserved : goal.loop-label-preserved
loop-label-preserved c =
    let labels = c.args.labels.now in
    let i = c.loop-label.label-index in
    let l = c.label-item.result in
    subst (λ ls. AreSoFar ls c.add.new.self.all c.add.new.self.shared) (sym (taken labels i l (omega arith) c.label-item.is))
    (so-far-more (take i labels) l _ _ _ _ c.loop-label.invariant c.in_ok-add.ensures.all c.in_ok-add.ensures.shared)

pub returns : goal.returns
returns c =
    let labels = c.args.labels.now in
    let whole : take c.loop-label.label-index labels ≡ labels = take_all c.loop-label.label-index labels (omega arith) in
    shared-all labels _ _ (subst (λ ls. AreSoFar ls c.loop-label.names.all c.loop-label.names.shared) whole c.loop-label.invariant)
