use Rattle.note_filling.proofs.Common.{◌≡◌, ◌≤◌, ◌++◌, [], ◌∷◌, ap, arith, subst, sym, ◌∙◌, depth, items_depth, members_depth, items_view}
use Rattle.note_filling.proofs.Common.{members_view, view, Entry}
use Rattle.std.proofs.Common.{append_assoc}
use Rattle.ebc_link.proofs.LaidLaws.{taken}
use Rattle.note_filling.proofs.DepthLaws.{item-deep, items-deeper, member-deep, members-deeper, unfit}
use Rattle.note_filling.proofs.depth.+depth.Goals as goal

pub items_fit-loop-item-preserved : goal.items_fit-loop-item-preserved
items_fit-loop-item-preserved t c =
    let vs = c.deref-item-items.result.now in
    let i = c.loop-item.item-index in
    let v = c.item-item.result in
    subst (λ xs. items_depth (items_view xs) ≤ c.args.limit) (sym (taken vs i v (omega arith) c.item-item.is))
    (items-deeper _ v c.args.limit c.loop-item.invariant (c.value_fits.ensures.0 c.if-not-value_fits.false))

pub members_fit-loop-key-preserved : goal.members_fit-loop-key-preserved
members_fit-loop-key-preserved t c =
    let l = c.loop-key in
    let done = l.invariant.0 in
    let e : Entry = (c.in-Some.key.now, c.in-Some.member.now) in
    let left = c.next.new.self in
    let all : c.args.members.now.entries ≡ done ++ e ∷ left = l.invariant.1 ∙ ap (λ es. done ++ es) c.in-Some.ensures.steps in (
      done ++ e ∷ [],
      all ∙ sym (append_assoc done (e ∷ []) left),
      members-deeper done e c.args.limit l.invariant.2 (c.value_fits.ensures.0 c.if-not-value_fits.false),
    )

pub items_fit-returns-then-not-value_fits : goal.items_fit-returns-then-not-value_fits
items_fit-returns-then-not-value_fits t c =
    let vs = c.deref-item-items.result.now in
    let v = c.item-item.result in
    rw (← c.deref-item-items.ensures.value) (unfit c.value_fits.result (depth (view v)) (items_depth (items_view vs)) c.args.limit
    c.value_fits.ensures c.if-not-value_fits.true (item-deep vs c.loop-item.item-index v (omega arith) c.item-item.is))

pub members_fit-returns-then-not-value_fits : goal.members_fit-returns-then-not-value_fits
members_fit-returns-then-not-value_fits t c =
    let l = c.loop-key in
    let done = l.invariant.0 in
    let e : Entry = (c.in-Some.key.now, c.in-Some.member.now) in
    let left = c.next.new.self in
    let all : c.args.members.now.entries ≡ done ++ e ∷ left = l.invariant.1 ∙ ap (λ es. done ++ es) c.in-Some.ensures.steps in
    unfit c.value_fits.result (depth (view e.1)) (members_depth (members_view c.args.members.now.entries)) c.args.limit
    c.value_fits.ensures c.if-not-value_fits.true
    (subst (λ es. depth (view e.1) ≤ members_depth (members_view es)) (sym all) (member-deep done left e))
