use Rattle.std.proofs.Common.{◌∙◌, ap, refl, sym}
use Rattle.bind_texts.specs.BindTexts.{bound_once}
use Rattle.bind_texts.specs.declared.draft.BindDraft.{BindDraft}
use Rattle.bind_texts.proofs.OnceLaws.{again_here, seen_more}
use Rattle.script_draft.specs.Lists.{all_pass}
use Rattle.script_draft.proofs.ListLaws.{pass-done}
use Rattle.bind_texts.proofs.once.methods_once.Goals as goal

pub loop-i-init : goal.loop-i-init
loop-i-init c = record { so_far = refl; seen = rw c.new-methods.ensures.empty refl }

pub returns-then-not-branch : goal.returns-then-not-branch
returns-then-not-branch c =
    let item = c.index-binds-i in
    again_here _ (λ k l. refl) c.as_str.result c.args.binds.now c.loop-i.i item.result c.loop-i.methods.keys
    (c.as_str.ensures ∙ ap (λ (x : BindDraft). x.method) (sym item.is)) c.loop-i-test.true item.is c.loop-i.invariant _
    c.in_ok-insert.ensures.added c.in_ok-again.field-0 c.if-not-branch.true c.in_ok-again.ensures

pub loop-i-preserved : goal.loop-i-preserved
loop-i-preserved c =
    let item = c.index-binds-i in
    seen_more _ (λ k l. refl) c.as_str.result c.args.binds.now c.loop-i.i item.result c.loop-i.methods.keys
    (c.as_str.ensures ∙ ap (λ (x : BindDraft). x.method) (sym item.is)) c.loop-i-test.true item.is c.loop-i.invariant _
    c.in_ok-insert.ensures.added c.insert.new.self.keys c.if-not-branch.false c.in_ok-insert.ensures.keys

pub returns : goal.returns
returns c = pass-done (bound_once c.args.binds.now) c.loop-i.i c.args.binds.now (all_pass (bound_once c.args.binds.now) 0 c.args.binds.now)
    c.loop-i-test.false c.loop-i.invariant.so_far
