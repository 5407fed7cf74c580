use Rattle.native_host.proofs.Common.{sym, ap, ◌∙◌, named_right}
use Rattle.native_host.proofs.ReplyLaws.{named-on, named-stop}
use Rattle.native_host.proofs.replying.all_named_right.Goals as goal

pub returns-then-not-named_right : goal.returns-then-not-named_right
returns-then-not-named_right c =
    sym (named-stop c.args.error c.args.params.now c.args.outs.now c.loop-k.k _ c.loop-k-test.true
    (ap (named_right c.args.error _) (sym c.times_named.ensures) ∙ (sym c.named_right.ensures ∙ c.if-not-named_right.true)))
    ∙ c.loop-k.invariant

pub loop-k-preserved : goal.loop-k-preserved
loop-k-preserved c =
    sym (named-on c.args.error c.args.params.now c.args.outs.now c.loop-k.k _ c.loop-k-test.true
    (ap (named_right c.args.error _) (sym c.times_named.ensures) ∙ (sym c.named_right.ensures ∙ c.if-not-named_right.false)))
    ∙ c.loop-k.invariant
