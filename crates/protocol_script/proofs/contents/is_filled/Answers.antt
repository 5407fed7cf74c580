use Rattle.protocol_script.proofs.Common.{sym, ◌∙◌, all_settled, is_filled}
use Rattle.protocol_script.proofs.FilledLaws.{AllBelow-more, all-numbers, none-needed, one-fails}
use Rattle.protocol_script.proofs.contents.is_filled.Goals as goal

pub returns-then-not-has_needed : goal.returns-then-not-has_needed
returns-then-not-has_needed c = sym (none-needed c.args.fields.now c.args.cells.now c.args.count
    (sym c.has_needed.ensures ∙ c.if-not-has_needed.true))

pub returns-then-not-all_settled : goal.returns-then-not-all_settled
unfolding is_filled
returns-then-not-all_settled c =
    sym (one-fails (all_settled c.args.fields.now c.args.cells.now) c.args.count c.loop-instance.instance c.loop-instance-test.true
    (sym c.all_settled.ensures ∙ c.if-not-all_settled.true))

pub loop-instance-preserved : goal.loop-instance-preserved
loop-instance-preserved c =
    AllBelow-more (all_settled c.args.fields.now c.args.cells.now) c.loop-instance.instance c.loop-instance.invariant
    (sym c.all_settled.ensures ∙ c.if-not-all_settled.false)

pub returns : goal.returns
unfolding is_filled
returns c =
    sym (all-numbers
    (all_settled c.args.fields.now c.args.cells.now) c.args.count c.loop-instance.instance c.loop-instance-test.false
    c.loop-instance.invariant)
