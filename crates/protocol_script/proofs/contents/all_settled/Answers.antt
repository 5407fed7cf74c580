use Rattle.protocol_script.proofs.Common.{length, sym, ◌∙◌, all_settled, is_settled}
use Rattle.protocol_script.proofs.FilledLaws.{AllBelow-more, all-numbers, one-fails}
use Rattle.protocol_script.proofs.contents.all_settled.Goals as goal

pub returns-then-not-is_settled : goal.returns-then-not-is_settled
unfolding all_settled
returns-then-not-is_settled c = sym (one-fails (is_settled c.args.fields.now c.args.cells.now c.args.instance)
    (length c.args.fields.now) c.loop-field.field c.loop-field-test.true (sym c.is_settled.ensures ∙ c.if-not-is_settled.true))

pub loop-field-preserved : goal.loop-field-preserved
loop-field-preserved c =
    AllBelow-more (is_settled c.args.fields.now c.args.cells.now c.args.instance) c.loop-field.field c.loop-field.invariant
    (sym c.is_settled.ensures ∙ c.if-not-is_settled.false)

pub returns : goal.returns
unfolding all_settled
returns c = sym (all-numbers (is_settled c.args.fields.now c.args.cells.now c.args.instance)
    (length c.args.fields.now) c.loop-field.field c.loop-field-test.false c.loop-field.invariant)
