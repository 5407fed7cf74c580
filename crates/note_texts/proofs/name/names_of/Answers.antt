use Rattle.std.proofs.Common.{sym, ◌∙◌}
use Rattle.note_texts.proofs.NameLoops.{names_go_on, names_stop, names_done}
use Rattle.note_texts.proofs.name.names_of.Goals as goal

pub returns-in_default : goal.returns-in_default
returns-in_default c = names_stop c.loop-text.names.items c.loop-text.text-index c.args.texts.now _ _ c.loop-text-test.true
    (sym c.in_ok-name.ensures.value ∙ c.in_default.is) c.loop-text.invariant

pub loop-text-preserved : goal.loop-text-preserved
loop-text-preserved c =
    rw c.in_ok-push.ensures.items
    (names_go_on c.loop-text.names.items c.loop-text.text-index c.args.texts.now _ c.in-Some.name _ c.loop-text-test.true
    (sym c.in_ok-name.ensures.value ∙ c.in-Some.is) c.loop-text.invariant)

pub returns : goal.returns
returns c =
    rw c.new.ensures
    (names_done c.loop-text.names.items c.loop-text.text-index c.args.texts.now _ c.loop-text-test.false c.loop-text.invariant)
