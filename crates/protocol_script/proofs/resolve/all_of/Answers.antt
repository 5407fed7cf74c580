use Rattle.protocol_script.proofs.Common.{◌≡◌, ◌+◌, ◌∙◌, drop, subst, sym, all_of, onto}
use Rattle.script_draft.proofs.ListLaws.{all-done, all-on, all-stop, from_item, none_left}
use Rattle.protocol_script.proofs.resolve.all_of.Goals as goal

pub returns-in_default : goal.returns-in_default
returns-in_default g c =
    let s = c.args.scope in
    let gives = g.T.Resolve.resolved s.notes.now s.fields.now s.shapes.now in
    let i = c.loop-text.text-index in
    let xs = c.args.texts.now in
    let total = all_of gives xs in
    let item = from_item xs i c.text-item.result c.loop-text-test.true c.text-item.is in
    all-stop gives c.loop-text.values.items c.text-item.result (drop (i + 1) xs) total (sym c.in_ok-value.ensures ∙ c.in_default.is)
    (subst (λ z. onto c.loop-text.values.items (all_of gives z) ≡ total) item c.loop-text.invariant)

pub loop-text-preserved : goal.loop-text-preserved
loop-text-preserved g c =
    let s = c.args.scope in
    let gives = g.T.Resolve.resolved s.notes.now s.fields.now s.shapes.now in
    let i = c.loop-text.text-index in
    let xs = c.args.texts.now in
    let total = all_of gives xs in
    let item = from_item xs i c.text-item.result c.loop-text-test.true c.text-item.is in
    rw c.in_ok-push.ensures.items
    (all-on gives c.loop-text.values.items c.text-item.result (drop (i + 1) xs) total c.in-Some.value
    (sym c.in_ok-value.ensures ∙ c.in-Some.is)
    (subst (λ z. onto c.loop-text.values.items (all_of gives z) ≡ total) item c.loop-text.invariant))

pub returns : goal.returns
returns g c =
    let s = c.args.scope in
    let gives = g.T.Resolve.resolved s.notes.now s.fields.now s.shapes.now in
    let xs = c.args.texts.now in
    let total = all_of gives xs in
    let none = none_left xs c.loop-text.text-index c.loop-text-test.false in
    rw c.new.ensures
    (all-done gives c.loop-text.values.items total (subst (λ z. onto c.loop-text.values.items
    (all_of gives z) ≡ total) none c.loop-text.invariant))
