use Rattle.note_infer.proofs.Joins.{ap, ◌∙◌, ◌++◌, [], ◌∷◌, List, take, length, arith, subst, sym, ◌<◌, Item, Slot, join_item, zipped}
use Rattle.note_types.specs.declared.cell.SlotKind.TheVariants.{N}
use Rattle.note_infer.proofs.StateJoins.{zipped_more, zipped_within}
use Rattle.note_types.specs.declared.types.Ty.TheVariants as ty
use Rattle.note_infer.proofs.state_joins.join_items.Goals as goal

pub loop-number-init : goal.loop-number-init
unfolding zipped
loop-number-init c = c.new-items.ensures

pub push_below-requires : goal.push_below-requires
push_below-requires c =
    let q = zipped_within join_item c.loop-number.number c.args.xs.now (take c.loop-number.number c.args.ys.now) in
    let P : List Item → _ = λ zs. length zs < 65 in
    subst P (sym c.loop-number.invariant) (omega arith)

pub loop-number-preserved : goal.loop-number-preserved
loop-number-preserved c =
    c.push_below.ensures
    ∙ (ap (λ (zs : List Item). zs ++ (c.join_item.result ∷ [])) c.loop-number.invariant
    ∙ (ap (λ (x : Item). zipped join_item (take c.loop-number.number c.args.xs.now) (take c.loop-number.number c.args.ys.now) ++ (x ∷ []))
    c.join_item.ensures
    ∙ zipped_more join_item c.args.xs.now c.args.ys.now c.loop-number.number (Slot N ty.Any) (omega arith) (omega arith)))
