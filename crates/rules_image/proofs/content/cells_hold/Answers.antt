use Rattle.std.proofs.Common.{◌+◌, arith}
use Rattle.note_types.specs.Shapes.{start_at}
use Rattle.note_types.specs.declared.shape.Field.{Field}
use Rattle.rules_image.specs.Images.{CellHolds}
use Rattle.rules_image.proofs.Firsts.{holds_all, holds_more, item_there}
use Rattle.rules_image.proofs.RangesLemmas.{holds}
use Rattle.rules_image.proofs.Disjoint.{refuted}
use Rattle.rules_image.proofs.content.cells_hold.Goals as goal

pub field_holds-requires-clause-room : goal.field_holds-requires-clause-room
field_holds-requires-clause-room c =
    let there = item_there (λ j (y : Field). CellHolds c.args.image.now c.args.notes.now
    (c.args.place + start_at 8 y) y.cell) c.args.fields.now c.loop-y.y-index c.y-item.result (omega arith) c.y-item.is in
    c.requires.room c.loop-y.y-index c.y-item.result there

pub returns-then-not-field_holds : goal.returns-then-not-field_holds
returns-then-not-field_holds c =
    refuted (λ all.
    let there = item_there (λ j (y : Field). CellHolds c.args.image.now c.args.notes.now
    (c.args.place + start_at 8 y) y.cell) c.args.fields.now c.loop-y.y-index c.y-item.result (omega arith) c.y-item.is in
    let yes = c.field_holds.ensures.1 (all c.loop-y.y-index c.y-item.result there) in
    let is = c.if-not-field_holds.true in cc)

pub loop-y-preserved : goal.loop-y-preserved
loop-y-preserved c =
    holds_more (λ j (y : Field). CellHolds c.args.image.now c.args.notes.now
    (c.args.place + start_at 8 y) y.cell) c.args.fields.now c.loop-y.y-index c.y-item.result
    (omega arith) c.y-item.is c.loop-y.invariant
    (c.field_holds.ensures.0 c.if-not-field_holds.false)

pub returns : goal.returns
returns c = holds (holds_all (λ j (y : Field). CellHolds c.args.image.now c.args.notes.now
    (c.args.place + start_at 8 y) y.cell) c.args.fields.now c.loop-y.y-index (omega arith) c.loop-y.invariant)
