use Rattle.std.proofs.Common.{◌-◌, arith}
use Rattle.note_types.specs.declared.notes.FnNote.{FnNote}
use Rattle.rules_image.specs.Images.{AreApart}
use Rattle.rules_image.proofs.Disjoint.{refuted, shown}
use Rattle.rules_image.proofs.Firsts.{holds_all, holds_more, item_there}
use Rattle.rules_image.proofs.apart.is_apart_from_functions.Goals as goal

pub returns-then-not-is_apart_from_function : goal.returns-then-not-is_apart_from_function
returns-then-not-is_apart_from_function c =
    refuted (λ all.
    let yes = c.is_apart_from_function.ensures.1 (all c.loop-number.number c.index-functions-number.result
    (item_there (λ j (f : FnNote). AreApart c.args.place c.args.size f.place
    (f.end - f.place)) c.args.functions.now c.loop-number.number c.index-functions-number.result
    (omega arith) c.index-functions-number.is)) in
    let is = c.if-not-is_apart_from_function.true in
    cc)

pub loop-number-preserved : goal.loop-number-preserved
loop-number-preserved c =
    holds_more (λ j (f : FnNote). AreApart c.args.place c.args.size f.place
    (f.end - f.place)) c.args.functions.now c.loop-number.number c.index-functions-number.result
    (omega arith) c.index-functions-number.is c.loop-number.invariant
    (c.is_apart_from_function.ensures.0 c.if-not-is_apart_from_function.false)

pub returns : goal.returns
returns c =
    shown (holds_all (λ j (f : FnNote). AreApart c.args.place c.args.size f.place
    (f.end - f.place)) c.args.functions.now c.loop-number.number (omega arith) c.loop-number.invariant)
