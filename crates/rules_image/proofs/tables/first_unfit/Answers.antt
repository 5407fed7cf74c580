use Rattle.std.proofs.Common.{arith, refl}
use Rattle.note_types.specs.Shapes.{IsShape}
use Rattle.note_types.specs.declared.shape.Shape.{Shape}
use Rattle.rules_image.proofs.Firsts.{first_failing, holds_all, holds_more}
use Rattle.rules_image.proofs.tables.first_unfit.Goals as goal

pub returns-in-Err-clause-some : goal.returns-in-Err-clause-some
returns-in-Err-clause-some c = (
  omega arith,
  first_failing (λ k (s : Shape). IsShape s) c.args.shapes.now c.loop-number.number c.index-shapes-number.result
      (omega arith) c.index-shapes-number.is c.loop-number.invariant (λ h. let bad = c.in-Err.ensures.well_formed.1 h in cc),
)

pub loop-number-preserved : goal.loop-number-preserved
loop-number-preserved c =
    holds_more (λ k (s : Shape). IsShape s) c.args.shapes.now c.loop-number.number c.index-shapes-number.result
    (omega arith) c.index-shapes-number.is c.loop-number.invariant (c.in-Ok.ensures.well_formed.0 refl)

pub returns-clause-none : goal.returns-clause-none
returns-clause-none c = holds_all (λ k (s : Shape). IsShape s) c.args.shapes.now c.loop-number.number (omega arith) c.loop-number.invariant
