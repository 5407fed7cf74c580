use Rattle.protocol_script.proofs.Common.{arith, refl}
use Rattle.protocol_script.proofs.ShapeLaws.{fails-test, many-fail, passes-test}
use Rattle.protocol_script.proofs.shapes.is_shape.Goals as goal

pub returns-then-len : goal.returns-then-len
returns-then-len c = many-fail c.args.shape.now (omega (arith, c.if-len.true, c.len.ensures))

pub returns-in-Ok : goal.returns-in-Ok
returns-in-Ok c = passes-test c.args.shape.now (omega (arith, c.if-len.false, c.len.ensures)) (c.in-Ok.ensures.well_formed.0 refl)

pub returns-in-Err : goal.returns-in-Err
returns-in-Err c = fails-test c.args.shape.now (λ shape. c.in-Err.ensures.well_formed.1 shape)
