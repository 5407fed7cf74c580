use Rattle.std.proofs.Common.{arith}
use Rattle.rules_flow.proofs.Rising.{rise_step}
use Rattle.std.specs.Prelude.{IsTrue}
use Rattle.rules_flow.proofs.placed.+rise.Goals as goal

pub returns-then-place : goal.returns-then-place
returns-then-place g t c =
    rise_step g.T.Placed.place_of
    (IsTrue c.rise.result) c.args.things.now c.first-item.result c.second-item.result c.in-len1-up.len_at_least
    c.in-len1-up-rest.len_at_least
    c.first-item.is c.second-item.is (let e = c.if-place.true in let f = c.place.ensures in let h = c.place-in-len1-up-rest.ensures in
    omega arith) c.rise.ensures
