use Rattle.std.proofs.Common.{◌-◌, arith, rules}
use Rattle.note_types.proofs.PlaceLaws.{no_firsts, with_first}
use Rattle.note_types.proofs.placed_list.first_numbers.Goals as goal

pub loop-number-init : goal.loop-number-init
loop-number-init g c = no_firsts g.T.Placed.place_of c.args.things.now c.new-firsts.result c.new-firsts.ensures.empty

pub loop-number-preserved : goal.loop-number-preserved
loop-number-preserved g c =
    with_first g.T.Placed.place_of c.args.things.now c.loop-number.number (c.loop-number.number - 1) c.index-things-number.result _
    c.loop-number.firsts c.insert.new.self (omega arith) (omega arith) (search rules) c.loop-number.invariant c.in_ok-insert.ensures.updates
