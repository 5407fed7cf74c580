use Rattle.std.proofs.Common.{arith, sym, ◌∙◌}
use Rattle.departures.proofs.TextLaws.{none_left, zero_found, zero_passed}
use Rattle.departures.proofs.text.has_no_zero.Goals as goal

pub returns-then-is_zero_unit : goal.returns-then-is_zero_unit
returns-then-is_zero_unit c =
    sym (c.units.invariant.same ∙ zero_found c.args.image.now c.units.at c.units.left c.units-test.true
    (sym c.if-is_zero_unit.ensures))

pub units-preserved : goal.units-preserved
units-preserved c =
    record {
      same = c.units.invariant.same ∙ zero_passed c.args.image.now c.units.at c.units.left c.units-test.true
          (sym c.if-is_zero_unit.ensures);
      far = let far = c.units.invariant.far in let some = c.units-test.true in omega arith;
    }

pub returns : goal.returns
returns c =
    sym (c.units.invariant.same ∙ none_left c.args.image.now c.units.at c.units.left (let none = c.units-test.false in omega arith))
