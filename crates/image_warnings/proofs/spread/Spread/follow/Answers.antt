use Rattle.image_warnings.proofs.SteppingLaws.{led_on_ok}
use Rattle.image_warnings.proofs.spread.Spread.follow.Goals as goal

pub returns-clause-reached : goal.returns-clause-reached
returns-clause-reached c =
    led_on_ok c.args.walk.now.image.now c.args.walk.now.f.now c.args.next c.args.insn.now c.fall.new.self.reached.items
    c.jump.new.self.reached.items c.jump.result c.in_ok-fall.ensures.reached c.jump.ensures.more c.jump.ensures.reached
