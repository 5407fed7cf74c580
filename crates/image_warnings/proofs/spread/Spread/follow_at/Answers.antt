use Rattle.std.proofs.Common.{arith, refl, sym}
use Rattle.std.proofs.lemmas.Result.{on_ok_weaker}
use Rattle.width_checker.proofs.Leading.{decode_later}
use Rattle.image_warnings.proofs.SteppingLaws.{followed_led, followed_none, followed_stop}
use Rattle.image_warnings.proofs.UncutLaws.{uncut_kept}
use Rattle.image_warnings.specs.Uncut.{way_of}
use Rattle.image_warnings.proofs.spread.Spread.follow_at.Goals as goal

pub returns-in_default-clause-followed : goal.returns-in_default-clause-followed
returns-in_default-clause-followed c =
    followed_none c.args.walk.now.image.now c.args.walk.now.f.now (way_of c.args.walk.now.notes.now c.args.above) c.args.place
    c.args.self.now.reached.items c.in_default.ensures.whole

pub returns-else-keeps-clause-followed : goal.returns-else-keeps-clause-followed
returns-else-keeps-clause-followed c =
    followed_stop c.args.walk.now.image.now c.args.walk.now.f.now (way_of c.args.walk.now.notes.now c.args.above) c.args.place
    c.in-Some.next c.in-Some.insn c.args.self.now.reached.items
    (c.in-Some.ensures.decodes c.in-Some.insn c.in-Some.next refl) (sym c.if-keeps.ensures)

pub follow-requires-clause-first : goal.follow-requires-clause-first
follow-requires-clause-first c =
    let later = decode_later c.args.walk.now.image.now c.args.walk.now.f.now c.args.place c.in-Some.next c.in-Some.insn
    (c.in-Some.ensures.decodes c.in-Some.insn c.in-Some.next refl) in
    let low = c.requires.first in omega arith

pub follow-requires-clause-uncut : goal.follow-requires-clause-uncut
follow-requires-clause-uncut c =
    uncut_kept c.args.walk.now.image.now c.args.walk.now.f.now (way_of c.args.walk.now.notes.now c.args.above) c.args.place
    c.in-Some.next c.in-Some.insn c.requires.uncut
    (c.in-Some.ensures.decodes c.in-Some.insn c.in-Some.next refl) (sym c.if-keeps.ensures)

pub returns-then-keeps-clause-followed : goal.returns-then-keeps-clause-followed
returns-then-keeps-clause-followed c =
    on_ok_weaker c.follow.result
    (followed_led c.args.walk.now.image.now c.args.walk.now.f.now (way_of c.args.walk.now.notes.now c.args.above) c.args.place
    c.in-Some.next c.in-Some.insn c.follow.new.self.reached.items
    (c.in-Some.ensures.decodes c.in-Some.insn c.in-Some.next refl))
    c.follow.ensures.reached
