use Rattle.stack_needs.proofs.Common.{inl, inr, refl, sym, ◌∙◌}
use Rattle.stack_needs.proofs.WayLaws.{comes-on}
use Rattle.stack_needs.proofs.walk.Course.follow.Goals as goal

pub reach-requires-clause-comes : goal.reach-requires-clause-comes
reach-requires-clause-comes c =
    comes-on c.args.code.now.image.now c.args.code.now.f.now c.args.reached.place c.args.next c.in-Some.place c.args.reached.depth
    c.after-depth.result c.args.insn.now c.requires.comes c.requires.decoded (inr c.in-Some.ensures) c.after-depth.ensures

pub reach-requires-then-falls-clause-comes : goal.reach-requires-then-falls-clause-comes
reach-requires-then-falls-clause-comes c =
    comes-on c.args.code.now.image.now c.args.code.now.f.now c.args.reached.place c.args.next c.args.next c.args.reached.depth
    c.after-depth.result c.args.insn.now c.requires.comes c.requires.decoded (inl (sym c.falls.ensures ∙ c.if-falls.true, refl))
    c.after-depth.ensures
