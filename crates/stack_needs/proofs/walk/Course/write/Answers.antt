use Rattle.stack_needs.proofs.Common.{List, subst, sym, IsReachedPlace}
use Rattle.std.proofs.{Common.All, lemmas.List.Elements.All-push}
use Rattle.stack_needs.specs.declared.walk.Reached.{Reached}
use Rattle.stack_needs.proofs.WayLaws.{written-more}
use Rattle.stack_needs.proofs.walk.Course.write.Goals as goal

pub returns-clause-course : goal.returns-clause-course
returns-clause-course c =
    let image = c.args.code.now.image.now in
    let f = c.args.code.now.f.now in
    let before = c.requires.course in
    record {
      at = written-more image f c.args.self.now.at.items c.args.slot c.args.reached.place c.args.reached.depth before.at c.requires.place
          c.requires.comes;
      pending = subst (λ (rs : List Reached). All (IsReachedPlace image f) rs) (sym c.in_ok-push.ensures.items)
          (All-push (IsReachedPlace image f) c.args.self.now.pending.items c.args.reached before.pending c.requires.comes);
      calls = before.calls;
    }
