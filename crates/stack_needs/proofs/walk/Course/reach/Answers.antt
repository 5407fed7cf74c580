use Rattle.stack_needs.proofs.Common.{Some, ap, sym, subst, ◌∙◌, HasWay}
use Rattle.stack_needs.proofs.WayLaws.{apart-depths}
use Rattle.stack_needs.proofs.walk.Course.reach.Goals as goal

pub returns-else-eq-clause-ends : goal.returns-else-eq-clause-ends
returns-else-eq-clause-ends c =
    let image = c.args.code.now.image.now in
    let f = c.args.code.now.f.now in
    record {
      one = c.in-Some-lies.before;
      other = c.args.depth;
      comes_one = subst (λ p. HasWay image f p c.in-Some-lies.before) (sym c.in-Some.ensures)
          (c.requires.course.at c.in-Some.slot c.in-Some-lies.before (c.lies.ensures ∙ ap (λ o. Some o) c.in-Some-lies.is));
      comes_other = c.requires.comes;
      apart = apart-depths c.in-Some-lies.before c.args.depth (sym c.eq.ensures ∙ c.if-eq.false);
    }
