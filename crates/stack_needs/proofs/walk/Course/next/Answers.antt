use Rattle.stack_needs.proofs.Common.{IsReachedPlace}
use Rattle.std.proofs.lemmas.List.Elements.{All-pop}
use Rattle.stack_needs.proofs.walk.Course.next.Goals as goal

pub returns-clause-course : goal.returns-clause-course
returns-clause-course c =
    let before = c.requires.course in
    record {
      at = before.at;
      pending = (All-pop (IsReachedPlace c.args.code.now.image.now c.args.code.now.f.now) c.args.self.now.pending.items c.pop.new.self.items
          c.pop.result c.pop.ensures.items before.pending).0;
      calls = before.calls;
    }

pub returns-clause-comes : goal.returns-clause-comes
returns-clause-comes c =
    (All-pop (IsReachedPlace c.args.code.now.image.now c.args.code.now.f.now) c.args.self.now.pending.items c.pop.new.self.items
    c.pop.result c.pop.ensures.items c.requires.course.pending).1
