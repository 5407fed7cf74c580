use Rattle.stack_needs.proofs.WayLaws.{callee-found}
use Rattle.stack_needs.proofs.walk.Code.callee.Goals as goal

pub returns : goal.returns
returns c =
    callee-found c.args.self.now.image.now c.args.self.now.notes.now c.args.next c.args.i.now c.number_at.result c.as_slice.result.now
    c.in_ok-place.place c.number_at.ensures c.as_slice.ensures c.in_ok-place.ensures
