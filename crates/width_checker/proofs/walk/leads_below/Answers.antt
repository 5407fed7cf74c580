use Rattle.width_checker.proofs.Walking.{leads_falls, leads_goes, leads_parts, leads_parts_fall, leads_parts_jump}
use Rattle.width_checker.proofs.walk.leads_below.Goals as goal

pub returns-in-Falls : goal.returns-in-Falls
returns-in-Falls c = rw c.in-Falls.is (leads_falls c.args.notes.now c.args.next c.args.state.now c.args.taken.now _ c.is_below_next.ensures)

pub returns-in-Goes : goal.returns-in-Goes
returns-in-Goes c = rw c.in-Goes.is (leads_goes c.args.notes.now c.args.next _ c.args.state.now c.args.taken.now _ c.is_below_point.ensures)

pub returns-then-is_below_next : goal.returns-then-is_below_next
returns-then-is_below_next c =
    rw c.in-Parts.is (
      λ t. leads_parts c.args.notes.now c.args.next c.in-Parts.place c.args.state.now c.args.taken.now
          (c.is_below_next-in-Parts.ensures.0 c.if-is_below_next.true) (c.is_below_point-then-is_below_next.ensures.0 t),
      λ l. c.is_below_point-then-is_below_next.ensures.1
          (leads_parts_jump c.args.notes.now c.args.next c.in-Parts.place c.args.state.now c.args.taken.now l),
    )

pub returns-else-is_below_next : goal.returns-else-is_below_next
returns-else-is_below_next c =
    rw c.in-Parts.is (
      λ t. let is = c.if-is_below_next.false in absurd cc,
      λ l. c.is_below_next-in-Parts.ensures.1
          (leads_parts_fall c.args.notes.now c.args.next c.in-Parts.place c.args.state.now c.args.taken.now l),
    )
