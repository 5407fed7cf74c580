use Rattle.note_infer.proofs.Common.{◌≤◌, List, length, subst, FnNote}
use Rattle.note_infer.proofs.Gathering.{below_more, function_there, has_code, leader_below, leader_of}
use Rattle.note_infer.proofs.leaders.all_named.Goals as goal

pub add_leaders-requires-clause-code : goal.add_leaders-requires-clause-code
add_leaders-requires-clause-code c =
    let there = function_there c.args.notes.now c.as_slice-f-items.result.now c.loop-f.f-index c.f-item.result c.as_slice-f-items.ensures
    c.loop-f-test.true c.f-item.is in
    has_code c.args.image.now c.args.notes.now c.loop-f.f-index c.f-item.result c.requires.functions c.requires.notes there

pub loop-f-preserved : goal.loop-f-preserved
loop-f-preserved c =
    let there = function_there c.args.notes.now c.as_slice-f-items.result.now c.loop-f.f-index c.f-item.result c.as_slice-f-items.ensures
    c.loop-f-test.true c.f-item.is in
    let more = below_more c.args.image.now c.args.notes.now c.loop-f.f-index c.f-item.result c.loop-f.places.items
    c.add_leaders.new.places.items there c.loop-f.invariant.to c.loop-f.invariant.from c.in_ok-add_leaders.ensures in
    record { to = more.0; from = more.1 }

pub returns : goal.returns
returns c = λ p. (
  λ x. leader_of c.args.image.now c.args.notes.now c.loop-f.f-index p (c.loop-f.invariant.to p x),
  λ l. c.loop-f.invariant.from p (leader_below c.args.image.now c.args.notes.now c.loop-f.f-index p
      (subst (λ (fs : List FnNote). length fs ≤ c.loop-f.f-index) c.as_slice-f-items.ensures c.loop-f-test.false) l),
)
