use Rattle.note_infer.proofs.Common.{given_to}
use Rattle.std.proofs.lemmas.Result.{IfErr-weaker, on_ok_weaker}
use Rattle.note_infer.proofs.StatesAt.{clash_first, clash_second, clash_weaker, takes_both}
use Rattle.note_infer.proofs.walk.Walk.take_both.Goals as goal

pub returns-in-Ok-clause-taken : goal.returns-in-Ok-clause-taken
returns-in-Ok-clause-taken c =
    on_ok_weaker c.take_in_at-in-Ok.result
    (λ t. takes_both c.args.self.now.leaders.now c.args.self.now.f.now (given_to c.args.next c.args.fall.now)
    (given_to c.args.place c.args.jump.now) _ _ _ c.in-Ok.ensures.taken t)
    c.take_in_at-in-Ok.ensures.taken

pub returns-in-Ok-clause-clash : goal.returns-in-Ok-clause-clash
returns-in-Ok-clause-clash c =
    IfErr-weaker c.take_in_at-in-Ok.result _ _
    (λ e h. clash_weaker e (λ t. clash_second c.args.self.now.leaders.now c.args.self.now.f.now (given_to c.args.next c.args.fall.now)
    (given_to c.args.place c.args.jump.now) _ _ c.in-Ok.ensures.taken t) h)
    c.take_in_at-in-Ok.ensures.clash

pub returns-in-Err-clause-clash : goal.returns-in-Err-clause-clash
returns-in-Err-clause-clash c =
    clash_weaker c.in-Err.refusal
    (λ t. clash_first c.args.self.now.leaders.now c.args.self.now.f.now (given_to c.args.next c.args.fall.now)
    (given_to c.args.place c.args.jump.now) _ t)
    c.in-Err.ensures.clash
