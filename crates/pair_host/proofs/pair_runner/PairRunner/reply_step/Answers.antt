use Rattle.pair_host.proofs.Common.{◌≡◌, ◌∙◌, ap, None, refl, Some, subst, sym, signature_result, own_placement, World, Notes, bound_reply}
use Rattle.pair_host.proofs.Common.{reply_refused, IsAt, IsQuiet, IsRunner, Runner, own}
use Rattle.pair_host.proofs.Entering.{reply_fails, reply_given}
use Rattle.pair_host.proofs.pair_runner.PairRunner.reply_step.Goals as goal

pub returns-in-Ok-clause-step : goal.returns-in-Ok-clause-step
returns-in-Ok-clause-step g c = λ world p at stage on is.
    let w = g.row.W in
    let x = c.args.self.now in
    let v = c.args.value.now in
    let r = own x.a p.a in
    let notes = ap (λ (z : World). z.notes) at in
    let none = subst (λ (n : Notes). reply_refused world.a p.a.script (signature_result n c.args.signature) v ≡ None) (sym notes)
    (c.in-Ok.ensures.fits world.a r notes is.a.at) in
    let there = subst (λ (n : Notes). IsRunner w world.a c.answer.new.self
    (bound_reply w world.a (own_placement w world.a) r (signature_result n c.args.signature) v)) (sym notes)
    (c.in-Ok.ensures.answered world.a r notes is.a) in
    reply_given w world x _ p c.args.signature v is stage on none there c.answer.ensures.host refl refl refl c.tell.ensures.items

pub returns-in-Err-clause-step : goal.returns-in-Err-clause-step
returns-in-Err-clause-step g c = λ world p at stage on is.
    let w = g.row.W in
    let x = c.args.self.now in
    let v = c.args.value.now in
    let r = own x.a p.a in
    let notes = ap (λ (z : World). z.notes) at in
    let refused = subst (λ (n : Notes). reply_refused world.a p.a.script (signature_result n c.args.signature) v ≡ Some c.in-Err.ending)
    (sym notes) (c.in-Err.ensures.refused world.a r notes is.a.at) in
    let there = c.end.ensures.at world.a r (subst (λ (z : Runner w). IsAt w world.a z r) (sym c.in-Err.ensures.same) is.a.at) in
    let host = ap (λ (z : Runner w). z.host) c.end.ensures.kept ∙ c.answer.ensures.host in
    let quiet = subst (IsQuiet world.a.script) (sym c.end.ensures.kept)
    (subst (IsQuiet world.a.script) (sym c.in-Err.ensures.same) is.a.quiet) in
    reply_fails w world x _ p c.args.signature v c.in-Err.ending is stage refused there quiet host refl refl refl
