use Rattle.pair_host.proofs.Common.{◌≡◌, ◌∙◌, ℕ, ◌<◌, ap, length, None, refl, Some, subst, sym, site_of, asking_at, own_placement, World}
use Rattle.pair_host.proofs.Common.{bound_call_of, bound_step, Notes, running_side, IsQuiet, Runner, own, PairRunner}
use Rattle.note_types.specs.declared.script.Script.{Script}
use Rattle.twin_run.proofs.BoundLaws.{slots_quiet}
use Rattle.twin_run.specs.declared.runner.AskedCall.{AskedCall}
use Rattle.pair_host.proofs.Calls.{asked_by_site, b_rests, call_refuses, call_takes, ended_call, enterable}
use Rattle.pair_host.proofs.{Calls.provider_ends, Calls.refused_call, Past.asking-alike}
use Rattle.pair_host.proofs.pair_runner.PairRunner.call_step.Goals as goal

-- what was quiet of A is once the call was asked
asked_quiet : (w : ℕ) (script : Script) (x z : Runner w) (a : AskedCall) → z ≡ record x { frames = z.frames } → x.asked ≡ Some a
    → 0 < length x.frames → IsQuiet script x → IsQuiet script z
asked_quiet w script x z a kept asked inside quiet =
    subst (IsQuiet script) (sym kept) (slots_quiet w script x a z.frames asked inside quiet)

pub returns-in-Ended-clause-step : goal.returns-in-Ended-clause-step
returns-in-Ended-clause-step g c = λ world p ata atb stage on is.
    let w = g.row.W in
    let x = c.args.self.now in
    let y = c.refuse.new.self in
    let asked = c.args.asked.now in
    let Q = own_placement w world.a in
    let r = own x.a p.a in
    let notes = ap (λ (v : World). v.notes) ata in
    let same = asking-alike w world.a Q p.a x.a.host.trace.items asked.place asked.target in
    let step = c.in-Ended.ensures.step world.a r notes is.a.at ∙ ap (bound_step asked.place) same in
    let asking = asking_at w world.a Q p.a asked.place asked.target in
    let call = bound_call_of c.args.call.now in
    let told = ended_call world p.b.script call.function asked.place asking c.in-Ended.event c.in-Ended.ending step in
    let kept = c.refuse.ensures.kept in
    let host = ap (λ (z : PairRunner w). z.a.host) kept ∙ ap (λ (z : Runner w). z.host) c.bound_call.ensures.kept in
    call_refuses w world x y p asked.place asking call c.in-Ended.event c.in-Ended.ending is stage told.0 told.1.0 told.1.1
    (c.refuse.ensures.at world.a r (c.bound_call.ensures.at world.a r is.a.at))
    (subst (λ (z : PairRunner w). IsQuiet world.a.script z.a) (sym kept)
    (asked_quiet w world.a.script x.a _ asked c.bound_call.ensures.kept c.requires.asked c.requires.inside is.a.quiet)) host
    (ap (λ (z : PairRunner w). z.stage) kept)
    (ap (λ (z : PairRunner w). z.ending) kept) c.refuse.ensures.trace

pub returns-in-Some-clause-step : goal.returns-in-Some-clause-step
returns-in-Some-clause-step g c = λ world p ata atb stage on is.
    let w = g.row.W in
    let x = c.args.self.now in
    let y = c.refuse-in-Some.new.self in
    let asked = c.args.asked.now in
    let Q = own_placement w world.a in
    let r = own x.a p.a in
    let notes = ap (λ (v : World). v.notes) ata in
    let same = asking-alike w world.a Q p.a x.a.host.trace.items asked.place asked.target in
    let step = c.in-Called.ensures.step world.a r notes is.a.at ∙ ap (bound_step asked.place) same in
    let asking = asking_at w world.a Q p.a asked.place asked.target in
    let call = bound_call_of c.args.call.now in
    let rests = b_rests w world x p is (ap running_side stage) on in
    let provider = c.in-Some.ensures world.b (own x.b p.b) (ap (λ (v : World). v.notes) atb) rests.at in
    let told = refused_call world p.b.script call.function asked.place asking c.in-Called.event c.in-Called.signature c.in-Called.args
    (Some c.in-Some.ending) step provider in
    let kept = c.refuse-in-Some.ensures.kept in
    let host = ap (λ (z : PairRunner w). z.a.host) kept ∙ ap (λ (z : Runner w). z.host) c.bound_call.ensures.kept in
    call_refuses w world x y p asked.place asking call c.in-Called.event c.in-Some.ending is stage told.0 told.1.0
    (provider_ends world.b p.b.script call.function c.in-Called.args c.in-Some.ending (sym provider))
    (c.refuse-in-Some.ensures.at world.a r (c.bound_call.ensures.at world.a r is.a.at))
    (subst (λ (z : PairRunner w). IsQuiet world.a.script z.a) (sym kept)
    (asked_quiet w world.a.script x.a _ asked c.bound_call.ensures.kept c.requires.asked c.requires.inside is.a.quiet)) host
    (ap (λ (z : PairRunner w). z.stage) kept)
    (ap (λ (z : PairRunner w). z.ending) kept) c.refuse-in-Some.ensures.trace

pub returns-in-None-clause-step : goal.returns-in-None-clause-step
returns-in-None-clause-step g c = λ world p ata atb stage on is.
    let w = g.row.W in
    let x = c.args.self.now in
    let asked = c.args.asked.now in
    let Q = own_placement w world.a in
    let r = own x.a p.a in
    let notes = ap (λ (v : World). v.notes) ata in
    let same = asking-alike w world.a Q p.a x.a.host.trace.items asked.place asked.target in
    let step = c.in-Called.ensures.step world.a r notes is.a.at ∙ ap (bound_step asked.place) same in
    let asking = asking_at w world.a Q p.a asked.place asked.target in
    let call = bound_call_of c.args.call.now in
    let rests = b_rests w world x p is (ap running_side stage) on in
    let notes_b = ap (λ (v : World). v.notes) atb in
    let provider = c.in-None.ensures world.b (own x.b p.b) notes_b rests.at in
    let told = refused_call world p.b.script call.function asked.place asking c.in-Called.event c.in-Called.signature c.in-Called.args None
    step provider in
    let can = c.requires.called in
    let site = asked_by_site w world.a Q p.a asked.place asked.target call.signature
    (ap (λ (n : Notes). site_of n asked.place) notes ∙ can.site) in
    let enters = enterable c.args.a.now.notes.now c.args.b.now.notes.now world.b asked.place call c.in-Called.signature c.in-Called.args
    notes_b can (c.in-Called.ensures.called world.a r notes is.a.at) (told.1.1.0 ∙ site) in
    let host = ap (λ (z : Runner w). z.host) c.bound_call.ensures.kept in
    call_takes w world x _ p asked.place asking call c.in-Called.event c.in-Called.args is stage on told.0 told.1.0 told.1.1.1 enters
    (c.bound_call.ensures.at world.a r is.a.at)
    (asked_quiet w world.a.script x.a _ asked c.bound_call.ensures.kept c.requires.asked c.requires.inside is.a.quiet) host refl refl refl
    c.tell.ensures.items
