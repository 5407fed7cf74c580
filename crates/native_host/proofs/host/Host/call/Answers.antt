use Rattle.native_host.proofs.Common.{◌∷◌, ◌++◌, [], ℕ, length, map, slice_get, None, Some, refl, sym, ap, ◌∙◌, arith, Asking, call_event}
use Rattle.native_host.proofs.Common.{filling, asking_at, performed, slots_asked, written_number, made_objects, script_object, Placement}
use Rattle.native_host.proofs.Common.{Asked, RunState, World, host_world, placement_of, asked, entry_count, Host}
use Rattle.host_model.specs.HostPlans.{objects_made_by}
use Rattle.native_host.specs.Askings.{asking_of}
use Rattle.native_host.proofs.{AcceptLaws.stack-there, CallLaws.accepted-call, CallLaws.asked-accepts, CallLaws.asked-ends}
use Rattle.native_host.proofs.{CallLaws.entry-real, CallLaws.plan-asked, CallLaws.slots-asked-count, StepLaws.step-by}
use Rattle.native_host.specs.declared.step.HostStep.TheVariants as step
use Rattle.native_host.proofs.host.Host.call.Goals as goal

pub asking-asking-requires : goal.asking-asking-requires
asking-asking-requires g c = (
  omega arith,
  (
    omega arith,
    (
      c.requires.width,
      (
        c.requires.serving.read,
        (
          c.requires.serving.host.notes,
          (
            stack-there g.row.W (host_world c.args.notes.now c.args.script.now c.args.self.now) (placement_of c.args.self.now.places)
                c.args.self.now.entries c.args.mem.now c.requires.memory,
            c.requires.frame,
          ),
        ),
      ),
    ),
  ),
)

pub returns-in-Some-clause-step : goal.returns-in-Some-clause-step
returns-in-Some-clause-step g c r zero =
    let world : World = host_world c.args.notes.now c.args.script.now c.args.self.now in
    let P : Placement = placement_of c.args.self.now.places in
    let place : ℕ = c.args.place in
    let target : ℕ = c.args.target in
    let a : RunState = asked c.args.self.now c.args.mem.now c.args.frames.now place target r in
    let asking : Asking = asking_of c.asking-asking.result in
    let asks = c.asking-asking.ensures.asks world a refl zero refl refl (sym c.requires.serving.host.made) in
    step-by (written_number g.row.W c.args.notes.now P c.args.self.now.made.items) _ _ c.end_step.result
    (plan-asked world a.script place asking (asking_at g.row.W world P a place target) (Some c.in-Some.ending) (sym asks)
    (sym c.in-Some.is ∙ c.refused.ensures.refused)) (sym c.end_step.ensures)

pub returns-in-Some-clause-after : goal.returns-in-Some-clause-after
returns-in-Some-clause-after g c r zero =
    let world : World = host_world c.args.notes.now c.args.script.now c.args.self.now in
    let h : Host g.row.W = c.args.self.now in
    let P : Placement = placement_of h.places in
    let place : ℕ = c.args.place in
    let target : ℕ = c.args.target in
    let a : RunState = asked h c.args.mem.now c.args.frames.now place target r in
    let asking : Asking = asking_of c.asking-asking.result in
    let asks = c.asking-asking.ensures.asks world a refl zero refl refl (sym c.requires.serving.host.made) in
    ap (performed g.row.W world P a)
    (plan-asked world a.script place asking (asking_at g.row.W world P a place target) (Some c.in-Some.ending) (sym asks)
    (sym c.in-Some.is ∙ c.refused.ensures.refused))
    ∙ asked-ends g.row.W world P g.row.W h (record h { trace = c.tell.new.trace }) c.args.mem.now c.args.mem.now c.args.frames.now
    c.asking-asking.new.frames place target r (call_event place asking) refl
    (c.tell.ensures.items ∙ ap (λ e. h.trace.items ++ e ∷ []) c.call_event.ensures)
    (slots_asked g.row.W world a (Asked place target)) c.in-Some.ending c.end_step.result refl
    (c.asking-asking.ensures.slots world a refl zero refl refl) refl c.end_step.ensures

pub returns-in-None-clause-step : goal.returns-in-None-clause-step
returns-in-None-clause-step g c r zero =
    let world : World = host_world c.args.notes.now c.args.script.now c.args.self.now in
    let P : Placement = placement_of c.args.self.now.places in
    let place : ℕ = c.args.place in
    let target : ℕ = c.args.target in
    let a : RunState = asked c.args.self.now c.args.mem.now c.args.frames.now place target r in
    let asking : Asking = asking_of c.asking-asking.result in
    let asks = c.asking-asking.ensures.asks world a refl zero refl refl (sym c.requires.serving.host.made) in
    step-by (written_number g.row.W c.args.notes.now P c.args.self.now.made.items) _ _ step.Accepted
    (plan-asked world a.script place asking (asking_at g.row.W world P a place target) None (sym asks)
    (sym c.in-None.is ∙ c.refused.ensures.refused)) refl

pub returns-in-None-clause-after : goal.returns-in-None-clause-after
returns-in-None-clause-after g c r zero =
    let world : World = host_world c.args.notes.now c.args.script.now c.args.self.now in
    let h : Host g.row.W = c.args.self.now in
    let P : Placement = placement_of h.places in
    let place : ℕ = c.args.place in
    let target : ℕ = c.args.target in
    let a : RunState = asked h c.args.mem.now c.args.frames.now place target r in
    let asking : Asking = asking_of c.asking-asking.result in
    let asks = c.asking-asking.ensures.asks world a refl zero refl refl (sym c.requires.serving.host.made) in
    let none = sym c.in-None.is ∙ c.refused.ensures.refused in
    let call = accepted-call (slice_get c.args.script.now.call h.entries) place asking none in
    let scripted = c.requires.serving.scripted in
    let kept = c.accept.ensures.kept in
    let objects = objects_made_by (slice_get c.args.script.now.call h.entries) in
    ap (performed g.row.W world P a)
    (plan-asked world a.script place asking (asking_at g.row.W world P a place target) None (sym asks) none)
    ∙ asked-accepts g.row.W world P g.row.W h c.accept.new.self c.args.mem.now c.accept.new.mem c.args.frames.now
    c.asking-asking.new.frames place target r (call_event place asking) (ap (λ k. k.notifications) kept)
    (ap (λ k. k.trace.items) kept ∙ (c.tell.ensures.items ∙ ap (λ e. h.trace.items ++ e ∷ []) c.call_event.ensures))
    c.accept.new.frames (slots_asked g.row.W world a (Asked place target)) (entry_count c.args.script.now h.entries)
    (map script_object objects)
    (filling c.args.notes.now (length (made_objects c.args.notes.now c.args.script.now h.entries)) objects) c.requires.frame refl
    (c.asking-asking.ensures.slots world a refl zero refl refl) c.accept.ensures.mark
    (entry-real h.entries (scripted.calls h.entries call.0 call.1).few)
    (slots-asked-count g.row.W world P a place target h.entries call.0 call.2 scripted call.1 (sym asks ∙ call.3))
    (ap (λ k. k.entries) kept) (c.accept.ensures.after r.machine)
