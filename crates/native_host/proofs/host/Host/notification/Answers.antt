use Rattle.native_host.proofs.Common.{true, false, [], ◌∷◌, ◌++◌, length, Some, refl, sym, ap, ◌∙◌, arith, option_copied, length-map}
use Rattle.native_host.proofs.Common.{slice_get_within, given, performed, written_number, host_world, shown, placement_of}
use Rattle.native_host.proofs.{EnterLaws.is-deep, EnterLaws.is-low, EnterLaws.entered-parts, NotifyLaws.due-none, NotifyLaws.due-unfit}
use Rattle.native_host.proofs.{NotifyLaws.due-deep, StepLaws.ends-by, StepLaws.performed-notifies, StepLaws.step-by}
use Rattle.note_types.specs.declared.event.Event.TheVariants as event
use Rattle.native_host.specs.declared.step.HostStep.TheVariants as step
use Rattle.native_host.proofs.host.Host.notification.Goals as goal

pub returns-in_default-clause-step : goal.returns-in_default-clause-step
returns-in_default-clause-step g c r m hosts counts =
    step-by (written_number g.row.W c.args.notes.now (placement_of c.args.self.now.places) c.args.self.now.made.items) _ _ _
    (due-none (host_world c.args.notes.now c.args.script.now c.args.self.now) (shown c.args.self.now m hosts r).script _
    (ap option_copied (sym c.in_default.is) ∙ c.item_at.ensures)) refl

pub returns-in_default-clause-after : goal.returns-in_default-clause-after
returns-in_default-clause-after g c r m hosts counts =
    ends-by g.row.W (host_world c.args.notes.now c.args.script.now c.args.self.now) (placement_of c.args.self.now.places) (shown
    c.args.self.now m hosts r) _ _
    (due-none (host_world c.args.notes.now c.args.script.now c.args.self.now) (shown c.args.self.now m hosts r).script _
    (ap option_copied (sym c.in_default.is) ∙ c.item_at.ensures))

pub returns-then-not-notification_fits-clause-step : goal.returns-then-not-notification_fits-clause-step
returns-then-not-notification_fits-clause-step g c r m hosts counts =
    step-by (written_number g.row.W c.args.notes.now (placement_of c.args.self.now.places) c.args.self.now.made.items) _ _ _
    (due-unfit (host_world c.args.notes.now c.args.script.now c.args.self.now) (shown c.args.self.now m hosts r).script
    c.args.self.now.made.items _ c.in-Some.notify.now (ap option_copied (sym c.in-Some.is) ∙ c.item_at.ensures) c.requires.serving.host.made
    (sym (c.notification_fits.ensures.fits c.args.script.now (shown c.args.self.now m hosts r).script counts)
    ∙ c.if-not-notification_fits.true)) refl

pub returns-then-not-notification_fits-clause-after : goal.returns-then-not-notification_fits-clause-after
returns-then-not-notification_fits-clause-after g c r m hosts counts =
    ends-by g.row.W (host_world c.args.notes.now c.args.script.now c.args.self.now) (placement_of c.args.self.now.places) (shown
    c.args.self.now m hosts r) _ _
    (due-unfit (host_world c.args.notes.now c.args.script.now c.args.self.now) (shown c.args.self.now m hosts r).script
    c.args.self.now.made.items _ c.in-Some.notify.now (ap option_copied (sym c.in-Some.is) ∙ c.item_at.ensures) c.requires.serving.host.made
    (sym (c.notification_fits.ensures.fits c.args.script.now (shown c.args.self.now m hosts r).script counts)
    ∙ c.if-not-notification_fits.true))

pub returns-then-depth-ge-FRAMES-clause-step : goal.returns-then-depth-ge-FRAMES-clause-step
returns-then-depth-ge-FRAMES-clause-step g c r m hosts counts =
    step-by (written_number g.row.W c.args.notes.now (placement_of c.args.self.now.places) c.args.self.now.made.items) _ _ _
    (due-deep (host_world c.args.notes.now c.args.script.now c.args.self.now) (shown c.args.self.now m hosts r).script
    c.args.self.now.made.items (length c.args.frames.now) c.in-Some.notify.now true (ap option_copied (sym c.in-Some.is)
    ∙ c.item_at.ensures) c.requires.serving.host.made
    (sym (c.notification_fits.ensures.fits c.args.script.now (shown c.args.self.now m hosts r).script counts)
    ∙ c.if-not-notification_fits.false)
    (is-deep c.depth.result _ c.depth.ensures.count c.if-depth-ge-FRAMES.true)) refl

pub returns-then-depth-ge-FRAMES-clause-after : goal.returns-then-depth-ge-FRAMES-clause-after
returns-then-depth-ge-FRAMES-clause-after g c r m hosts counts =
    ends-by g.row.W (host_world c.args.notes.now c.args.script.now c.args.self.now) (placement_of c.args.self.now.places) (shown
    c.args.self.now m hosts r) _ _
    (due-deep (host_world c.args.notes.now c.args.script.now c.args.self.now) (shown c.args.self.now m hosts r).script
    c.args.self.now.made.items (length c.args.frames.now) c.in-Some.notify.now true (ap option_copied (sym c.in-Some.is)
    ∙ c.item_at.ensures) c.requires.serving.host.made
    (sym (c.notification_fits.ensures.fits c.args.script.now (shown c.args.self.now m hosts r).script counts)
    ∙ c.if-not-notification_fits.false)
    (is-deep c.depth.result _ c.depth.ensures.count c.if-depth-ge-FRAMES.true))

pub overflow_add-self : goal.overflow_add-self
overflow_add-self g c =
    let below = slice_get_within c.args.script.now.notify c.args.self.now.notifications c.in-Some.notify.now
    (sym (ap option_copied (sym c.in-Some.is) ∙ c.item_at.ensures)) in
    let few = c.requires.serving.scripted.notify.few in omega (arith, below, few)

pub returns-clause-step : goal.returns-clause-step
returns-clause-step g c r m hosts counts =
    step-by (written_number g.row.W c.args.notes.now (placement_of c.args.self.now.places) c.args.self.now.made.items) _ _ _
    (due-deep (host_world c.args.notes.now c.args.script.now c.args.self.now) (shown c.args.self.now m hosts r).script
    c.args.self.now.made.items (length c.args.frames.now) c.in-Some.notify.now false (ap option_copied (sym c.in-Some.is)
    ∙ c.item_at.ensures) c.requires.serving.host.made
    (sym (c.notification_fits.ensures.fits c.args.script.now (shown c.args.self.now m hosts r).script counts)
    ∙ c.if-not-notification_fits.false)
    (is-low c.depth.result _ c.depth.ensures.count c.if-depth-ge-FRAMES.false)) (ap (λ args. Some (step.Enter c.in-Some.notify.now.function
    args)) (sym c.given_args-args.ensures))

pub returns-clause-after : goal.returns-clause-after
returns-clause-after g c r m hosts counts =
    ap (performed g.row.W (host_world c.args.notes.now c.args.script.now c.args.self.now) (placement_of c.args.self.now.places) (shown
    c.args.self.now m hosts r))
    (due-deep (host_world c.args.notes.now c.args.script.now c.args.self.now) (shown c.args.self.now m hosts r).script
    c.args.self.now.made.items (length c.args.frames.now) c.in-Some.notify.now false (ap option_copied (sym c.in-Some.is)
    ∙ c.item_at.ensures) c.requires.serving.host.made
    (sym (c.notification_fits.ensures.fits c.args.script.now (shown c.args.self.now m hosts r).script counts)
    ∙ c.if-not-notification_fits.false)
    (is-low c.depth.result _ c.depth.ensures.count c.if-depth-ge-FRAMES.false))
    ∙ performed-notifies g.row.W (host_world c.args.notes.now c.args.script.now c.args.self.now) (placement_of c.args.self.now.places)
    (shown c.args.self.now m hosts r) _ _ _ _ _
    (c.tell.ensures.items
    ∙ ap (λ args. c.args.self.now.trace.items ++ event.Notified c.in-Some.notify.now.function args ∷ [])
    (c.copy.ensures ∙ c.given_args-args.ensures))
    c.given_args-args.ensures

pub given_args-args-requires : goal.given_args-args-requires
given_args-args-requires g c =
    (entered-parts c.args.notes.now c.args.self.now.made.items c.in-Some.notify.now.function c.in-Some.notify.now.args
    c.requires.serving.read (c.notification_fits.ensures.enters c.if-not-notification_fits.false)).2

pub returns-clause-entered : goal.returns-clause-entered
returns-clause-entered g c =
    let parts = entered-parts c.args.notes.now c.args.self.now.made.items c.in-Some.notify.now.function c.in-Some.notify.now.args
    c.requires.serving.read (c.notification_fits.ensures.enters c.if-not-notification_fits.false) in
    (parts.0, ap length c.given_args-args.ensures ∙ (length-map c.in-Some.notify.now.args given ∙ parts.1))
