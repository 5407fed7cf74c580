use Rattle.native_host.proofs.Common.{◌+◌, true, false, [], ◌∷◌, ◌++◌, length, map, Some, refl, sym, ap, ◌∙◌, length-map, with_mark}
use Rattle.native_host.proofs.Common.{saved_of, performed, given, host_world, shown, placement_of, can_enter}
use Rattle.native_host.proofs.{EnterLaws.entered-parts, EnterLaws.is-deep, EnterLaws.is-low, ReplyLaws.enter-deep, ReplyLaws.enter-unfit}
use Rattle.native_host.proofs.{ReplyLaws.top-count-is, StepLaws.ends-by, StepLaws.performed-enters, StepLaws.step-by, TopLaws.called-some}
use Rattle.native_host.proofs.TopLaws.{marked-callback}
use Rattle.note_types.specs.declared.event.Event.TheVariants as event
use Rattle.native_host.specs.declared.step.HostStep.TheVariants as step
use Rattle.native_host.proofs.host.Host.enter_next.Goals as goal

pub returns-then-not-can_enter-clause-step : goal.returns-then-not-can_enter-clause-step
returns-then-not-can_enter-clause-step g c number =
    step-by number _ _ _
    (enter-unfit c.args.notes.now c.args.self.now.made.items c.args.entry c.args.callback (length c.args.frames.now) c.args.next.now
    (ap (λ made. can_enter c.args.notes.now made c.args.next.now.function c.args.next.now.values) (sym c.as_slice.ensures.value)
    ∙ (sym c.can_enter.ensures ∙ c.if-not-can_enter.true))) refl

pub returns-then-depth-ge-FRAMES-clause-step : goal.returns-then-depth-ge-FRAMES-clause-step
returns-then-depth-ge-FRAMES-clause-step g c number =
    step-by number _ _ _
    (enter-deep c.args.notes.now c.args.self.now.made.items c.args.entry c.args.callback (length c.args.frames.now) c.args.next.now true
    (ap (λ made. can_enter c.args.notes.now made c.args.next.now.function c.args.next.now.values) (sym c.as_slice.ensures.value)
    ∙ (sym c.can_enter.ensures ∙ c.if-not-can_enter.false))
    (is-deep c.depth.result _ c.depth.ensures.count c.if-depth-ge-FRAMES.true)) refl

pub given_args-args-requires : goal.given_args-args-requires
given_args-args-requires g c =
    (entered-parts c.args.notes.now c.args.self.now.made.items c.args.next.now.function c.args.next.now.values
    c.requires.read (ap (λ made. can_enter c.args.notes.now made c.args.next.now.function c.args.next.now.values) (sym
    c.as_slice.ensures.value)
    ∙ (sym c.can_enter.ensures ∙ c.if-not-can_enter.false))).2

pub returns-clause-step : goal.returns-clause-step
returns-clause-step g c number =
    step-by number _ _ _
    (enter-deep c.args.notes.now c.args.self.now.made.items c.args.entry c.args.callback (length c.args.frames.now) c.args.next.now false
    (ap (λ made. can_enter c.args.notes.now made c.args.next.now.function c.args.next.now.values) (sym c.as_slice.ensures.value)
    ∙ (sym c.can_enter.ensures ∙ c.if-not-can_enter.false))
    (is-low c.depth.result _ c.depth.ensures.count c.if-depth-ge-FRAMES.false))
    (ap (λ args. Some (step.Enter c.args.next.now.function args)) (sym c.given_args-args.ensures))

pub returns-then-not-can_enter-clause-after : goal.returns-then-not-can_enter-clause-after
returns-then-not-can_enter-clause-after g c script r m made =
    ends-by g.row.W (host_world c.args.notes.now script c.args.self.now) (placement_of c.args.self.now.places) (shown c.args.self.now m
    (map saved_of c.args.frames.now) r) _ _
    (enter-unfit c.args.notes.now c.args.self.now.made.items c.args.entry c.args.callback (length c.args.frames.now) c.args.next.now
    (ap (λ made. can_enter c.args.notes.now made c.args.next.now.function c.args.next.now.values) (sym c.as_slice.ensures.value)
    ∙ (sym c.can_enter.ensures ∙ c.if-not-can_enter.true)))

pub returns-then-depth-ge-FRAMES-clause-after : goal.returns-then-depth-ge-FRAMES-clause-after
returns-then-depth-ge-FRAMES-clause-after g c script r m made =
    ends-by g.row.W (host_world c.args.notes.now script c.args.self.now) (placement_of c.args.self.now.places) (shown c.args.self.now m
    (map saved_of c.args.frames.now) r) _ _
    (enter-deep c.args.notes.now c.args.self.now.made.items c.args.entry c.args.callback (length c.args.frames.now) c.args.next.now true
    (ap (λ made. can_enter c.args.notes.now made c.args.next.now.function c.args.next.now.values) (sym c.as_slice.ensures.value)
    ∙ (sym c.can_enter.ensures ∙ c.if-not-can_enter.false))
    (is-deep c.depth.result _ c.depth.ensures.count c.if-depth-ge-FRAMES.true))

pub returns-clause-after : goal.returns-clause-after
returns-clause-after g c script r m made =
    ap (performed g.row.W (host_world c.args.notes.now script c.args.self.now) (placement_of c.args.self.now.places) (shown c.args.self.now
    m (map saved_of c.args.frames.now) r))
    (enter-deep c.args.notes.now c.args.self.now.made.items c.args.entry c.args.callback (length c.args.frames.now) c.args.next.now false
    (ap (λ made. can_enter c.args.notes.now made c.args.next.now.function c.args.next.now.values) (sym c.as_slice.ensures.value)
    ∙ (sym c.can_enter.ensures ∙ c.if-not-can_enter.false))
    (is-low c.depth.result _ c.depth.ensures.count c.if-depth-ge-FRAMES.false))
    ∙ performed-enters g.row.W (host_world c.args.notes.now script c.args.self.now) (placement_of c.args.self.now.places) (shown
    c.args.self.now m (map saved_of c.args.frames.now) r) _ _ _ _ _ _ _
    (ap (map saved_of) (c.set_mark.ensures.after
    ∙ ap (λ n. with_mark c.args.entry (c.args.callback + 1) n c.args.frames.now)
    (top-count-is c.args.frames.now c.mark-count.result.2 c.mark-count.ensures.count (called-some c.args.frames.now c.requires.called)))
    ∙ marked-callback c.args.frames.now c.requires.called c.args.entry c.args.callback
    (c.requires.entry c.requires.called.top c.requires.called.there) (c.requires.callback c.requires.called.top c.requires.called.there))
    (c.tell.ensures.items
    ∙ ap (λ args. c.args.self.now.trace.items ++ event.Entered c.args.next.now.function args ∷ [])
    (c.copy.ensures ∙ c.given_args-args.ensures))
    c.given_args-args.ensures

pub returns-clause-entered : goal.returns-clause-entered
returns-clause-entered g c =
    let parts = entered-parts c.args.notes.now c.args.self.now.made.items c.args.next.now.function c.args.next.now.values
    c.requires.read (ap (λ made. can_enter c.args.notes.now made c.args.next.now.function c.args.next.now.values) (sym
    c.as_slice.ensures.value)
    ∙ (sym c.can_enter.ensures ∙ c.if-not-can_enter.false)) in
    (parts.0, ap length c.given_args-args.ensures ∙ (length-map c.args.next.now.values given ∙ parts.1))
