use Rattle.native_host.proofs.Common.{◌+◌, ◌*◌, refl, sym, ap, ◌∙◌, arith, none-some, placement_of}
use Rattle.native_host.specs.Steps.{thunk_step}
use Rattle.native_host.proofs.ThunkLaws.{held-four, keeps-any, same-name, thunk-stored, view-absent, view-held}
use Rattle.native_host.proofs.host.Host.make_thunk.Goals as goal

pub returns-then-not-holds-clause-step : goal.returns-then-not-holds-clause-step
returns-then-not-holds-clause-step g c world same =
    ap (thunk_step c.args.addr) (sym (view-absent world (placement_of c.args.self.now.places) c.args.mem.now c.args.addr
    (sym c.holds.ensures.answer ∙ c.if-not-holds.true)))

pub returns-then-not-holds-clause-cell : goal.returns-then-not-holds-clause-cell
returns-then-not-holds-clause-cell g c world s f same named =
    let none = sym (view-absent world (placement_of c.args.self.now.places) c.args.mem.now c.args.addr
    (sym c.holds.ensures.answer ∙ c.if-not-holds.true)) ∙ named in absurd (cc)

pub unreachable-requires : goal.unreachable-requires
unreachable-requires g c =
    none-some _ (sym c.in_default.is ∙ (c.load.ensures.number ∙ held-four c.args.mem.now c.args.addr
    (sym c.holds.ensures.answer ∙ c.if-not-holds.false)))

pub entered_at-requires : goal.entered_at-requires
entered_at-requires g c =
    let count = c.requires.notes.functions in
    let few = c.args.self.now.places.few_functions in omega (arith, count, few)

pub returns-in_default-entered_at-clause-step : goal.returns-in_default-entered_at-clause-step
returns-in_default-entered_at-clause-step g c world same =
    ap (thunk_step c.args.addr)
    (sym (view-held world c.args.notes.now (placement_of c.args.self.now.places) c.args.mem.now c.args.addr _ _ _
    (sym c.holds.ensures.answer ∙ c.if-not-holds.false) (sym c.in-Some.is ∙ c.load.ensures.number)
    (c.thunk_place-place.ensures (placement_of c.args.self.now.places) refl) (sym c.in_default-entered_at.is ∙ c.entered_at.ensures) same))

pub returns-in_default-entered_at-clause-cell : goal.returns-in_default-entered_at-clause-cell
returns-in_default-entered_at-clause-cell g c world s f same named =
    let none = sym (view-held world c.args.notes.now (placement_of c.args.self.now.places) c.args.mem.now c.args.addr _ _ _
    (sym c.holds.ensures.answer ∙ c.if-not-holds.false) (sym c.in-Some.is ∙ c.load.ensures.number)
    (c.thunk_place-place.ensures (placement_of c.args.self.now.places) refl) (sym c.in_default-entered_at.is ∙ c.entered_at.ensures) same)
    ∙ named in absurd (cc)

pub returns-clause-step : goal.returns-clause-step
returns-clause-step g c world same =
    ap (thunk_step c.args.addr)
    (sym (view-held world c.args.notes.now (placement_of c.args.self.now.places) c.args.mem.now c.args.addr _ _ _
    (sym c.holds.ensures.answer ∙ c.if-not-holds.false) (sym c.in-Some.is ∙ c.load.ensures.number)
    (c.thunk_place-place.ensures (placement_of c.args.self.now.places) refl) (sym c.in-Some-entered_at.is ∙ c.entered_at.ensures) same))

pub returns-clause-cell : goal.returns-clause-cell
returns-clause-cell g c world s f same named =
    let name = sym (view-held world c.args.notes.now (placement_of c.args.self.now.places) c.args.mem.now c.args.addr _ _ _
    (sym c.holds.ensures.answer ∙ c.if-not-holds.false) (sym c.in-Some.is ∙ c.load.ensures.number)
    (c.thunk_place-place.ensures (placement_of c.args.self.now.places) refl) (sym c.in-Some-entered_at.is ∙ c.entered_at.ensures) same)
    ∙ named in
    thunk-stored g.row.W c.args.notes.now c.args.self.now.places s c.args.mem.now c.store.new.self c.args.addr f c.thunk_at.result
    c.requires.width c.requires.notes (sym c.holds.ensures.answer ∙ c.if-not-holds.false)
    (c.thunk_at.ensures ∙ ap (λ k. c.args.self.now.places.native + 16 * (1 + c.args.self.now.places.methods + k)) (same-name _ f name))
    c.store.ensures.after

pub returns-clause-objects : goal.returns-clause-objects
returns-clause-objects g c =
    keeps-any c.args.mem.now c.store.new.self c.args.addr g.row.W c.thunk_at.result c.store.ensures.after
