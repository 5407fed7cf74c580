use Rattle.std.proofs.Common.{◌≡◌, ap, sym, ◌∙◌}
use Rattle.std.specs.Prelude.{Some, slice_get}
use Rattle.std.proofs.lemmas.Option.{none-some, same_Some}
use Rattle.note_types.specs.declared.notes.Point.{Point}
use Rattle.width_checker.proofs.Points.{arrives_none, arrives_point, looked, looked_past, one_point}
use Rattle.state_walk.proofs.walk.state_at.Goals as goal

pub returns-in_default : goal.returns-in_default
returns-in_default c =
    rw c.copied.ensures (arrives_none c.args.notes.now c.requires c.args.place c.first_point.result c.first_point.ensures (λ q found at.
    none-some q (sym (looked_past _ _ _ c.as_slice.ensures c.in_default.ensures.lookup.3) ∙ found)) c.args.arrived.now)

pub returns-then-p-place : goal.returns-then-p-place
returns-then-p-place c =
    let look = c.in-Some.ensures.lookup in
    let p : Point = c.in-Some.p.now in
    let there : slice_get c.args.notes.now.point c.first_point.result ≡ Some p = looked _ _ _ p c.as_slice.ensures look.3.0 look.1 in
    rw c.state.ensures (arrives_point c.args.notes.now c.requires c.args.place c.first_point.result c.first_point.ensures
    (one_point c.args.notes.now c.requires) c.args.arrived.now p there c.if-p-place.true)

pub returns-else-p-place : goal.returns-else-p-place
returns-else-p-place c =
    let look = c.in-Some.ensures.lookup in
    let p : Point = c.in-Some.p.now in
    let there : slice_get c.args.notes.now.point c.first_point.result ≡ Some p = looked _ _ _ p c.as_slice.ensures look.3.0 look.1 in
    rw c.copied-else-p-place.ensures (arrives_none c.args.notes.now c.requires c.args.place c.first_point.result
    c.first_point.ensures (λ q found at.
    c.if-p-place.false (ap (λ (x : Point). x.place) (same_Some p q (sym there ∙ found)) ∙ at)) c.args.arrived.now)
