use Rattle.width_checker.proofs.Common.{◌≡◌, ap, refl, sym, ◌∙◌, Some, slice_get, none-some, same_Some, Point}
use Rattle.width_checker.proofs.Points.{below_here, below_none, looked, looked_past}
use Rattle.width_checker.proofs.walk.is_below_next.Goals as goal

pub returns-then-p-place : goal.returns-then-p-place
returns-then-p-place c =
    let look = c.in-Some.ensures.lookup in
    let p : Point = c.in-Some.p.now in
    let there : slice_get c.args.notes.now.point c.args.first ≡ Some p = looked _ _ _ p c.as_slice.ensures look.3.0 look.1 in
    below_here c.args.notes.now c.requires.ascend c.args.place c.args.first c.requires.points c.args.state.now p _ there c.if-p-place.true
    c.fits_below.ensures.meaning

pub returns-else-p-place : goal.returns-else-p-place
returns-else-p-place c =
    let look = c.in-Some.ensures.lookup in
    let p : Point = c.in-Some.p.now in
    let there : slice_get c.args.notes.now.point c.args.first ≡ Some p = looked _ _ _ p c.as_slice.ensures look.3.0 look.1 in (
      λ t. below_none c.args.notes.now c.requires.ascend c.args.place c.args.first c.requires.points (λ q found at.
          c.if-p-place.false (ap (λ (x : Point). x.place) (same_Some p q (sym there ∙ found)) ∙ at)) c.args.state.now,
      λ h. refl,
    )

pub returns-in-None : goal.returns-in-None
returns-in-None c = (
  λ t. below_none c.args.notes.now c.requires.ascend c.args.place c.args.first c.requires.points (λ q found at.
      none-some q (sym (looked_past _ _ _ c.as_slice.ensures c.in-None.ensures.lookup.3) ∙ found)) c.args.state.now,
  λ h. refl,
)
