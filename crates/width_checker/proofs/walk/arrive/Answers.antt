use Rattle.width_checker.proofs.Common.{◌≡◌, ap, refl, sym, ◌∙◌, Some, slice_get, none-some, same_Some, Point, only_if}
use Rattle.width_checker.proofs.Points.{arrives_none, arrives_point, below_here, below_none, looked, looked_past, one_point, points_more}
use Rattle.width_checker.proofs.Points.{points_same}
use Rattle.width_checker.proofs.walk.arrive.Goals as goal

pub returns-then-p-at-clause-arrives : goal.returns-then-p-at-clause-arrives
returns-then-p-at-clause-arrives c =
    let look = c.in-Some.ensures.lookup in
    let p : Point = c.in-Some.p.now in
    let there : slice_get c.args.notes.now.point c.args.marks.now.point ≡ Some p = looked _ _ _ p c.as_slice.ensures look.3.0 look.1 in
    arrives_none c.args.notes.now c.requires.ascend c.args.at c.args.marks.now.point c.requires.points (λ q found at.
    c.if-p-at.true (ap (λ (x : Point). x.place) (same_Some p q (sym there ∙ found)) ∙ at)) (only_if c.args.marks.now.falls c.args.state.now)

pub returns-then-p-at-clause-points : goal.returns-then-p-at-clause-points
returns-then-p-at-clause-points c =
    let look = c.in-Some.ensures.lookup in
    let p : Point = c.in-Some.p.now in
    let there : slice_get c.args.notes.now.point c.args.marks.now.point ≡ Some p = looked _ _ _ p c.as_slice.ensures look.3.0 look.1 in
    points_same c.args.notes.now c.requires.ascend c.args.at c.args.marks.now.point c.requires.points (λ q found at.
    c.if-p-at.true (ap (λ (x : Point). x.place) (same_Some p q (sym there ∙ found)) ∙ at))

pub returns-then-p-at-clause-below : goal.returns-then-p-at-clause-below
returns-then-p-at-clause-below c =
    let look = c.in-Some.ensures.lookup in
    let p : Point = c.in-Some.p.now in
    let there : slice_get c.args.notes.now.point c.args.marks.now.point ≡ Some p = looked _ _ _ p c.as_slice.ensures look.3.0 look.1 in (
      λ t. below_none c.args.notes.now c.requires.ascend c.args.at c.args.marks.now.point c.requires.points (λ q found at.
          c.if-p-at.true (ap (λ (x : Point). x.place) (same_Some p q (sym there ∙ found)) ∙ at)) c.args.state.now,
      λ h. refl,
    )

pub returns-in_default-clause-arrives : goal.returns-in_default-clause-arrives
returns-in_default-clause-arrives c =
    arrives_none c.args.notes.now c.requires.ascend c.args.at c.args.marks.now.point c.requires.points (λ q found at.
    none-some q (sym (looked_past _ _ _ c.as_slice.ensures c.in_default.ensures.lookup.3) ∙ found))
    (only_if c.args.marks.now.falls c.args.state.now)

pub returns-in_default-clause-points : goal.returns-in_default-clause-points
returns-in_default-clause-points c =
    points_same c.args.notes.now c.requires.ascend c.args.at c.args.marks.now.point c.requires.points (λ q found at.
    none-some q (sym (looked_past _ _ _ c.as_slice.ensures c.in_default.ensures.lookup.3) ∙ found))

pub returns-in_default-clause-below : goal.returns-in_default-clause-below
returns-in_default-clause-below c = (
  λ t. below_none c.args.notes.now c.requires.ascend c.args.at c.args.marks.now.point c.requires.points (λ q found at.
      none-some q (sym (looked_past _ _ _ c.as_slice.ensures c.in_default.ensures.lookup.3) ∙ found)) c.args.state.now,
  λ h. refl,
)

pub returns-clause-arrives : goal.returns-clause-arrives
returns-clause-arrives c =
    let look = c.in-Some.ensures.lookup in
    let p : Point = c.in-Some.p.now in
    let there : slice_get c.args.notes.now.point c.args.marks.now.point ≡ Some p = looked _ _ _ p c.as_slice.ensures look.3.0 look.1 in
    rw c.put.ensures (arrives_point c.args.notes.now c.requires.ascend c.args.at c.args.marks.now.point c.requires.points
    (one_point c.args.notes.now c.requires.ascend) (only_if c.args.marks.now.falls c.args.state.now) p there c.if-p-at.false)

pub returns-clause-points : goal.returns-clause-points
returns-clause-points c =
    let look = c.in-Some.ensures.lookup in
    let p : Point = c.in-Some.p.now in
    let there : slice_get c.args.notes.now.point c.args.marks.now.point ≡ Some p = looked _ _ _ p c.as_slice.ensures look.3.0 look.1 in
    points_more c.args.notes.now c.requires.ascend c.args.at c.args.marks.now.point c.requires.points p there c.if-p-at.false

pub returns-clause-below : goal.returns-clause-below
returns-clause-below c =
    let look = c.in-Some.ensures.lookup in
    let p : Point = c.in-Some.p.now in
    let there : slice_get c.args.notes.now.point c.args.marks.now.point ≡ Some p = looked _ _ _ p c.as_slice.ensures look.3.0 look.1 in
    below_here c.args.notes.now c.requires.ascend c.args.at c.args.marks.now.point c.requires.points c.args.state.now p _ there
    c.if-p-at.false c.fits_below-below.ensures.meaning
