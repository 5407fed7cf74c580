use Rattle.note_infer.proofs.Common.{◌≡◌, refl, Some, slice_get, le-leb, leb-true, Point}
use Rattle.width_checker.proofs.Points.{looked, looked_past, no_point_none, no_point_some, point_within}
use Rattle.note_infer.proofs.marks.has_no_point.Goals as goal

pub returns-in-Some : goal.returns-in-Some
returns-in-Some c =
    let look = c.in-Some.ensures.lookup in
    let p : Point = c.in-Some.p.now in
    let n = c.first_point.result in
    let there : slice_get c.args.notes.now.point n ≡ Some p = looked _ _ _ p c.as_slice.ensures look.3.0 look.1 in (
      λ t. no_point_some c.args.notes.now c.requires.ascend c.args.at c.args.next n c.first_point.ensures p there (leb-true _ _ t),
      λ h. le-leb _ _ (point_within c.args.notes.now c.requires.ascend c.args.at c.args.next n c.first_point.ensures p there h),
    )

pub returns-in-None : goal.returns-in-None
returns-in-None c = (
  λ t. no_point_none c.args.notes.now c.requires.ascend c.args.at c.args.next c.first_point.result c.first_point.ensures
      (looked_past _ _ _ c.as_slice.ensures c.in-None.ensures.lookup.3),
  λ h. refl,
)
