-- Where points are found, the image is typed under the notes with these points.
use Rattle.note_infer.proofs.Common.{◌≡◌, List, sym, ap, subst, Notes, Point, Image, Typed, Inferred, Points, IsInferred, by_number}
use Rattle.note_infer.proofs.Common.{by_points, by_round, by_tables, by_verdict, points_of, with_points}

same_points : (xs ys : List Point) → Points xs ≡ Points ys → xs ≡ ys
same_points xs ys e = ap points_in e
  where
    points_in : Inferred → List Point
    points_in (Points zs) = zs
    points_in _ = xs

pub found_typed : (image : Image) (notes : Notes) (points : List Point) → IsInferred image notes (Points points)
    → Typed image (with_points notes points)
found_typed image notes points (by_tables place r n h e) = absurd cc
found_typed image notes points (by_number leaders t l m e) = absurd cc
found_typed image notes points (by_round leaders states place r s h k e) = absurd cc
found_typed image notes points (by_verdict leaders states place r h v e) = absurd cc
found_typed image notes points (by_points leaders states h v e) =
    subst (λ (ps : List Point). Typed image (with_points notes ps)) (sym (same_points points (points_of states leaders) e)) v
