-- The rule of static objects, from its parts and a thing at a time.
use Rattle.std.proofs.Common.{ℕ, ◌+◌, ◌≤◌, arith}
use Rattle.note_types.specs.declared.notes.Notes.{Notes}
use Rattle.note_types.specs.declared.notes.Static.{Static}
use Rattle.note_types.specs.declared.shape.Shape.{Shape}
use Rattle.pe_image.specs.declared.image.Image.{Image}
use Rattle.rules_image.specs.Images.{HasContent, IsStatic, StaticHolds, extent, IsFirstFailing}
use Rattle.rules_image.specs.Checks.{IsStaticApart, StaticFits}
use Rattle.rules_image.proofs.Firsts.{HoldsOf}

module _ (image : Image) (notes : Notes) (k : ℕ) (x : Static) (s : Shape) where
  pub static_of : x.place + extent x s ≤ image.size → IsStaticApart notes k x.place (extent x s) → HasContent image notes x s
      → IsStatic image notes k x s
  static_of inside apart content =
      record {
        free = record { inside = inside; functions = apart.functions };
        apart = (
          λ j y t past there shape. apart.statics j y there (omega arith) t shape,
          λ j y there. apart.thunks j y there (omega arith),
        );
        content = content;
      }

  pub apart_of : IsStatic image notes k x s → IsStaticApart notes k x.place (extent x s)
  apart_of h =
      record {
        functions = h.free.functions;
        statics = λ j y there past t shape. h.apart.0 j y t (omega arith) there shape;
        thunks = λ j y there past. h.apart.1 j y there;
      }

module _ (image : Image) (notes : Notes) where
  pub all_statics : ((k : ℕ) → HoldsOf (StaticFits image notes) notes.statics k) → (k : ℕ) → StaticHolds image notes k
  all_statics h k x s there shape = h k x there s shape

  pub first_of_statics : (k : ℕ) → IsFirstFailing (HoldsOf (StaticFits image notes) notes.statics) k
      → IsFirstFailing (StaticHolds image notes) k
  first_of_statics k h = record {
    fails = λ all. h.fails (λ x there s shape. all x s there shape);
    before = λ j less x s there shape. h.before j less x there s shape;
  }
