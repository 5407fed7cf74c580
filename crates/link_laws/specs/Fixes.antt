-- For proofs: that what is said of linked images fixes them. docs/LINKING.md, "Linked images".
use Rattle.std.specs.Prelude.{◌≡◌, List, [], None}
use Rattle.ebc_object.specs.declared.object.Object.{Object}
use Rattle.pe_image.specs.Mapped.{AreBytes}
use Rattle.pe_image.specs.declared.image.Image.{Image}
use Rattle.ebc_link.specs.declared.plan.LinkPlan.{LinkPlan}
use Rattle.ebc_link.specs.Layout.{laid_objects}
use Rattle.ebc_link.specs.Linked.{Linked}
use Rattle.ebc_link.specs.Symbols.{definitions, first_again, names_of}

-- Where no name is defined twice, there is one image at most that objects are linked to by a plan.
abbrev pub LinkedIsOne : Type 0
LinkedIsOne =
    (objects : List Object) (plan : LinkPlan) (one other : Image) → first_again [] (names_of (definitions (laid_objects objects))) ≡ None
    → Linked objects plan one → Linked objects plan other → AreBytes one → AreBytes other → one ≡ other
