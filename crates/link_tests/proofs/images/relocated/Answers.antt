use Rattle.std.proofs.Common.{◌∙◌, refl}
use Rattle.link_tests.proofs.LinkedImages.{linked_by, one_section}
use Rattle.link_tests.proofs.images.relocated.Goals as goal

pub returns : goal.returns
returns c =
    linked_by _ refl refl refl refl (c.new.ensures ∙ (c.in_ok-vec.ensures.items ∙ one_section c.in_ok-bytes.field-0 c.in_ok-bytes.ensures))
    (c.new-2.ensures ∙ c.in_ok-vec-2.ensures.items)
