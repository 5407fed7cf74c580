use Rattle.std.proofs.Common.{◌∙◌, refl}
use Rattle.link_tests.proofs.LinkedImages.{driver_by, two_sections}
use Rattle.link_tests.proofs.images.driver.Goals as goal

pub returns : goal.returns
returns c =
    driver_by _ refl refl refl refl
    (c.new.ensures
    ∙ (c.in_ok-vec.ensures.items
    ∙ two_sections c.in_ok-bytes.field-0 c.in_ok-bytes-2.field-0 c.in_ok-bytes.ensures c.in_ok-bytes-2.ensures))
    (c.new-2.ensures ∙ c.in_ok-vec-2.ensures.items)
