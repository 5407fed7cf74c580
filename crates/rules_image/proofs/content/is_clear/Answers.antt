use Rattle.rules_image.proofs.content.is_clear.Goals as goal

pub returns-then-is_unrelocated : goal.returns-then-is_unrelocated
returns-then-is_unrelocated c =
    let free = c.is_unrelocated.ensures.0 c.if-is_unrelocated.true in
    (λ e. (free, c.is_zero.ensures.0 e), λ h. c.is_zero.ensures.1 h.1)
