use Rattle.rules_image.proofs.content.is_filled.Goals as goal

pub returns-then-instances_hold : goal.returns-then-instances_hold
returns-then-instances_hold c =
    let cells = c.instances_hold.ensures.0 c.if-instances_hold.true in (
      λ e. record { cells = λ j f y within there. cells j within f y there; relocations = c.relocates_pointers.ensures.0 e },
      λ h. c.relocates_pointers.ensures.1 h.relocations,
    )

pub returns-else-instances_hold : goal.returns-else-instances_hold
returns-else-instances_hold c = (
  λ e. absurd (let is = c.if-instances_hold.false in cc),
  λ h. c.instances_hold.ensures.1 (λ j within f y there. h.cells j f y within there),
)
