use Rattle.rules_image.proofs.thunks.enters_function.Goals as goal

pub returns : goal.returns
returns c = (
  λ e. record {
    enter = c.if-not-f.false;
    offset = c.leads_to.ensures.0 c.if-not-leads_to.false;
    unrelocated = c.is_unrelocated.ensures.0 c.if-not-is_unrelocated.false;
    rest = c.is_zero.ensures.0 e;
  },
  λ h. c.is_zero.ensures.1 h.rest,
)
