use Rattle.rules_image.proofs.ContentLemmas.{blank, blank_clear}
use Rattle.rules_image.proofs.content.is_blank.Goals as goal

pub returns-then-is_clear : goal.returns-then-is_clear
returns-then-is_clear c =
    blank c.args.image.now c.args.x.now c.args.s.now c.args.end c.as_slice.result.now c.may_all_be_zero.result c.requires.end
    c.as_slice.ensures
    (c.is_clear.ensures.0 c.if-is_clear.true)
    c.may_all_be_zero.ensures

pub returns-else-is_clear : goal.returns-else-is_clear
returns-else-is_clear c = (
  λ e. absurd (let not = c.if-is_clear.false in cc),
  λ h. c.is_clear.ensures.1 (blank_clear c.args.image.now c.args.x.now c.args.s.now c.args.end c.requires.end h),
)
