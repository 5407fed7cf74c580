use Rattle.std.proofs.Common.{rules, ◌≡◌, sym, ◌∙◌, arith, false, Some, None, Ok, Err}
use Rattle.asm_text.specs.Numbers.{number}
use Rattle.asm_text.specs.Splits.{cut, is_empty}
use Rattle.asm_text.proofs.PieceLaws.{checked_bad, checked_last, checked_last_bad, checked_more, checked_none, checked_whole, cut_some}
use Rattle.asm_text.proofs.statements.are_numbers.Goals as goal

pub returns-then-is_empty : goal.returns-then-is_empty
returns-then-is_empty c = sym (checked_none c.args.bits c.args.text.now (search rules))

pub returns-in_err-number-in-Some : goal.returns-in_err-number-in-Some
returns-in_err-number-in-Some c =
    let some : is_empty c.args.text.now ≡ false = search rules in
    let here : cut c.loop.rest.now ≡ Some (c.in-Some.first.now, c.in-Some.more.now) = search rules in
    let bad : number c.args.bits c.in-Some.first.now ≡ Err c.in_err-number-in-Some.field-0.0 = search rules in
    let out : c.from_residual.result ≡ Err c.in_err-number-in-Some.field-0.0 = search rules in
    out ∙ (sym (checked_bad c.args.bits c.loop.rest.now (
      c.in-Some.first.now,
      c.in-Some.more.now,
    ) c.in_err-number-in-Some.field-0.0 here bad)
    ∙ (c.loop.invariant.0 ∙ sym (checked_whole c.args.bits c.args.text.now some)))

pub returns-in_err-number-in-None : goal.returns-in_err-number-in-None
returns-in_err-number-in-None c =
    let some : is_empty c.args.text.now ≡ false = search rules in
    let here : cut c.loop.rest.now ≡ None = search rules in
    let bad : number c.args.bits c.loop.rest.now ≡ Err c.in_err-number-in-None.field-0.0 = search rules in
    let out : c.from_residual-in_err-number-in-None.result ≡ Err c.in_err-number-in-None.field-0.0 = search rules in
    out ∙ (sym (checked_last_bad c.args.bits c.loop.rest.now c.in_err-number-in-None.field-0.0 here bad)
    ∙ (c.loop.invariant.0 ∙ sym (checked_whole c.args.bits c.args.text.now some)))

pub returns-in-None : goal.returns-in-None
returns-in-None c =
    let some : is_empty c.args.text.now ≡ false = search rules in
    let here : cut c.loop.rest.now ≡ None = search rules in
    let good : number c.args.bits c.loop.rest.now ≡ Ok c.in_ok-number-in-None.field-0 = search rules in
    sym (checked_last c.args.bits c.loop.rest.now c.in_ok-number-in-None.field-0 here good)
    ∙ (c.loop.invariant.0 ∙ sym (checked_whole c.args.bits c.args.text.now some))

pub loop-preserved : goal.loop-preserved
loop-preserved c =
    let here : cut c.loop.rest.now ≡ Some (c.in-Some.first.now, c.in-Some.more.now) = search rules in
    let good : number c.args.bits c.in-Some.first.now ≡ Ok c.in_ok-number-in-Some.field-0 = search rules in
    let shorter = (cut_some c.loop.rest.now (c.in-Some.first.now, c.in-Some.more.now) here).1 in
    let bound = c.loop.invariant.1 in (
      sym (checked_more c.args.bits c.loop.rest.now (c.in-Some.first.now, c.in-Some.more.now) c.in_ok-number-in-Some.field-0 here good)
          ∙ c.loop.invariant.0,
      omega (arith, shorter, bound),
    )
