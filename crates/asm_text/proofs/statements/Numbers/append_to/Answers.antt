use Rattle.std.proofs.Common.{rules, ◌≡◌, ◌++◌, sym, ◌∙◌, ap, arith, length, Some, None, append_assoc}
use Rattle.asm_text.specs.Numbers.{number}
use Rattle.asm_text.specs.Splits.{cut}
use Rattle.asm_text.specs.Texts.{bytes_read}
use Rattle.asm_text.proofs.PieceLaws.{cut_some, listed, listed_whole, none_read, on_ok, reads_bad, reads_end, reads_last_bad, reads_next}
use Rattle.asm_text.proofs.PieceLaws.{reads_whole}
use Rattle.asm_text.proofs.statements.Numbers.append_to.Goals as goal

pub loop-init : goal.loop-init
loop-init c = (reads_whole c.args.self.now.bits c.args.self.now.text.now c.requires.1, search rules, omega arith)

pub append_number-requires-clause-number : goal.append_number-requires-clause-number
append_number-requires-clause-number c =
    let here : cut c.loop.rest.now ≡ Some (c.in-Some.first.now, c.in-Some.more.now) = search rules in
    λ e bad. reads_bad c.args.self.now.bits c.loop.rest.now (c.in-Some.first.now, c.in-Some.more.now) e here c.loop.invariant.0 bad

pub append_number-requires-in-None-clause-number : goal.append_number-requires-in-None-clause-number
append_number-requires-in-None-clause-number c =
    let here : cut c.loop.rest.now ≡ None = search rules in
    λ e bad. reads_last_bad c.args.self.now.bits c.loop.rest.now e here c.loop.invariant.0 bad

pub loop-preserved : goal.loop-preserved
loop-preserved c =
    let here : cut c.loop.rest.now ≡ Some (c.in-Some.first.now, c.in-Some.more.now) = search rules in
    let next = reads_next c.args.self.now.bits c.loop.rest.now (c.in-Some.first.now, c.in-Some.more.now) here c.loop.invariant.0 in
    let shorter = (cut_some c.loop.rest.now (c.in-Some.first.now, c.in-Some.more.now) here).1 in
    let bound = c.loop.invariant.2 in
    let b = bytes_read c.args.self.now.bits (number c.args.self.now.bits c.in-Some.first.now) in
    let put : c.append_number.new.out.items ≡ c.loop.out.items ++ b = search rules in
    let rest = listed c.args.self.now.bits c.in-Some.more.now in (
      next.0,
      ap (λ t. t ++ rest) put ∙ (append_assoc c.loop.out.items b rest
          ∙ (ap (λ t. c.loop.out.items ++ t) (sym next.1) ∙ c.loop.invariant.1)),
      omega (arith, shorter, bound),
    )

pub returns-in-None : goal.returns-in-None
returns-in-None c =
    let here : cut c.loop.rest.now ≡ None = search rules in
    on_ok c.append_number-in-None.result _ _ c.append_number-in-None.ensures
    (λ put. put ∙ (ap (λ t. c.loop.out.items ++ t) (sym (reads_end c.args.self.now.bits c.loop.rest.now here c.loop.invariant.0))
    ∙ (c.loop.invariant.1 ∙ ap (λ t. c.args.out.now.items ++ t)
    (listed_whole c.args.self.now.bits c.args.self.now.text.now c.requires.1))))

pub returns : goal.returns
returns c =
    let past = c.loop-test.false in
    let bound = c.loop.invariant.2 in
    let none : length c.args.self.now.text.now ≡ 0 = omega (arith, past, bound) in
    absurd (none_read c.args.self.now.bits c.args.self.now.text.now none c.requires.1)
