use Rattle.std.proofs.Common.{rules, ◌≡◌, ◌-◌, ◌<◌, ◌==◌, arith, [], get_or, false, take, ◌∙◌}
use Rattle.asm_text.proofs.TrimLaws.{back_none, back_step, back_stop}
use Rattle.asm_text.proofs.splits.trim_back.Goals as goal
use Rattle.asm_text.proofs.splits.trim_back.Goals.{else-loop-test, then-loop-test+then-kept-eq0, then-kept-eq0-via-then-kept-eq0}
use Rattle.asm_text.proofs.splits.trim_back.Goals.{then-kept-eq0-via-else-kept-eq0+then-text-kept-ne32}

pub loop-preserved : goal.loop-preserved
loop-preserved c =
    let some : 0 < c.loop.kept = search rules in
    let blank : get_or c.args.text.now (c.loop.kept - 1) 0 ≡ 32 = search rules in
    let bound = c.loop.invariant.1 in
    (back_step c.loop.kept c.args.text.now _ some (omega (arith, bound)) blank c.loop.invariant.0, omega (arith, bound, some))

pub returns : goal.returns
returns c =
    let bound = c.loop.invariant.1 in
    let so_far = c.loop.invariant.0 in
    elim c.loop-test.branch [
      | else-loop-test w ↦
          let past = w.loop-test in
          let none : c.loop.kept ≡ 0 = omega (arith, past, bound) in
          let empty : take c.loop.kept c.args.text.now ≡ [] = rw none in
          empty ∙ back_none c.loop.kept c.args.text.now _ none so_far
      | then-loop-test+then-kept-eq0 w ↦ elim w.then-kept-eq0.branch [
        | then-kept-eq0-via-then-kept-eq0 v ↦
            let test = v.if-kept-eq0 in
            let none : c.loop.kept ≡ 0 = search rules in
            let empty : take c.loop.kept c.args.text.now ≡ [] = rw none in
            empty ∙ back_none c.loop.kept c.args.text.now _ none so_far
        | then-kept-eq0-via-else-kept-eq0+then-text-kept-ne32 v ↦
            let one = v.if-kept-eq0 in
            let two = v.if-text-kept-ne32 in
            let some : 0 < c.loop.kept = search rules in
            let other : (get_or c.args.text.now (c.loop.kept - 1) 0 == 32) ≡ false = search rules in
            back_stop c.loop.kept c.args.text.now _ some (omega (arith, bound)) other so_far
      ]
    ]
