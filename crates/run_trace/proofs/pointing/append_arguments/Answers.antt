use Rattle.std.proofs.Common.{arith, false}
use Rattle.note_types.specs.declared.value.Value.TheVariants as values
use Rattle.run_trace.specs.Pointed.{argument_line}
use Rattle.run_trace.proofs.ArgumentLaws.{argument-more, arguments-all, same-seen}
use Rattle.run_trace.proofs.pointing.append_arguments.Goals as goal

pub loop-argument-preserved : goal.loop-argument-preserved
loop-argument-preserved g c = λ image world s notes script read size is.
    argument-more (argument_line g.row.W world s.machine) c.args.args.now c.loop-argument.argument _ c.args.out.now.items
    c.loop-argument.out.items c.append_argument.new.out.items
    (same-seen c.args.args.now c.loop-argument.argument (record { lent = false; value = values.Int 0 })
    (let less = c.loop-argument-test.true in let most = c.loop-argument.auto.argument-end in omega (arith, less, most)))
    (c.loop-argument.invariant image world s notes script read size is)
    (c.in_ok-append_argument.ensures image world s notes script read size is)

pub returns : goal.returns
returns g c = λ image world s notes script read size is.
    arguments-all g.row.W world s.machine c.args.args.now c.loop-argument.argument c.args.out.now.items c.loop-argument.out.items
    (let over = c.loop-argument-test.false in let most = c.loop-argument.auto.argument-end in omega (arith, over, most))
    (c.loop-argument.invariant image world s notes script read size is)
