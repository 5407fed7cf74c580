use Rattle.std.proofs.Common.{ap, arith}
use Rattle.std.specs.Prelude.{nat_eq}
use Rattle.object_memory.specs.Memory.{ranges}
use Rattle.step_texts.specs.StateTexts.{back_line}
use Rattle.run_trace.specs.Addresses.{held}
use Rattle.run_trace.specs.declared.calls.InnerCall.{InnerCall}
use Rattle.run_trace.proofs.OpenedLaws.{backs-are, backs-more}
use Rattle.run_trace.proofs.opened.append_backs.Goals as goal

pub loop-above-preserved : goal.loop-above-preserved
loop-above-preserved g c =
    backs-more (λ (k : InnerCall). back_line c.args.notes.now (held c.args.notes.now (ranges c.args.runner.now.mem) k.back))
    (λ k. nat_eq k.entered c.args.depth) c.args.calls.now c.loop-above.above (record { entered = 0; stack = 0; back = 0 })
    c.args.out.now.items c.loop-above.out.items c.append_back_in.new.out.items c.loop-above-test.true c.loop-above.invariant
    c.in_ok-append_back_in.ensures.there (λ isnt. ap (λ v. v.items) (c.in_ok-append_back_in.ensures.elsewhere isnt))

pub returns : goal.returns
returns g c =
    backs-are c.args.notes.now (ranges c.args.runner.now.mem) c.args.calls.now c.args.depth c.loop-above.above c.args.out.now.items
    c.loop-above.out.items (let past = c.loop-above-test.false in omega (arith, past)) c.loop-above.invariant
