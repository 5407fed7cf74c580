use Rattle.std.proofs.Common.{◌≡◌, ◌<◌, ◌≤◌, ◌+◌, take, sym, arith}
use Rattle.type_notes.specs.Conditions.{code_of, code_size}
use Rattle.type_notes.proofs.PastLemmas.{code_more, WithinBelow-more, first_past-some, first_past-none}
use Rattle.type_notes.proofs.conditions.first_past.Goals as goal

pub returns-then-code-limit : goal.returns-then-code-limit
returns-then-code-limit c =
    let fs = c.args.functions.now in
    let f = c.index-functions-i.result in
    let more : code_of (take (c.loop-i.i + 1) fs) ≡ code_of (take c.loop-i.i fs) + code_size f =
    code_more fs c.loop-i.i f c.loop-i-test.true c.index-functions-i.is in
    let before : c.loop-i.code ≡ code_of (take c.loop-i.i fs) = c.loop-i.invariant.so_far in
    let size : c.code_size-code.result ≡ code_size f = c.code_size-code.ensures.value in
    let above : c.args.limit < c.loop-i.code + c.code_size-code.result = c.if-code-limit.true in
    sym (first_past-some c.args.limit fs c.loop-i.i c.loop-i-test.true c.loop-i.invariant.within (omega arith))

pub loop-i-preserved : goal.loop-i-preserved
loop-i-preserved c =
    let fs = c.args.functions.now in
    let f = c.index-functions-i.result in
    let more : code_of (take (c.loop-i.i + 1) fs) ≡ code_of (take c.loop-i.i fs) + code_size f =
    code_more fs c.loop-i.i f c.loop-i-test.true c.index-functions-i.is in
    let before : c.loop-i.code ≡ code_of (take c.loop-i.i fs) = c.loop-i.invariant.so_far in
    let size : c.code_size-code.result ≡ code_size f = c.code_size-code.ensures.value in
    let within : c.loop-i.code + c.code_size-code.result ≤ c.args.limit = c.if-code-limit.false in
    record {
      small = within;
      so_far = omega arith;
      within = WithinBelow-more c.args.limit fs c.loop-i.i c.loop-i.invariant.within (omega arith);
    }

pub returns : goal.returns
returns c = sym (first_past-none c.args.limit c.args.functions.now c.loop-i.i c.loop-i-test.false c.loop-i.invariant.within)
