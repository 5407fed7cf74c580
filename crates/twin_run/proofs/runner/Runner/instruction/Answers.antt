use Rattle.twin_run.proofs.Common.{◌+◌, ◌-◌, ◌^◌, min, Some, refl, one_instruction, Runner}
use Rattle.twin_run.proofs.InstructionLaws.{at_thunk, before_thunk, gate_at, native_at}
use Rattle.twin_run.proofs.{InstructionLaws.next_at, InstructionLaws.raised_at, InstructionLaws.thunk_at_step, TurnLaws.quiet_at}
use Rattle.twin_run.proofs.runner.Runner.instruction.Goals as goal

pub returns-in-Next-clause-at : goal.returns-in-Next-clause-at
returns-in-Next-clause-at g c = λ world r d notes at.
    let x : Runner g.row.W = record c.args.self.now { done = d } in
    let n = min (d + 1) (2 ^ 64 - 1) in
    next_at g.row.W world x r c.step.new.self c.step.new.mem n at (
      c.in-Next.ensures.step,
      c.in-Next.ensures.objects,
      refl,
    )

pub returns-in-Native-clause-at : goal.returns-in-Native-clause-at
returns-in-Native-clause-at g c = λ world r d notes at.
    let x : Runner g.row.W = record c.args.self.now { done = d } in
    let n = min (d + 1) (2 ^ 64 - 1) in
    quiet_at g.row.W world (record c.args.self.now {
      machine = c.step.new.self;
      mem = c.step.new.mem;
      done = n;
      asked = Some (record { place = c.call_place-place.result; target = c.in-Native.target });
    }) _ 0
    (native_at g.row.W world x r c.step.new.self c.step.new.mem n c.call_place-place.result c.in-Native.target at
    (c.in-Native.ensures.step, c.in-Native.ensures.objects, refl) c.call_place-place.ensures)

pub returns-in-Gate-clause-at : goal.returns-in-Gate-clause-at
returns-in-Gate-clause-at g c = λ world r d notes at.
    let x : Runner g.row.W = record c.args.self.now { done = d } in
    let n = min (d + 1) (2 ^ 64 - 1) in
    gate_at g.row.W world x r c.step.new.self c.step.new.mem n at (
      c.in-Gate.ensures.step,
      c.in-Gate.ensures.objects,
      refl,
    )

pub returns-in-MakeThunk-clause-at : goal.returns-in-MakeThunk-clause-at
returns-in-MakeThunk-clause-at g c = λ world r d notes at.
    let x : Runner g.row.W = record c.args.self.now { done = d } in
    let n = min (d + 1) (2 ^ 64 - 1) in
    thunk_at_step g.row.W world x (record c.serve_thunk.new.self { done = n }) r c.step.new.self c.step.new.mem n
    c.in-MakeThunk.addr at (
      c.in-MakeThunk.ensures.step,
      c.in-MakeThunk.ensures.objects,
      refl,
    )
    (c.serve_thunk.ensures.at world (record r { script = one_instruction r.script }) n notes
    (before_thunk g.row.W world x r c.step.new.self c.step.new.mem n c.in-MakeThunk.addr at (
      c.in-MakeThunk.ensures.step,
      c.in-MakeThunk.ensures.objects,
      refl,
    ))
    (at_thunk g.row.W world x r c.step.new.self c.step.new.mem n c.in-MakeThunk.addr at (
      c.in-MakeThunk.ensures.step,
      c.in-MakeThunk.ensures.objects,
      refl,
    )))

pub returns-in-Raised-clause-at : goal.returns-in-Raised-clause-at
returns-in-Raised-clause-at g c = λ world r d notes at.
    let x : Runner g.row.W = record c.args.self.now { done = d } in
    let n = min (d + 1) (2 ^ 64 - 1) in
    raised_at g.row.W world x r c.step.new.self c.step.new.mem n c.in-Raised.exception at
    (c.in-Raised.ensures.step, c.in-Raised.ensures.objects, refl) c.in-Raised.ensures.raised
