use Rattle.twin_run.proofs.Common.{ap, subst, Notes, IsServing, Host}
use Rattle.twin_run.proofs.{InstructionLaws.served_by, InstructionLaws.unmapped_at, InstructionLaws.unnamed_at, TurnLaws.quiet_host}
use Rattle.twin_run.proofs.runner.Runner.serve_thunk.Goals as goal

pub returns-in-Mismatch-clause-at : goal.returns-in-Mismatch-clause-at
returns-in-Mismatch-clause-at g c = λ world r d notes was at.
    unnamed_at g.row.W world (record c.args.self.now { done = d }) r
    c.make_thunk.new.self c.make_thunk.new.mem c.args.addr c.in-Mismatch.reason at
    c.in-Mismatch.ensures.same c.in-Mismatch.ensures.memory (c.in-Mismatch.ensures.step world notes)

pub returns-in-Raised-clause-at : goal.returns-in-Raised-clause-at
returns-in-Raised-clause-at g c = λ world r d notes was at.
    unmapped_at g.row.W world (record c.args.self.now { done = d }) r
    c.make_thunk.new.self c.make_thunk.new.mem
    (record c.args.self.now.machine { ip = c.args.ip }) c.args.addr
    c.in-Raised.exception at was c.in-Raised.ensures.same c.in-Raised.ensures.memory (c.in-Raised.ensures.step world notes)

pub returns-in_default : goal.returns-in_default
returns-in_default g c = record {
  at = λ world r d notes was at.
      served_by g.row.W world (record c.args.self.now { done = d }) r
      c.make_thunk.new.self c.make_thunk.new.mem c.args.addr c.make_thunk.result
      c.args.notes.now at
      (c.make_thunk.ensures.step world notes) c.in_default.not-Mismatch c.in_default.not-Raised
      (λ s f. c.make_thunk.ensures.cell world s f notes) c.make_thunk.ensures.objects
      (c.make_thunk.ensures.serving world.script (subst (λ (n : Notes). IsServing g.row.W n world.script c.args.self.now.host) notes
      at.serving)) notes c.make_thunk.ensures.served c.make_thunk.ensures.count;
  done = λ i. c.args.self.now.done;
  trace = ap (λ (h : Host g.row.W). h.trace) c.make_thunk.ensures.served;
  quiet = λ script quiet. quiet_host g.row.W script c.args.self.now c.make_thunk.new.self c.make_thunk.ensures.served quiet;
}

pub returns-in-Mismatch-clause-quiet : goal.returns-in-Mismatch-clause-quiet
returns-in-Mismatch-clause-quiet g c = λ script quiet.
    quiet_host g.row.W script c.args.self.now c.make_thunk.new.self c.make_thunk.ensures.served quiet

pub returns-in-Raised-clause-quiet : goal.returns-in-Raised-clause-quiet
returns-in-Raised-clause-quiet g c = λ script quiet.
    quiet_host g.row.W script c.args.self.now c.make_thunk.new.self c.make_thunk.ensures.served quiet
