use Rattle.twin_run.proofs.Common.{None, arith, false, refl}
use Rattle.twin_run.proofs.HostingLaws.{accepted_shown, call_part, called_host, settled_enters, settled_shown, taken_at}
use Rattle.native_host.specs.declared.step.HostStep.TheVariants as step
use Rattle.twin_run.proofs.runner.Runner.call.Goals as goal

pub returns-in-Accepted-clause-at : goal.returns-in-Accepted-clause-at
returns-in-Accepted-clause-at g c = λ world r notes script away at.
    let w = g.row.W in
    let x = c.args.self.now in
    let h = c.call.new.self in
    let m = c.call.new.mem in
    let fs = c.call.new.frames in
    let facts = c.in-Accepted.ensures in
    let part = call_part w world c.args.notes.now c.args.script.now x r c.args.asked h m fs _ step.Accepted notes script at c.requires.asked
    c.requires.ready.inside away refl facts.after in
    let mid = called_host w world c.args.notes.now c.args.script.now x r h m fs None notes script at facts.serving facts.memory facts.kept
    in
    accepted_shown w world x r c.args.asked h m fs mid part

pub take-requires : goal.take-requires
take-requires g c = (
  omega arith,
  (
    c.requires.width,
    (
      c.requires.ready.serving.read,
      (
        c.call.ensures.serving.host.notes,
        settled_enters _ _
            c.call.ensures.settled,
      ),
    ),
  ),
)

pub returns-in_default-clause-at : goal.returns-in_default-clause-at
returns-in_default-clause-at g c = λ world r notes script away at.
    let w = g.row.W in
    let x = c.args.self.now in
    let h = c.call.new.self in
    let m = c.call.new.mem in
    let fs = c.call.new.frames in
    let st = c.call.result in
    let facts = c.call.ensures in
    let part = call_part w world c.args.notes.now c.args.script.now x r c.args.asked h m fs _ st notes script at c.requires.asked
    c.requires.ready.inside away refl facts.after in
    let mid = called_host w world c.args.notes.now c.args.script.now x r h m fs x.asked notes script at facts.serving facts.memory
    facts.kept
    in
    let settled = settled_shown w world x r c.args.asked h m fs st c.requires.asked c.in_default.not-Accepted mid in
    taken_at w world c.take.new.self r _ false st (c.take.ensures.at world _ notes settled) part
