use Rattle.std.proofs.Common.{ap, arith, length, subst, sym, ◌+◌, ◌^◌, ◌<◌}
use Rattle.ebc_width.proofs.Laws.{by_width}
use Rattle.object_memory.specs.Memory.{first_base, padded, ranges}
use Rattle.run_trace.specs.Walks.{AreInRow}
use Rattle.run_trace.proofs.ChangedLaws.{IsChanging, changing-on, changing-over, changing-past, changing-starts}
use Rattle.run_trace.proofs.RunnerLaws.{runner-in-row}
use Rattle.run_trace.proofs.changed.append_changed.Goals as goal

pub loop-new-init : goal.loop-new-init
loop-new-init g c = (
  subst (λ b. b < 2 ^ 64) (sym c.first_base-base.ensures)
      (by_width (λ v. first_base v < 2 ^ 64) g.row.W c.requires.width (omega arith) (omega arith)),
  changing-starts g.row.W c.args.notes.now c.args.before.now c.args.runner.now c.first_base-base.result c.args.out.now.items
      (subst (λ b. AreInRow b (ranges c.args.runner.now.mem)) (sym c.first_base-base.ensures)
      (runner-in-row g.row.W c.args.runner.now c.requires.runs c.requires.width)),
)

pub append_told-requires : goal.append_told-requires
append_told-requires g c =
    let few = c.loop-new.invariant.1.few in
    let small = c.loop-new.invariant.0 in (omega (arith, few), (omega (arith, few, small), c.requires.statics))

pub returns-in_default-next_base : goal.returns-in_default-next_base
returns-in_default-next_base g c =
    let runs = c.requires.runs in
    changing-past g.row.W c.args.notes.now c.args.before.now c.args.runner.now
    (c.loop-new.base + padded (length c.in-Some.new.now)) (c.loop-new.object + 1) c.args.out.now.items c.append_told.new.out.items
    c.requires.width
    (changing-on g.row.W c.args.notes.now c.args.before.now c.args.runner.now c.loop-new.base c.loop-new.object c.args.out.now.items
    c.loop-new.out.items c.append_told.new.out.items c.in-Some.new.now runs.world runs.state runs.is c.loop-new.invariant.1
    c.in-Some.ensures.found (λ less. ap (λ v. v.items) (c.in_ok-append_told.ensures.untold less)) c.in_ok-append_told.ensures.told)
    c.in_default-next_base.ensures.past

pub loop-new-preserved : goal.loop-new-preserved
loop-new-preserved g c =
    let runs = c.requires.runs in
    let on = subst (λ b. IsChanging c.args.notes.now c.args.before.now c.args.runner.now b (c.loop-new.object + 1) c.args.out.now.items
    c.append_told.new.out.items) (sym c.in-Some-next_base.ensures.next)
    (changing-on g.row.W c.args.notes.now c.args.before.now c.args.runner.now c.loop-new.base c.loop-new.object c.args.out.now.items
    c.loop-new.out.items c.append_told.new.out.items c.in-Some.new.now runs.world runs.state runs.is c.loop-new.invariant.1
    c.in-Some.ensures.found (λ less. ap (λ v. v.items) (c.in_ok-append_told.ensures.untold less)) c.in_ok-append_told.ensures.told) in
    (omega arith, on)

pub returns : goal.returns
returns g c = λ image world r s read size began is.
    changing-over g.row.W c.args.notes.now c.args.before.now c.args.runner.now c.loop-new.base c.loop-new.object c.args.out.now.items
    c.loop-new.out.items c.loop-new.invariant.1 c.in_default.ensures.none world r s began is
