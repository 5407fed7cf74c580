use Rattle.twin_run.proofs.Common.{ap, ◌∙◌, arith, length, map, refl, mapped, written_number, made_objects, Placement, own_placement}
use Rattle.twin_run.proofs.Common.{stack_end, world_of}
use Rattle.twin_run.proofs.BeginningLaws.{begins, begun, begun_at, entry_within, few_args, numbers_count, outset, room_begins}
use Rattle.twin_run.proofs.TurnLaws.{quiet_none}
use Rattle.twin_run.proofs.runner.start.Goals as goal

pub numbers_of-numbers-requires : goal.numbers_of-numbers-requires
numbers_of-numbers-requires g c =
    (omega arith, (c.requires.width, few_args c.args.notes.now c.args.script.now c.requires.notes c.requires.script))

pub enter-requires : goal.enter-requires
enter-requires g c =
    let host = c.in_ok-host.ensures in
    let numbers = c.numbers_of-numbers.ensures c.args.notes.now host.serving.host.notes in
    let each = numbers_count c.args.notes.now c.args.script.now _ c.as_slice.result.now c.numbers_of-numbers.result.items c.requires.script
    c.as_slice.ensures.value numbers in
    let none = ap length c.in_ok-frames.ensures in (
      omega arith,
      (
        c.requires.width,
        (
          c.requires.notes,
          (
            entry_within c.args.notes.now c.requires.notes,
            (
              each,
              (
                refl,
                omega
                    (arith, none),
              ),
            ),
          ),
        ),
      ),
    )

pub returns-clause-start : goal.returns-clause-start
returns-clause-start g c =
    let w = g.row.W in
    let image = c.args.image.now in
    let notes = c.args.notes.now in
    let script = c.args.script.now in
    let world = world_of image notes script in
    let P = own_placement w world in
    let host = c.in_ok-host.ensures in
    let placement = host.host.placement in
    let base = ap (λ (Q : Placement). Q.native) placement in
    let top = c.stack_end.ensures notes host.serving.host.notes ∙ ap (stack_end w notes) placement in
    let machine = begins w world P (mapped image P.image) _ c.in_ok-host.mem c.stack_end.result host.state top c.stack_end.type_inv refl
    (c.gate.ensures ∙ base) refl (c.gate-2.ensures ∙ base) in
    let begins_at = begun_at w world (mapped image P.image) _ host.serving host.host refl host.memory machine c.in_ok-frames.ensures refl
    host.entries host.notifications host.thunks host.trace refl refl in
    let made = host.host.made ∙ ap (made_objects notes script) host.entries in
    let are = c.as_slice.ensures.value
    ∙ (c.numbers_of-numbers.ensures notes host.serving.host.notes
    ∙ (λ i. map (written_number w notes (placement i) (made i)) script.args)) in
    begun w image notes script c.enter.new.self c.as_slice.result.now
    (c.enter.ensures.at world (outset w world P (mapped image P.image)) refl begins_at) are
    (quiet_none script c.enter.new.self c.enter.ensures.quiet)
    (room_begins w script c.enter.new.self.host c.in_ok-host.host c.enter.ensures.host host.room)
