use Rattle.twin_run.proofs.Common.{◌≡◌, ◌∙◌, List, ℕ, ap, arith, length, refl, subst, length-map, Seen, written_number, placement_of}
use Rattle.twin_run.proofs.Common.{entered, own_placement, false, IsRunner}
use Rattle.twin_run.proofs.{BoundLaws.enters_first, HostingLaws.numbers_there, TurnLaws.quiet_at}
use Rattle.twin_run.proofs.runner.Runner.enter_first.Goals as goal

pub returns-clause-runner : goal.returns-clause-runner
returns-clause-runner g c = λ world r notes rests.
    let w = g.row.W in
    let x = c.args.self.now in
    let nums = c.as_slice.result.now in
    let numbers = numbers_there w world x r c.args.args.now nums rests.at
    (c.as_slice.ensures.value ∙ c.argument_numbers-numbers.ensures world.notes rests.at.serving.host.notes) in
    let y = record c.enter.new.self { quiet = 0 } in
    subst (λ (xs : List ℕ). IsRunner w world y (entered false w world (own_placement w world) r c.args.func xs)) numbers
    (enters_first w world x y r c.args.func nums rests c.enter.ensures.host refl
    (quiet_at w world c.enter.new.self _ 0 (c.enter.ensures.at world r notes rests.at)))

pub enter-requires : goal.enter-requires
enter-requires g c =
    let are = c.as_slice.ensures.value ∙ c.argument_numbers-numbers.ensures c.args.notes.now c.requires.kept in
    let count : length c.as_slice.result.now ≡ length c.args.args.now = ap length are ∙ length-map (λ (s : Seen). written_number g.row.W
    c.args.notes.now (placement_of c.args.self.now.host.places) c.args.self.now.host.made.items s.value) c.args.args.now in
    let none = ap length c.requires.outside in (
      omega arith,
      (
        c.requires.width,
        (
          c.requires.notes,
          (
            c.requires.func,
            (
              count ∙ c.requires.each,
              (
                c.requires.settled,
                omega (
                  arith,
                  none,
                ),
              ),
            ),
          ),
        ),
      ),
    )
