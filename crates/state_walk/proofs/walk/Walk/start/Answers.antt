use Rattle.std.proofs.Common.{sym, subst}
use Rattle.std.specs.Prelude.{Some}
use Rattle.width_checker.specs.Walks.{ComesTo}
use Rattle.width_checker.proofs.Walking.{comes_start}
use Rattle.state_walk.proofs.Standing.{stands_at}
use Rattle.state_walk.proofs.walk.Walk.start.Goals as goal

pub returns-clause-stands : goal.returns-clause-stands
returns-clause-stands c =
    let w = c.args.self.now in
    stands_at w.image.now w.notes.now w.func w.f.now w.f.now.place (Some c.entry_state-entry.result) c.at.result
    c.at.ensures.insn c.at.ensures.whole c.at.ensures.arrived c.at.ensures.state
    (subst (λ s. ComesTo w.image.now w.notes.now w.func w.f.now w.f.now.place (Some s)) (sym c.entry_state-entry.ensures.value)
    (comes_start w.image.now w.notes.now w.func w.f.now))
