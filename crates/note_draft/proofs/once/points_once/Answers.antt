use Rattle.std.proofs.Common.{◌≡◌, refl, subst}
use Rattle.note_draft.specs.declared.finding.Refusal.TheVariants.{Twice}
use Rattle.note_texts.specs.Outcome.{Gives}
use Rattle.note_draft.specs.Findings.{refused}
use Rattle.note_draft.specs.Once.{repeated_in_points}
use Rattle.note_draft.proofs.once.points_once.Goals as goal

pub returns : goal.returns
unfolding repeated_in_points
returns c =
    let first : c.sooner-first.result ≡ repeated_in_points c.args.points.now =
    rw (c.sooner-first.ensures, c.at.ensures, c.at-2.ensures, c.first_repeating_register-regs.ensures, c.in_ok-places.ensures) refl in
    subst (λ found. Gives c.refuse.result (refused Twice found)) first c.refuse.ensures
