use Rattle.note_infer.proofs.Common.{◌≡◌, ap, refl, subst, sym, ◌∙◌, IsNotes, Notes, IsVerdict, Points, by_points, by_verdict, points_of}
use Rattle.note_infer.proofs.Common.{States, with_points, state_at}
use Rattle.plain_check.specs.declared.verdict.Verdict.TheVariants.{Neutral, Refused}
use Rattle.note_infer.proofs.{Answering.settled_notes, finder.checked_points.Goals.In_ok-found}
use Rattle.note_infer.proofs.finder.checked_points.Goals as goal

found_is : (c : In_ok-found)
    → c.in_ok-found.found ≡ with_points c.args.notes.now (points_of (state_at c.args.leaders.now c.args.states.now) c.args.leaders.now)
found_is c = c.in_ok-found.ensures ∙ ap (with_points c.args.notes.now) c.in_ok-points.ensures

pub check-requires-clause-notes : goal.check-requires-clause-notes
check-requires-clause-notes c =
    subst IsNotes (sym (found_is (goal.at.check-requires-clause-notes c).In_ok-found))
    (settled_notes c.args.image.now c.args.notes.now c.args.leaders.now (state_at c.args.leaders.now c.args.states.now)
    c.requires.notes c.requires.settled)

pub returns-in-Neutral : goal.returns-in-Neutral
returns-in-Neutral c =
    let found = found_is (goal.at.returns-in-Neutral c).In_ok-found in
    let states : States = state_at c.args.leaders.now c.args.states.now in
    let verdict : IsVerdict c.args.image.now c.in_ok-found.found Neutral =
    subst (IsVerdict c.args.image.now c.in_ok-found.found) c.in-Neutral.is c.in_ok-check.ensures.verdict in
    by_points c.args.leaders.now states c.requires.settled (subst (λ n. IsVerdict c.args.image.now n Neutral) found verdict)
    (ap Points c.points_in.ensures ∙ ap (λ (n : Notes). Points n.point) found)

pub returns-in-Refused : goal.returns-in-Refused
returns-in-Refused c =
    let found = found_is (goal.at.returns-in-Refused c).In_ok-found in
    let states : States = state_at c.args.leaders.now c.args.states.now in
    let refused = Refused c.in-Refused.place c.in-Refused.rule in
    let verdict : IsVerdict c.args.image.now c.in_ok-found.found refused =
    subst (IsVerdict c.args.image.now c.in_ok-found.found) c.in-Refused.is c.in_ok-check.ensures.verdict in
    by_verdict c.args.leaders.now states c.in-Refused.place c.in-Refused.rule c.requires.settled
    (subst (λ n. IsVerdict c.args.image.now n refused) found verdict) refl
