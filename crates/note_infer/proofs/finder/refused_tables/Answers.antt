use Rattle.note_infer.proofs.Common.{refl, subst, IsVerdict, by_tables}
use Rattle.note_infer.proofs.finder.refused_tables.Goals as goal

pub returns : goal.returns
returns c =
    by_tables c.in-Refused.place c.in-Refused.rule c.requires.tables
    (subst (IsVerdict c.args.image.now c.args.notes.now) c.in-Refused.is c.in_ok-place.ensures.verdict) refl
