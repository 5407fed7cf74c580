use Rattle.std.proofs.Common.{◌≡◌, rules, ◌%◌, nat_eq}
use Rattle.std.proofs.lemmas.Bool.Decides.{Decides-at}
use Rattle.note_types.proofs.BelowLaws.{Decides-divides}
use Rattle.note_types.specs.BelowTests.{divides}
use Rattle.note_types.proofs.below.divides.Goals as goal

pub returns-then-d-eq0-clause-meaning : goal.returns-then-d-eq0-clause-meaning
returns-then-d-eq0-clause-meaning c =
    let value : nat_eq c.args.x 0 ≡ divides c.args.d c.args.x = search rules in
    Decides-at _ _ value (Decides-divides _ _)

pub returns-else-d-eq0-clause-meaning : goal.returns-else-d-eq0-clause-meaning
returns-else-d-eq0-clause-meaning c =
    let value : nat_eq (c.args.x % c.args.d) 0 ≡ divides c.args.d c.args.x = search rules in
    Decides-at _ _ value (Decides-divides _ _)
