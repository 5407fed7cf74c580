use Rattle.std.proofs.Common.{sym, ◌∙◌}
use Rattle.std.proofs.lemmas.Result.{IfOk-weaker}
use Rattle.explain.proofs.HeadLaws.{begins-unnamed}
use Rattle.explain.proofs.outcomes.bad_file_lines.Goals as goal

pub returns-then-names_objects-clause-begins : goal.returns-then-names_objects-clause-begins
returns-then-names_objects-clause-begins c =
    IfOk-weaker c.place_lines.result _ _ (λ told _. begins-unnamed _ _ told (sym c.names_objects.ensures ∙ c.if-names_objects.true))
    c.place_lines.ensures.begins
