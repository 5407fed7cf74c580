use Rattle.type_notes.proofs.PastLemmas.{code_limit-small}
use Rattle.type_notes.proofs.conditions.too_large.Goals as goal

pub first_past-code-requires : goal.first_past-code-requires
first_past-code-requires c = rw c.code_limit.ensures (code_limit-small c.args.draft.now.version)
