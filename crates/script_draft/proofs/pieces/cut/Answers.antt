use Rattle.script_draft.proofs.PieceLaws.{cut-found}
use Rattle.script_draft.proofs.pieces.cut.Goals as goal

pub returns : goal.returns
returns c = cut-found c.args.text.now c.split_once.result c.split_once.ensures.cases
