use Rattle.toml.specs.View.{table_view}
use Rattle.script_draft.proofs.DraftLaws.{draft_meets}
use Rattle.script_draft.proofs.reading.read_draft.Goals as goal

pub returns-clause-meets : goal.returns-clause-meets
returns-clause-meets c = draft_meets (table_view c.args.table.now) c.read_keys.result c.read_keys.ensures
