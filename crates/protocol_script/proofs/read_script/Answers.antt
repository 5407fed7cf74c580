use Rattle.protocol_script.proofs.RecordLaws.{gives-script}
use Rattle.protocol_script.proofs.read_script.Goals as goal

pub returns-clause-meets : goal.returns-clause-meets
returns-clause-meets c =
    gives-script c.args.notes.now c.in_ok-draft.draft c.script_in.result c.in_ok-draft.ensures.meets c.script_in.ensures
