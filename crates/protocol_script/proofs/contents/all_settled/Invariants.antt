use Rattle.protocol_script.proofs.Common.{is_settled}
use Rattle.protocol_script.proofs.FilledLaws.{AllBelow}
use Rattle.protocol_script.proofs.contents.all_settled.Given as goal

abbrev pub invariant-loop-field : goal.invariant-loop-field
invariant-loop-field l = AllBelow (is_settled l.fields l.cells l.instance) l.field
