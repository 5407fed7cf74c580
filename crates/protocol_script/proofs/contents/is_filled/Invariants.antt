use Rattle.protocol_script.proofs.Common.{all_settled}
use Rattle.protocol_script.proofs.FilledLaws.{AllBelow}
use Rattle.protocol_script.proofs.contents.is_filled.Given as goal

abbrev pub invariant-loop-instance : goal.invariant-loop-instance
invariant-loop-instance l = AllBelow (all_settled l.fields l.cells) l.instance
