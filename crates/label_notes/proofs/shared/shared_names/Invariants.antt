use Rattle.std.proofs.Common.{take}
use Rattle.label_notes.proofs.SharedLaws.{AreSoFar}
use Rattle.label_notes.proofs.shared.shared_names.Given as goal

abbrev pub invariant-loop-label : goal.invariant-loop-label
invariant-loop-label l = AreSoFar (take l.label-index l.labels) l.names.all l.names.shared
