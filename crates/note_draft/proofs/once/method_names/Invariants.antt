use Rattle.std.proofs.Common.{◌≡◌, take}
use Rattle.note_draft.specs.Names.{distinct}
use Rattle.note_draft.proofs.MethodLemmas.{methods_of}
use Rattle.note_draft.proofs.once.method_names.Given as goal

abbrev pub invariant-loop-i : goal.invariant-loop-i
invariant-loop-i l = l.names ≡ distinct (methods_of (take l.i l.signatures))
