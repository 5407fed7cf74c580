use Rattle.note_infer.proofs.Common.{◌≡◌, take}
use Rattle.note_infer.proofs.copies.copy_signatures.Given as goal

abbrev pub invariant-loop-signature : goal.invariant-loop-signature
invariant-loop-signature l = l.copy.items ≡ take l.signature-index l.signatures
