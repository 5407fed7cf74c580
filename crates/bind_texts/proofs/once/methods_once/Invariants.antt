use Rattle.bind_texts.proofs.OnceLaws.{AreSeen}
use Rattle.bind_texts.proofs.once.methods_once.Given as goal

abbrev pub invariant-loop-i : goal.invariant-loop-i
invariant-loop-i l = AreSeen l.binds l.i l.methods.keys
