use Rattle.std.proofs.Common.{◌≡◌, drop}
use Rattle.bind_texts.specs.BindTexts.{bind_passes}
use Rattle.script_draft.specs.Lists.{all_pass}
use Rattle.bind_texts.proofs.agreeing.all_agree.Given as goal

abbrev pub invariant-loop-i : goal.invariant-loop-i
invariant-loop-i l = all_pass (bind_passes l.a l.b) l.i (drop l.i l.binds) ≡ all_pass (bind_passes l.a l.b) 0 l.binds
