use Rattle.protocol_script.proofs.Common.{◌≡◌, drop, length, made_objects, all_pass, call_passes, calls_pass}
use Rattle.protocol_script.proofs.tables.calls_pass.Given as goal

abbrev pub invariant-loop-i : goal.invariant-loop-i
invariant-loop-i l = record {
  so_far :
      all_pass (λ i c. call_passes l.trial.condition l.trial.notes.now l.trial.made.now
      (length (made_objects l.trial.notes.now l.script i)) i c) l.i (drop l.i l.calls)
      ≡ calls_pass l.trial.condition l.trial.notes.now l.script l.trial.made.now;
  count : l.first ≡ length (made_objects l.trial.notes.now l.script l.i);
}
