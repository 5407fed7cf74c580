use Rattle.protocol_script.proofs.Common.{◌≡◌, ◌+◌, drop, all_pass, table_passes, tables_pass}
use Rattle.protocol_script.proofs.tables.tables_pass.Given as goal

abbrev pub invariant-loop-i : goal.invariant-loop-i
invariant-loop-i l =
    all_pass (λ i o. table_passes l.trial.condition l.trial.notes.now l.trial.made.now l.path (l.first + i) i o) l.i (drop l.i l.objects)
    ≡ tables_pass l.trial.condition l.trial.notes.now l.trial.made.now l.path l.first l.objects
