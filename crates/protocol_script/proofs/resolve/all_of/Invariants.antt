use Rattle.protocol_script.proofs.Common.{◌≡◌, drop, all_of, onto}
use Rattle.protocol_script.proofs.resolve.all_of.Given as goal

abbrev pub invariant-loop-text : goal.invariant-loop-text
invariant-loop-text g l =
    onto l.values.items (all_of (g.T.Resolve.resolved l.scope.notes.now l.scope.fields.now l.scope.shapes.now) (drop l.text-index l.texts))
    ≡ all_of (g.T.Resolve.resolved l.scope.notes.now l.scope.fields.now l.scope.shapes.now) l.texts
