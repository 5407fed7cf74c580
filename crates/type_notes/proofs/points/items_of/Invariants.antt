use Rattle.std.proofs.Common.{◌≡◌, map, take}
use Rattle.type_notes.specs.Resolved.{resolved_item}
use Rattle.type_notes.proofs.points.items_of.Given as goal

abbrev pub invariant-loop-text : goal.invariant-loop-text
invariant-loop-text l = l.items ≡ map (resolved_item l.names l.fields) (take l.text-index l.texts)
