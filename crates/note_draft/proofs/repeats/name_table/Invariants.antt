use Rattle.std.specs.Prelude.{bytes_eq}
use Rattle.note_draft.proofs.RepeatLaws.{IsSeen}
use Rattle.note_draft.proofs.repeats.name_table.Given as goal

abbrev pub invariant-loop-number : goal.invariant-loop-number
invariant-loop-number g l = IsSeen bytes_eq g.T.Named.name l.items l.number l.names
