use Rattle.printed_texts.proofs.HexLaws.{wild_value}
use Rattle.printed_texts.proofs.value.ShownValueDisplay.fmt.Goals as goal

pub returns-in-Wild-clause-writes : goal.returns-in-Wild-clause-writes
returns-in-Wild-clause-writes g c = λ plain fine.
    rw (c.in-Wild.is, ← wild_value c.args.self.now.notes.now c.in-Wild.number) (c.fmt-in-Wild.ensures.writes plain fine)
