use Rattle.std.proofs.Common.{arith}
use Rattle.note_texts.proofs.Counts.{count_beside-within}
use Rattle.note_texts.proofs.row.Row.texts_beside.Goals as goal

pub returns-clause-within : goal.returns-clause-within
returns-clause-within g c =
    let h = count_beside-within c.args.beside.now c.in_ok-values.values.now c.args.limit (rw (← c.count_beside.ensures) (omega arith)) in
    grind (arith, h)
