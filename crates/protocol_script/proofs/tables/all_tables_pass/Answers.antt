use Rattle.protocol_script.proofs.Common.{ap, arith, length}
use Rattle.protocol_script.proofs.ObjectLaws.{count-start, count-within}
use Rattle.protocol_script.proofs.tables.all_tables_pass.Goals as goal

pub tables_pass-requires : goal.tables_pass-requires
tables_pass-requires c =
    let n = ap length c.requires.made in
    let w = count-within c.args.trial.notes.now c.args.script.now 0 in
    let s = count-start c.args.trial.notes.now c.args.script.now in
    let o = ap length c.as_slice.ensures in
    omega (arith, n, w, s, o, c.len-first.ensures)
