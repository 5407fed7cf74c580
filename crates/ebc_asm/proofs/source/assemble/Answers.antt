use Rattle.std.proofs.Common.{Ok, ap, sym, ◌∙◌}
use Rattle.std.proofs.lemmas.Result.{err_from_is_err_and}
use Rattle.ebc_asm.proofs.SoundLaws.{counted, sound}
use Rattle.ebc_asm.proofs.SourceLaws.{assembled, not_assembled}
use Rattle.ebc_asm.proofs.source.assemble.Goals as goal

pub returns-in_err-assembler-clause-reading : goal.returns-in_err-assembler-clause-reading
returns-in_err-assembler-clause-reading c =
    let p = err_from_is_err_and c.from_residual-in_err-assembler.result c.from_residual-in_err-assembler.ensures.1 in
    rw (p.1, p.2) (not_assembled c.args.source.now c.in_err-assembler.field-0.0 c.in_err-assembler.ensures)

pub returns-clause-reading : goal.returns-clause-reading
returns-clause-reading c =
    let t = c.in_ok-assembler.ensures in
    assembled c.args.source.now t.0 c.in_ok-assembler.assembler t.1.0 t.1.1.0 ∙ ap Ok (sym c.in_ok-into_object.ensures)

pub returns-clause-counted : goal.returns-clause-counted
returns-clause-counted c = λ few fewer. counted c.args.source.now c.in_ok-into_object.field-0 (returns-clause-reading c) few fewer

pub returns-clause-sound : goal.returns-clause-sound
returns-clause-sound c = λ small. sound c.args.source.now c.in_ok-into_object.field-0 (returns-clause-reading c) small
