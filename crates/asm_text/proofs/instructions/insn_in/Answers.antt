use Rattle.std.proofs.Common.{rules}
use Rattle.asm_text.specs.Mnemonics.{FormFits}
use Rattle.asm_text.proofs.Fitting.{held_fits}
use Rattle.asm_text.proofs.instructions.insn_in.Goals as goal

pub returns-clause-fits : goal.returns-clause-fits
returns-clause-fits c =
    let fits : FormFits c.in_ok-form.form = search rules in
    held_fits c.in_ok-form.form c.word_part.result.1.now c.insn_of.result fits c.insn_of.ensures
