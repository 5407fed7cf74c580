use Rattle.ebc_disasm.proofs.Fits.{made_fits, may_takes}
use Rattle.ebc_disasm.proofs.items.with_label.Goals as goal

pub returns-in-Some-clause-fits : goal.returns-in-Some-clause-fits
returns-in-Some-clause-fits c =
    made_fits c.args.i.now c.without_immediate.result c.in-Some.target c.requires.spelled
    (may_takes c.args.i.now c.args.label c.in-Some.target c.in-Some.is c.requires.label) c.without_immediate.ensures
