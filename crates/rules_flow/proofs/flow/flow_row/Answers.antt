use Rattle.rules_flow.proofs.flow.flow_row.Goals as goal

pub returns-in-Jump-clause-fits : goal.returns-in-Jump-clause-fits
returns-in-Jump-clause-fits c = c.jump_row.ensures.fits c.args.s.now

pub returns-in-Jump8-clause-fits : goal.returns-in-Jump8-clause-fits
returns-in-Jump8-clause-fits c = c.jump8_row.ensures.fits c.args.s.now
