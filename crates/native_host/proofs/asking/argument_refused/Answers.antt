use Rattle.native_host.proofs.Common.{sym, ◌∙◌}
use Rattle.native_host.proofs.AskingLaws.{refused-past}
use Rattle.native_host.proofs.asking.argument_refused.Goals as goal

pub returns-in_default-clause-refused : goal.returns-in_default-clause-refused
returns-in_default-clause-refused c =
    sym (refused-past c.args.found.now c.args.wanted.now c.loop-k.k c.in_default.ensures.lookup.3) ∙ c.loop-k.invariant
