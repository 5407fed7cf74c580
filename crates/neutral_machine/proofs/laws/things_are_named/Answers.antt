use Rattle.neutral_machine.proofs.NamedThings.{things_are_named}
use Rattle.neutral_machine.proofs.laws.things_are_named.Goals as goal

pub returns : goal.returns
returns c = things_are_named
