use Rattle.protocol_script.proofs.ReadLaws.{read_names}
use Rattle.protocol_script.proofs.laws.read_names_are_given.Goals as goal

pub returns : goal.returns
returns c = read_names
