use Rattle.std.proofs.Common.{arith}
use Rattle.std.proofs.lemmas.Grind.{common_steps}
use Rattle.ebc_outside.proofs.mem_folder.MemFolderFolder.read.Goals as goal

pub returns-clause-listed : goal.returns-clause-listed
returns-clause-listed c = λ listed. absurd (grind (arith, common_steps, c.contains-fails.ensures.value, c.self.view_is))
