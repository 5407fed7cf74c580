use Rattle.std.proofs.Common.{arith}
use Rattle.std.proofs.lemmas.Grind.{common_steps}
use Rattle.ebc_outside.proofs.mem_folder.MemFolderFolder.write.Goals as goal

pub returns-clause-listed : goal.returns-clause-listed
returns-clause-listed c = λ listed. absurd (grind (arith, common_steps, c.contains.ensures.value, c.self.view_is))

pub returns-in_err-insert-clause-listed : goal.returns-in_err-insert-clause-listed
returns-in_err-insert-clause-listed c = λ listed. absurd (grind (arith, common_steps, c.contains.ensures.value, c.self.view_is))
