use Rattle.link_laws.proofs.Loaded.{linked_loads}
use Rattle.link_laws.proofs.linked_images_load.Goals as goal

-- src/lib.rt:16:1
pub returns : goal.returns
returns c = record { loads = linked_loads }
