use Rattle.link_laws.proofs.OneLinked.{linked_is_one}
use Rattle.link_laws.proofs.linked_images_are_one.Goals as goal

pub returns : goal.returns
returns c = record { one = linked_is_one }
