use Rattle.file_inputs.specs.Linkings.{linked_image}
use Rattle.file_inputs.proofs.ReadsLaws.{reads-then}
use Rattle.file_inputs.proofs.linking.read_linked.Goals as goal

pub returns-clause-reads : goal.returns-clause-reads
unfolding linked_image
returns-clause-reads g c = reads-then _ _ _ _ _ _ _ c.in_ok-plan.plan _ _ _ c.in_ok-plan.ensures.reads c.read_objects_of.ensures.reads
