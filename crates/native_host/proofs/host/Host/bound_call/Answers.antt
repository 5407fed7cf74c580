use Rattle.native_host.proofs.Common.{refl, ap, ◌∙◌, slots_asked, Asked, bound_step, placement_of}
use Rattle.native_host.proofs.BoundLaws.{asking_state, asking_world, called-count, hosts-asked}
use Rattle.native_host.proofs.host.Host.bound_call.Goals as goal

pub returns-clause-called : goal.returns-clause-called
returns-clause-called g c world r same zero objects byte made =
    called-count g.row.W world (placement_of c.args.self.now.places) r c.args.place c.args.target
    c.args.notes.now c.bound_step.result same
    (c.bound_step.ensures ∙ ap (bound_step c.args.place) (c.asking-asking.ensures.asks world r same zero objects byte made))

pub returns-clause-hosts : goal.returns-clause-hosts
returns-clause-hosts g c call =
    hosts-asked c.args.frames.now c.asking-asking.new.frames
    (slots_asked g.row.W (asking_world c.args.notes.now) (asking_state c.args.mem.now c.args.r0)
    (Asked c.args.place c.args.target)) call
    (c.asking-asking.ensures.slots (asking_world c.args.notes.now) (asking_state c.args.mem.now c.args.r0) refl refl refl
    refl)
