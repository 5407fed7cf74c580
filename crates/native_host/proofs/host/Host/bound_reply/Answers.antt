use Rattle.native_host.proofs.BoundLaws.{hosts-answered}
use Rattle.native_host.proofs.host.Host.bound_reply.Goals as goal

pub returns-clause-hosts : goal.returns-clause-hosts
returns-clause-hosts g c call = hosts-answered c.args.frames.now c.set_mark.new.self call c.set_mark.ensures.after
