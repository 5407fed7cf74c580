use Rattle.native_host.proofs.Common.{◌+◌, ◌*◌, ap, ap₂, ◌∙◌}
use Rattle.host_model.specs.Values.{word}
use Rattle.native_host.proofs.KeptLaws.{instance-is, word-sum}
use Rattle.native_host.proofs.host.Host.instance_address.Goals as goal

pub returns : goal.returns
returns g c w notes of =
    word-sum c.object_base-base.result (c.args.instance * c.size_of-size.result)
    ∙ ap word (ap₂ (λ b n. b + c.args.instance * n) c.object_base-base.ensures c.size_of-size.ensures
    ∙ instance-is w notes c.args.self.now.places c.args.self.now.made.items c.args.object c.args.instance of)
