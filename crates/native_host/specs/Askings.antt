-- For proofs: what a call instruction asks for, which the code has in an enum. docs/HOST.md, "Steps", on the call step.
use Rattle.host_model.specs.HostPlans as plans
use Rattle.native_host.specs.declared.asking.Asking.{Asking}
use Rattle.native_host.specs.declared.asking.Asking.TheVariants as asking

abbrev pub asking_of : Asking → plans.Asking
asking_of asking.NoSite = plans.NoSite
asking_of (asking.Unmapped g) = plans.Unmapped g
asking_of (asking.Asks g elsewhere args) = plans.Asks g elsewhere args
