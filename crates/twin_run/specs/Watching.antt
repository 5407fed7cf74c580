-- For proofs: what is seen of a run between its steps. docs/HOST.md, "Steps"; docs/MACHINE.md, "The state".
use Rattle.std.specs.Prelude.{◌%◌, Bool, nat_eq}
use Rattle.host_model.specs.HostPlans.{host_turn, is_due}
use Rattle.host_model.specs.HostSteps.{call_under_way}
use Rattle.host_model.specs.RunState.{RunState}
use Rattle.host_model.specs.World.{World}
use Rattle.note_types.specs.Concrete.{Concrete}

-- whether the next step of a run that goes on is the host's, and not the machine's
abbrev pub is_hosts_turn : World → RunState → Bool
is_hosts_turn world r = host_turn (nat_eq r.machine.ip r.machine.gate) (call_under_way r.hosts) (is_due world.script r.script)

-- whether the flag C is set. UEFI specification, chapter "EFI Byte Code Virtual Machine", section "Virtual Machine Registers".
abbrev pub has_c : Concrete → Bool
has_c s = nat_eq (s.flags % 2) 1
