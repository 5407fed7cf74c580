-- For proofs: the law of turns: the host sees something where the step is its own. docs/HOST.md, "Steps".
use Rattle.std.specs.Prelude.{◌≡◌, ℕ, true, false, nat_eq, Some, is_some}
use Rattle.neutral_machine.specs.Config.{Config}
use Rattle.neutral_machine.specs.Config as config
use Rattle.host_model.specs.HostPlans.{View, host_turn, is_due}
use Rattle.host_model.specs.HostSteps.{call_under_way, host_view}
use Rattle.neutral_machine.specs.NeutralHost as neutral
use Rattle.neutral_machine.specs.NeutralRuns.{is_gate}
use Rattle.host_model.specs.Placements.{Placement}
use Rattle.host_model.specs.Progress.{is_empty}
use Rattle.host_model.specs.RunState.{RunState}
use Rattle.host_model.specs.World.{World}

-- While the host has a frame, it sees something exactly where the step is its own.
abbrev pub TurnIsSeen : Type 0
TurnIsSeen =
    (w : ℕ) (world : World) (P : Placement) (r : RunState) → is_empty r.hosts ≡ false
    → is_some (host_view w world P r)
    ≡ host_turn (nat_eq r.machine.ip r.machine.gate) (call_under_way r.hosts) (is_due world.script r.script)

-- In the neutral machine, which may be stuck, it sees something only where the step is its own.
abbrev pub SeenIsTurn : Type 0
SeenIsTurn =
    (world : World) (a : Config) (v : View) → neutral.host_view world a a.spot ≡ Some v
    → host_turn (is_gate a.spot) (config.call_under_way a.frames) (is_due world.script a.script) ≡ true
