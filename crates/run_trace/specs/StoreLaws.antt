-- For proofs: the law that all is told that an instruction of a run stores. docs/TRACE.md.
use Rattle.std.specs.Prelude.{◌≡◌, ℕ, ◌+◌, ◌<◌, ◌≤◌, ◌⊎◌, false, Option, Some, None, ⊤}
use Rattle.host_model.specs.Placements.{Placement}
use Rattle.host_model.specs.RunState.{RunState}
use Rattle.host_model.specs.Runs.{run_step}
use Rattle.host_model.specs.World.{World}
use Rattle.note_types.specs.Concrete.{IsConcrete}
use Rattle.note_types.specs.declared.ending.Ending.TheVariants.{Running}
use Rattle.twin_run.specs.Watching.{is_hosts_turn}
use Rattle.run_trace.specs.Steps.{next_store}
use Rattle.run_trace.specs.declared.stores.StoreRange.{StoreRange}

-- A byte is none of these.
abbrev pub IsOutside : ℕ → Option StoreRange → Type 0
IsOutside x None = ⊤
IsOutside x (Some range) = (x < range.address) ⊎ (range.address + range.size ≤ x)

-- A step of the machine leaves each byte as it was that isn't told of: it tells of what the instruction stores where the run goes on.
abbrev pub StepsTellStores : Type 0
StepsTellStores =
    (w : ℕ) (world : World) (P : Placement) (r : RunState) → IsConcrete w r.machine → r.ending ≡ Running → is_hosts_turn world r ≡ false
    → let s = run_step w world P r in (x : ℕ) → (s.ending ≡ Running → IsOutside x (next_store w world r))
    → s.machine.byte x ≡ r.machine.byte x
