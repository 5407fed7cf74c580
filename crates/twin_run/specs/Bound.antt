-- For proofs: what a run has beside its steps where its image is one of two on one host. docs/PAIRS.md, "The rules".
use Rattle.std.specs.Prelude.{◌≡◌, ℕ, ◌+◌, ◌≤◌, true, [], length, Option, Some, None, vec_capacity, ⊤}
use Rattle.host_model.specs.HostPlans.{View, Calls, Returns}
use Rattle.host_model.specs.RunState.{RunState}
use Rattle.host_model.specs.World.{World}
use Rattle.twin_run.specs.Room.{events_left}
use Rattle.twin_run.specs.Runner.{IsAt}
use Rattle.twin_run.specs.declared.runner.Runner.{Runner}

-- the place of the call that the host sees, where it sees one that is asked for
abbrev pub place_called : Option View → Option ℕ
place_called (Some (Calls place asking)) = Some place
place_called _ = None

-- The host doesn't see that the first function has returned.
abbrev pub IsNoFirstReturn : Option View → Type 0
IsNoFirstReturn (Some (Returns true f v)) = ⊥
IsNoFirstReturn _ = ⊤

-- A runner rests at a state of a run: no function is entered, and there is room for all events that may still come once one is.
pub record Rests (w : ℕ) (world : World) (x : Runner w) (r : RunState) : Type 0 where
  pub at : IsAt w world x r
  pub outside : x.frames ≡ []
  pub settled : x.asked ≡ None
  pub room : 1 + (length r.trace + events_left world.script r) ≤ vec_capacity x.host.trace
