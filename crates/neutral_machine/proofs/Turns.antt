-- The host sees something where the step is its own.
use Rattle.neutral_machine.proofs.Common.{◌≡◌, ℕ, Bool, true, false, List, [], ◌∷◌, nat_eq, length, Some, None, refl, if◌then◌else◌}
use Rattle.neutral_machine.proofs.Common.{none-some, Spot, IsDue, is_due, host_view, NoCall, Accepted, Neutral}
use Rattle.std.proofs.Common.{is_some}
use Rattle.host_model.specs.{HostPlans.host_turn, HostSteps.call_under_way, HostSteps.call_seen, HostSteps.return_seen, Progress.NativeCall}
use Rattle.host_model.specs.{Progress.Asked, Progress.is_empty, RunState.SavedFrame}
use Rattle.neutral_machine.specs.{NeutralRuns.is_gate, TurnLaw.TurnIsSeen, TurnLaw.SeenIsTurn}
use Rattle.note_types.specs.declared.spot.Spot.TheVariants as spot
use Rattle.neutral_machine.specs.Config as config
use Rattle.neutral_machine.specs.NeutralHost as neutral

pub turn_is_seen : TurnIsSeen
unfolding host_view
turn_is_seen w world P r there = by_gate (nat_eq r.machine.ip r.machine.gate)
  where
    by_due : (b : Bool) → is_some (if b then Some (IsDue (length r.hosts)) else None) ≡ b
    by_due true = refl
    by_due false = refl

    by_call : (call : NativeCall ℕ) → is_some (call_seen w world P r call) ≡ host_turn false call (is_due world.script r.script)
    by_call NoCall = by_due (is_due world.script r.script)
    by_call (Asked place target) = refl
    by_call (Accepted entry callbacks slots) = refl

    returns : (hosts : List SavedFrame) → is_empty hosts ≡ false → is_some (return_seen w world P r hosts) ≡ true
    returns [] e = absurd (cc)
    returns (f ∷ fs) e = refl

    by_gate : (b : Bool) → is_some (if b then return_seen w world P r r.hosts
        else call_seen w world P r (call_under_way r.hosts)) ≡ host_turn b (call_under_way r.hosts) (is_due world.script r.script)
    by_gate true = returns r.hosts there
    by_gate false = by_call (call_under_way r.hosts)

pub seen_is_turn : SeenIsTurn
unfolding neutral.host_view
seen_is_turn world a v seen = by_spot a.spot seen
  where
    by_due : (b : Bool) → (if b then Some (IsDue (length (config.hosts a.frames))) else None) ≡ Some v → b ≡ true
    by_due true e = refl
    by_due false e = absurd (none-some v e)

    by_call : (call : NativeCall Neutral) → neutral.call_seen world a call ≡ Some v
        → host_turn false call (is_due world.script a.script) ≡ true
    by_call NoCall e = by_due (is_due world.script a.script) e
    by_call (Asked place target) e = refl
    by_call (Accepted entry callbacks slots) e = refl

    by_spot : (s : Spot) → neutral.host_view world a s ≡ Some v
        → host_turn (is_gate s) (config.call_under_way a.frames) (is_due world.script a.script) ≡ true
    by_spot spot.Gate e = refl
    by_spot (spot.Place p) e = by_call (config.call_under_way a.frames) e
    by_spot (spot.Wild x) e = by_call (config.call_under_way a.frames) e
