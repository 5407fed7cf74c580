-- What a side of a pair goes on standing for: by the reply to a bound call and by resting; and that nothing is seen at a width
-- where nothing is seen in the neutral machine.
use Rattle.pair_laws.proofs.Common.{◌≡◌, ℕ, ◌-◌, ◌≤◌, Bool, true, false, if◌then◌else◌, nat_eq, List, [], ◌∷◌, length, Option, Some, None}
use Rattle.pair_laws.proofs.Common.{option_map, refl, sym, ap, ◌∙◌, true≢false, none-some, some_of_map, TopHost, Returns, Calls, GoesOn}
use Rattle.pair_laws.proofs.Common.{IsDue, host_plan, host_turn, is_due, Placement, stack_bytes, NativeCall, NoCall, Asked, Accepted}
use Rattle.pair_laws.proofs.Common.{one_instruction, RunState, Neutral, World, world_meets, Config, Frame, Function, Host, hosts}
use Rattle.pair_laws.proofs.Common.{call_under_way, total, neutral_instruction, is_gate, step_if, neutral_step, Stands, IsValue}
use Rattle.pair_laws.proofs.Common.{neutral_bound_reply, Spot, Ty, Value, value_given, bound_reply, mapped, Image}
use Rattle.ebc_width.specs.Ranges.{covers}
use Rattle.host_laws.proofs.{Marks.machine_told, Replies.marks_show, Replies.reply_stands}
use Rattle.host_model.specs.{Placements.image_range, Values.Addresses}
use Rattle.neutral_machine.specs.{Layout.addresses, Stands.CallShows}
use Rattle.step_sound.specs.StepLaw.{IsRunAt}
use Rattle.host_model.specs.HostSteps as width
use Rattle.neutral_machine.specs.NeutralHost as neutral
use Rattle.note_types.specs.declared.ending.Ending.TheVariants as ending
use Rattle.note_types.specs.declared.event.Event.TheVariants as event
use Rattle.note_types.specs.declared.spot.Spot.TheVariants as spot
use Rattle.note_types.specs.declared.value.Value.TheVariants as value

-- ---- what is seen where a function has returned

-- off the gate the host sees no function that has returned
pub no_return : (world : World) (a : Config) (c : NativeCall Neutral) (first : Bool) (f : ℕ) (v : Value)
    → neutral.call_seen world a c ≡ Some (Returns first f v) → ⊥
no_return world a NoCall first f v e = by_due (is_due world.script a.script) e
  where
    by_due : (t : Bool) → (if t then Some (IsDue (length (hosts a.frames))) else None) ≡ Some (Returns first f v) → ⊥
    by_due true e = cc
    by_due false e = none-some _ e
no_return world a (Asked q t) first f v e =
    let x = some_of_map (Calls q) (neutral.asking_at world a q t) (Returns first f v) e in cc
no_return world a (Accepted n k vs) first f v e = by_lent (neutral.lent_there world a.frames n vs) e
  where
    by_lent : (t : Bool)
        → (if t then Some (GoesOn n k (length (hosts a.frames)) (neutral.writes_there world a n)) else None) ≡ Some (Returns first f v) → ⊥
    by_lent true e = cc
    by_lent false e = none-some _ e

-- where it sees one, the frame on top is one of the host
pub returns_top : (world : World) (a : Config) (s : Spot) (first : Bool) (f : ℕ) (v : Value)
    → neutral.host_view world a s ≡ Some (Returns first f v) → TopHost a
unfolding neutral.host_view
returns_top world a spot.Gate first f v e = go a.frames refl e
  where
    go : (fs : List Frame) → a.frames ≡ fs → neutral.return_seen world a fs ≡ Some (Returns first f v) → TopHost a
    go [] at e = absurd (none-some _ e)
    go (Function g ∷ fs) at e = absurd (none-some _ e)
    go (Host h ∷ fs) at e = record { frame = h; rest = fs; is = at }
returns_top world a (spot.Place p) first f v e = absurd (no_return world a (call_under_way a.frames) first f v e)
returns_top world a (spot.Wild x) first f v e = absurd (no_return world a (call_under_way a.frames) first f v e)

-- ---- what is seen at an instruction

-- where it isn't the host's turn, there is no gate and no native call, and no notification is due
turn_parts : (g : Bool) (c : NativeCall Neutral) (due : Bool) → host_turn g c due ≡ false → (g ≡ false) × (c ≡ NoCall) × (due ≡ false)
turn_parts true c due e = absurd (true≢false e)
turn_parts false NoCall due e = (refl, refl, e)
turn_parts false (Asked p t) due e = absurd (true≢false e)
turn_parts false (Accepted n k vs) due e = absurd (true≢false e)

off_gate : (b c : Bool) (x y : ℕ) → is_gate (if b then spot.Gate else if c then spot.Place x else spot.Wild y) ≡ false → b ≡ false
off_gate true c x y e = absurd (true≢false e)
off_gate false c x y e = refl

unmarked : (w : ℕ) (A : Addresses) (c : NativeCall Neutral) (d : NativeCall ℕ) → c ≡ NoCall → CallShows w A c d → d ≡ NoCall
unmarked w A NoCall NoCall e s = refl
unmarked w A NoCall (Asked p x) e s = absurd s
unmarked w A NoCall (Accepted n k xs) e s = absurd s
unmarked w A (Asked p v) d e s = absurd (cc)
unmarked w A (Accepted n k vs) d e s = absurd (cc)

module _ (w : ℕ) (image : Image) (world : World) (P : Placement) (q : IsRunAt w image world P) where
  nothing_seen : (a : Config) (r : RunState) → Stands w world P (mapped image P.image) a r
      → host_turn (is_gate a.spot) (call_under_way a.frames) (is_due world.script a.script) ≡ false → width.host_view w world P r ≡ None
  unfolding width.host_view
  nothing_seen a r st e =
      let t = turn_parts (is_gate a.spot) (call_under_way a.frames) (is_due world.script a.script) e in
      let native : nat_eq r.machine.ip P.native ≡ false = off_gate (nat_eq r.machine.ip P.native)
      (covers r.machine.ip 1 (image_range world P))
      (r.machine.ip - P.image) r.machine.ip (ap is_gate st.machine.spot ∙ t.0) in
      let gate : nat_eq r.machine.ip r.machine.gate ≡ false = ap (nat_eq r.machine.ip) st.machine.gate ∙ native in
      let A = addresses w world.notes P a.frames in
      let call : width.call_under_way r.hosts ≡ NoCall = unmarked w A (call_under_way a.frames) (width.call_under_way r.hosts) t.1
      (marks_show w world P (mapped image P.image) q.width (world_meets image world q.run) q.placement A a.frames r.hosts st.hosts) in
      let due : is_due world.script r.script ≡ false = ap (is_due world.script) st.script ∙ t.2 in
      ap (λ g. if g then width.return_seen w world P r r.hosts else width.call_seen w world P r (width.call_under_way r.hosts)) gate
      ∙ ap (width.call_seen w world P r) call
      ∙ ap (λ d. if d then Some (IsDue (length r.hosts)) else None) due

  -- where the neutral machine's host sees nothing, and it isn't stuck, nothing is seen at a width
  pub unseen : (a b : Config) (r : RunState) → Stands w world P (mapped image P.image) a r → a.ending ≡ ending.Running
      → neutral_step world (neutral_instruction world image) a ≡ Some b → neutral.host_view world a a.spot ≡ None
      → width.host_view w world P r ≡ None
  unfolding neutral_step neutral.neutral_host_step
  unseen a b r st on e n =
      go (host_turn (is_gate a.spot) (call_under_way a.frames) (is_due world.script a.script)) refl
      (sym (ap (step_if world (neutral_instruction world image) a) on) ∙ e)
    where
      go : (t : Bool) → host_turn (is_gate a.spot) (call_under_way a.frames) (is_due world.script a.script) ≡ t
          → (if t then neutral.neutral_host_step world a
          else neutral_instruction world image (record a { script = one_instruction a.script })) ≡ Some b
          → width.host_view w world P r ≡ None
      go true t e = absurd (none-some b (sym (ap (option_map (λ v. neutral.performed world a (host_plan world a.script v))) n) ∙ e))
      go false t e = nothing_seen a r st t

  -- ---- resting, and the reply to a bound call

  pub rests_stands : (a : Config) (r : RunState) → Stands w world P (mapped image P.image) a r
      → Stands w world P (mapped image P.image) (record a { ending = ending.Running }) (record r { ending = ending.Running })
  rests_stands a r st = record {
    machine = machine_told w world P (mapped image P.image) None a r.machine a.trace ending.Running st.machine;
    hosts = st.hosts;
    script = st.script;
    trace = st.trace;
    ending = refl;
  }

  pub bound_reply_stands : (a : Config) (r : RunState) (kind : Option Ty) (v : Value) → total w a.frames ≤ stack_bytes w world.notes
      → IsValue world.notes (value_given kind v) → Stands w world P (mapped image P.image) a r
      → Stands w world P (mapped image P.image) (neutral_bound_reply world a kind v) (bound_reply w world P r kind v)
  unfolding neutral_bound_reply bound_reply neutral.performed width.performed neutral.after_stores width.after_stores
      width.written_number
  bound_reply_stands a r None v room fits st =
      let s = reply_stands w world P (mapped image P.image) q.width (world_meets image world q.run) q.placement a r
      (event.Replied 0 value.Any) [] None value.Any room st tt tt in
      record {
        machine = machine_told w world P (mapped image P.image) None _ _ a.trace a.ending s.machine;
        hosts = s.hosts;
        script = s.script;
        trace = st.trace;
        ending = s.ending;
      }
  bound_reply_stands a r (Some t) v room fits st =
      let s = reply_stands w world P (mapped image P.image) q.width (world_meets image world q.run) q.placement a r (event.Replied 0 v) []
      (Some t) v room st tt fits in
      record {
        machine = machine_told w world P (mapped image P.image) None _ _ a.trace a.ending s.machine;
        hosts = s.hosts;
        script = s.script;
        trace = st.trace;
        ending = s.ending;
      }
