-- Laws of instructions: what a runner is at after one, by how the machine's step ends.
use Rattle.twin_run.proofs.Common.{◌≡◌, ℕ, ◌+◌, ◌-◌, ◌^◌, List, [], ◌∷◌, map, min, Option, Some, None, refl, sym, ap, ◌∙◌, subst, arith}
use Rattle.twin_run.proofs.Common.{option_map_or, Memory, Concrete, stored, Ending, Raised, Mismatch, Exception, Notes, Reason}
use Rattle.twin_run.proofs.Common.{KeepsObjects, concrete_of, machine_step, Machine, StepEnd, Frame, saved_of, with_memory, ThunkView}
use Rattle.twin_run.proofs.Common.{NotMapped, NamesNone, Names, thunk_made, thunk_view, with_call, Placement, own_placement, NativeCall}
use Rattle.twin_run.proofs.Common.{Asked, one_instruction, RunState, SavedFrame, after_instruction, instruction_step, World, IsMemoryOf}
use Rattle.twin_run.proofs.Common.{IsServing, placement_of, Host, HostStep, IsAt, hosts_of, AskedCall, Runner}
use Rattle.callex_thunk.specs.Slots.{memory_state}
use Rattle.host_model.specs.{HostSteps.call_place, Placements.thunk_at}
use Rattle.native_host.specs.Steps.{OnAccepted, thunk_step}
use Rattle.twin_run.proofs.{RunnerLaws.is_placed, RunnerLaws.memory_kept, ThunkSteps.stays}
use Rattle.note_types.specs.declared.exception.Exception.TheVariants as raises
use Rattle.note_types.specs.declared.reason.Reason.TheVariants as reason
use Rattle.ebc_machine.specs.declared.StepEnd.TheVariants as ends
use Rattle.native_host.specs.declared.step.HostStep.TheVariants as step

-- ---- the machine's step

-- the run once the instruction counts
abbrev counted : RunState → RunState
counted r = record r { script = one_instruction r.script }

-- how an instruction of the run ends, in the words of the code
stepped : (w : ℕ) (world : World) (P : Placement) (x : Runner w) (r : RunState) (e : StepEnd) (t : Concrete) → IsAt w world x r
    → (e, t) ≡ machine_step w (concrete_of x.machine x.mem)
    → after_instruction w world P (counted r) (e, t) ≡ instruction_step w world P r
unfolding instruction_step
stepped w world P x r e t at is =
    ap (after_instruction w world P (counted r)) is
    ∙ ap (λ s. after_instruction w world P (counted r) (machine_step w s)) at.machine

count : (d old n : ℕ) → d ≡ min (old + 1) (2 ^ 64 - 1) → old ≡ min n (2 ^ 64 - 1) → d ≡ min (n + 1) (2 ^ 64 - 1)
count d old n is was = omega arith

-- the machine and its memory after it
moved_at : (w : ℕ) (world : World) (x : Runner w) (r : RunState) (c : Machine w) (m : Memory) (d : ℕ) → IsAt w world x r
    → KeepsObjects x.mem m → d ≡ min (x.done + 1) (2 ^ 64 - 1)
    → IsAt w world (record x { machine = c; mem = m; done = d }) (record (counted r) { machine = concrete_of c m })
moved_at w world x r c m d at keeps done = record {
  serving = at.serving;
  size = at.size;
  image_size = at.image_size;
  memory = memory_kept w world (own_placement w world) x.host.entries x.mem m at.memory keeps;
  machine = refl;
  hosts = at.hosts;
  tells = record { entries = at.tells.entries; notifications = at.tells.notifications; thunks = at.tells.thunks; trace = at.tells.trace };
  done = count d x.done r.script.instructions done at.done;
  ending = at.ending;
}

-- what all ends of a step have
abbrev Steps : (w : ℕ) → Runner w → Machine w → Memory → ℕ → StepEnd → Type 0
Steps w x c m d e =
    ((e, concrete_of c m) ≡ machine_step w (concrete_of x.machine x.mem)) × KeepsObjects x.mem m × (d ≡ min (x.done + 1) (2 ^ 64 - 1))

pub next_at : (w : ℕ) (world : World) (x : Runner w) (r : RunState) (c : Machine w) (m : Memory) (d : ℕ) → IsAt w world x r
    → Steps w x c m d ends.Next
    → IsAt w world (record x { machine = c; mem = m; done = d }) (instruction_step w world (own_placement w world) r)
unfolding after_instruction
next_at w world x r c m d at done =
    subst (IsAt w world (record x { machine = c; mem = m; done = d })) (stepped w world (own_placement w world) x r ends.Next (concrete_of
    c m) at done.0) (moved_at w world x r c m d at done.1 done.2)

with_call-again : (a b : NativeCall ℕ) (hs : List SavedFrame) → with_call a (with_call b hs) ≡ with_call a hs
with_call-again a b [] = refl
with_call-again a b (f ∷ fs) = refl

asked_hosts : (a : AskedCall) (o : Option AskedCall) (fs : List Frame)
    → hosts_of (Some a) fs ≡ with_call (Asked a.place a.target) (hosts_of o fs)
asked_hosts a None fs = refl
asked_hosts a (Some b) fs = sym (with_call-again (Asked a.place a.target) (Asked b.place b.target) (map saved_of fs))

pub native_at : (w : ℕ) (world : World) (x : Runner w) (r : RunState) (c : Machine w) (m : Memory) (d place target : ℕ) → IsAt w world x r
    → Steps w x c m d (ends.Native target)
    → ((world : World) (P : Placement) → P.image ≡ (placement_of x.host.places).image → world.image_size ≡ x.image_size
    → place ≡ call_place world P x.machine.ip)
    → IsAt w world (record x { machine = c; mem = m; done = d; asked = Some (record { place = place; target = target }) })
    (instruction_step w world (own_placement w world) r)
unfolding after_instruction
native_at w world x r c m d place target at done from =
    let base = ap (λ (P : Placement). P.image) (is_placed w world x.host at.serving at.size) in
    let here = from world (own_placement w world) (sym base) (sym at.image_size)
    ∙ ap (λ (s : Concrete). call_place world (own_placement w world) s.ip) at.machine in
    let moved = moved_at w world x r c m d at done.1 done.2 in
    subst (IsAt w world (record x { machine = c; mem = m; done = d; asked = Some (record { place = place; target = target }) }))
    (stepped w world (own_placement w world) x r (ends.Native target) (concrete_of c m) at done.0)
    (record {
      serving = moved.serving;
      size = moved.size;
      image_size = moved.image_size;
      memory = moved.memory;
      machine = moved.machine;
      hosts = asked_hosts (record { place = place; target = target }) x.asked x.frames
          ∙ (λ i. with_call (Asked (here i) target) (at.hosts i));
      tells = record {
        entries = moved.tells.entries;
        notifications = moved.tells.notifications;
        thunks = moved.tells.thunks;
        trace =
            moved.tells.trace;
      };
      done = moved.done;
      ending = moved.ending;
    })

-- nothing is done, but it counts
still_at : (w : ℕ) (world : World) (x : Runner w) (r : RunState) (c : Machine w) (m : Memory) (d : ℕ) (e : Ending) → IsAt w world x r
    → KeepsObjects x.mem m → d ≡ min (x.done + 1) (2 ^ 64 - 1) → concrete_of c m ≡ concrete_of x.machine x.mem
    → IsAt w world (record x { machine = c; mem = m; done = d; ending = e }) (record (counted r) { ending = e })
still_at w world x r c m d e at keeps done same =
    let moved = moved_at w world x r c m d at keeps done in
    record {
      serving = moved.serving;
      size = moved.size;
      image_size = moved.image_size;
      memory = moved.memory;
      machine = same ∙ at.machine;
      hosts = moved.hosts;
      tells = record {
        entries = moved.tells.entries;
        notifications = moved.tells.notifications;
        thunks = moved.tells.thunks;
        trace =
            moved.tells.trace;
      };
      done = moved.done;
      ending = refl;
    }

pub gate_at : (w : ℕ) (world : World) (x : Runner w) (r : RunState) (c : Machine w) (m : Memory) (d : ℕ) → IsAt w world x r
    → Steps w x c m d ends.Gate
    → IsAt w world (record x { machine = c; mem = m; done = d }) (instruction_step w world (own_placement w world) r)
unfolding after_instruction
gate_at w world x r c m d at done =
    let same = stays w (concrete_of x.machine x.mem) (concrete_of c m) ends.Gate done.0 in
    let still = still_at w world x r c m d x.ending at done.1 done.2 same in
    subst (IsAt w world (record x { machine = c; mem = m; done = d })) (stepped w world (own_placement w world) x r ends.Gate (concrete_of
    c m) at done.0)
    (record {
      serving = still.serving;
      size = still.size;
      image_size = still.image_size;
      memory = still.memory;
      machine = still.machine;
      hosts = still.hosts;
      tells = record {
        entries = still.tells.entries;
        notifications = still.tells.notifications;
        thunks = still.tells.thunks;
        trace =
            still.tells.trace;
      };
      done = still.done;
      ending = at.ending;
    })

pub raised_at : (w : ℕ) (world : World) (x : Runner w) (r : RunState) (c : Machine w) (m : Memory) (d : ℕ) (e : Exception)
    → IsAt w world x r → Steps w x c m d (ends.Raised e) → (c ≡ x.machine) × (m ≡ x.mem)
    → IsAt w world (record x { machine = c; mem = m; done = d; ending = Raised e }) (instruction_step w world (own_placement w world) r)
unfolding after_instruction
raised_at w world x r c m d e at done same =
    subst (IsAt w world (record x { machine = c; mem = m; done = d; ending = Raised e })) (stepped w world (own_placement w world) x r
    (ends.Raised e) (concrete_of c m) at done.0)
    (still_at w world x r c m d (Raised e) at done.1 done.2 (λ i. concrete_of (same.0 i) (same.1 i)))

-- ---- thunks

-- the run where a thunk is to be served: its machine is the one that is left, but for ip
pub before_thunk : (w : ℕ) (world : World) (x : Runner w) (r : RunState) (c : Machine w) (m : Memory) (d a : ℕ) → IsAt w world x r
    → Steps w x c m d (ends.MakeThunk a) → r.machine ≡ concrete_of (record c { ip = x.machine.ip }) m
before_thunk w world x r c m d a at done =
    sym at.machine ∙ sym (stays w (concrete_of x.machine x.mem) (concrete_of c m) (ends.MakeThunk a) done.0)

pub at_thunk : (w : ℕ) (world : World) (x : Runner w) (r : RunState) (c : Machine w) (m : Memory) (d a : ℕ) → IsAt w world x r
    → Steps w x c m d (ends.MakeThunk a)
    → IsAt w world (record x { machine = c; mem = m; done = d }) (record (counted r) { machine = concrete_of c m })
at_thunk w world x r c m d a at done = moved_at w world x r c m d at done.1 done.2

pub thunk_at_step : (w : ℕ) (world : World) (x y : Runner w) (r : RunState) (c : Machine w) (m : Memory) (d a : ℕ) → IsAt w world x r
    → Steps w x c m d (ends.MakeThunk a)
    → IsAt w world y (thunk_made w world (own_placement w world) (counted r) (concrete_of c m) a (thunk_view world (own_placement w world)
    (concrete_of c m) a))
    → IsAt w world y (instruction_step w world (own_placement w world) r)
unfolding after_instruction
thunk_at_step w world x y r c m d a at done served =
    subst (IsAt w world y) (stepped w world (own_placement w world) x r (ends.MakeThunk a) (concrete_of c m) at done.0) served

-- what the host sees of the cell, in the words of the code
view_there : (w : ℕ) (world : World) (x : Runner w) (r : RunState) (a : ℕ) → IsAt w world x r
    → thunk_view world (placement_of x.host.places) (memory_state x.mem) a
    ≡ thunk_view world (own_placement w world) (concrete_of x.machine x.mem) a
unfolding thunk_view
view_there w world x r a at =
    ap (λ P. thunk_view world P (concrete_of x.machine x.mem) a) (is_placed w world x.host at.serving at.size)

none_named : (v : ThunkView) (a : ℕ) (why : Reason) → step.Mismatch why ≡ thunk_step a v → (v ≡ NamesNone) × (why ≡ reason.Thunk a)
none_named NotMapped a why is = absurd cc
none_named NamesNone a why is = (refl, cc)
none_named (Names f) a why is = absurd cc

not_mapped : (v : ThunkView) (a : ℕ) (e : Exception) → step.Raised e ≡ thunk_step a v → (v ≡ NotMapped) × (e ≡ raises.MemoryFault)
not_mapped NotMapped a e is = (refl, cc)
not_mapped NamesNone a e is = absurd cc
not_mapped (Names f) a e is = absurd cc

named : (v : ThunkView) (a : ℕ) → step.Accepted ≡ thunk_step a v → (f : ℕ) × (v ≡ Names f)
named NotMapped a is = absurd cc
named NamesNone a is = absurd cc
named (Names f) a is = (f, refl)

-- the state in which a thunk is to be served
abbrev served_from : {w : ℕ} → Runner w → RunState → RunState
served_from x r = record r { machine = concrete_of x.machine x.mem }

pub unnamed_at : (w : ℕ) (world : World) (x : Runner w) (r : RunState) (h : Host w) (m : Memory) (a : ℕ) (why : Reason)
    → IsAt w world x (served_from x r) → h ≡ x.host → m ≡ x.mem
    → step.Mismatch why ≡ thunk_step a (thunk_view world (placement_of x.host.places) (memory_state x.mem) a)
    → IsAt w world (record x { host = h; mem = m; ending = Mismatch why }) (thunk_made w world (own_placement w world) r (concrete_of
    x.machine x.mem) a (thunk_view world (own_placement w world) (concrete_of x.machine x.mem) a))
unfolding thunk_made
unnamed_at w world x r h m a why at host mem is =
    let found = none_named _ a why is in
    let view = sym (view_there w world x (served_from x r) a at) ∙ found.0 in
    let end : IsAt w world (record x { ending = Mismatch why }) (record r {
      machine = concrete_of x.machine x.mem;
      ending = Mismatch
          (reason.Thunk a);
    }) = record {
      serving = at.serving;
      size = at.size;
      image_size = at.image_size;
      memory = at.memory;
      machine = at.machine;
      hosts = at.hosts;
      tells = record {
        entries = at.tells.entries;
        notifications = at.tells.notifications;
        thunks = at.tells.thunks;
        trace = at.tells.trace;
      };
      done = at.done;
      ending = ap Mismatch found.1;
    } in
    subst (λ (v : ThunkView). IsAt w world (record x { host = h; mem = m; ending = Mismatch why }) (thunk_made w world (own_placement w
    world)
    r (concrete_of x.machine x.mem) a v)) (sym view)
    (subst (λ (g : Host w). IsAt w world (record x { host = g; mem = m; ending = Mismatch why }) (record r {
      machine = concrete_of
          x.machine x.mem;
      ending = Mismatch (reason.Thunk a);
    })) (sym host)
    (subst (λ (n : Memory). IsAt w world (record x { mem = n; ending = Mismatch why }) (record r {
      machine = concrete_of x.machine x.mem;
      ending = Mismatch (reason.Thunk a);
    })) (sym mem) end))

pub unmapped_at : (w : ℕ) (world : World) (x : Runner w) (r : RunState) (h : Host w) (m : Memory) (before : Machine w) (a : ℕ)
    (e : Exception) → IsAt w world x (served_from x r) → r.machine ≡ concrete_of before x.mem → h ≡ x.host → m ≡ x.mem
    → step.Raised e ≡ thunk_step a (thunk_view world (placement_of x.host.places) (memory_state x.mem) a)
    → IsAt w world (record x { host = h; mem = m; machine = before; ending = Raised e }) (thunk_made w world (own_placement w world) r
    (concrete_of x.machine x.mem) a (thunk_view world (own_placement w world) (concrete_of x.machine x.mem) a))
unfolding thunk_made
unmapped_at w world x r h m before a e at was host mem is =
    let found = not_mapped _ a e is in
    let view = sym (view_there w world x (served_from x r) a at) ∙ found.0 in
    let end : IsAt w world (record x { machine = before; ending = Raised e }) (record r { ending = Raised raises.MemoryFault }) = record {
      serving = at.serving;
      size = at.size;
      image_size = at.image_size;
      memory = at.memory;
      machine = sym was;
      hosts = at.hosts;
      tells = record {
        entries = at.tells.entries;
        notifications = at.tells.notifications;
        thunks = at.tells.thunks;
        trace = at.tells.trace;
      };
      done = at.done;
      ending = ap Raised found.1;
    } in
    subst (λ (v : ThunkView). IsAt w world (record x { host = h; mem = m; machine = before; ending = Raised e }) (thunk_made w world
    (own_placement w world) r (concrete_of x.machine x.mem) a v)) (sym view)
    (subst (λ (g : Host w). IsAt w world (record x { host = g; mem = m; machine = before; ending = Raised e }) (record r {
      ending = Raised
          raises.MemoryFault;
    })) (sym host)
    (subst (λ (n : Memory). IsAt w world (record x { mem = n; machine = before; ending = Raised e }) (record r {
      ending = Raised
          raises.MemoryFault;
    })) (sym mem) end))

pub served_at : (w : ℕ) (world : World) (x : Runner w) (r : RunState) (h : Host w) (m : Memory) (a : ℕ)
    → IsAt w world x (served_from x r) → step.Accepted ≡ thunk_step a (thunk_view world (placement_of x.host.places) (memory_state x.mem) a)
    → ((s : Concrete) (f : ℕ) → thunk_view world (placement_of x.host.places) (memory_state x.mem) a ≡ Names f
    → stored (with_memory s x.mem) a w (thunk_at world.notes (placement_of x.host.places) f) ≡ Some (with_memory s m))
    → KeepsObjects x.mem m → IsServing w world.notes world.script h → h ≡ record x.host { thunks = h.thunks }
    → h.thunks ≡ min (x.host.thunks + 1) (2 ^ 64 - 1)
    → IsAt w world (record x { host = h; mem = m }) (thunk_made w world (own_placement w world) r (concrete_of x.machine x.mem) a
    (thunk_view world (own_placement w world) (concrete_of x.machine x.mem) a))
unfolding thunk_made
served_at w world x r h m a at is cell keeps serving same thunks =
    let found = named _ a is in
    let f = found.0 in
    let view = sym (view_there w world x (served_from x r) a at) ∙ found.1 in
    let stored_is = (λ i. stored (concrete_of x.machine x.mem) a w (thunk_at world.notes (sym (is_placed w world x.host at.serving at.size)
    i)
    f)) ∙ cell (concrete_of x.machine x.mem) f found.1 in
    let machine : concrete_of x.machine m ≡ option_map_or (λ (t : Concrete). t) (stored (concrete_of x.machine x.mem) a w (thunk_at
    world.notes
    (own_placement w world) f)) (concrete_of x.machine x.mem)
    = sym (ap (λ (o : Option Concrete). option_map_or (λ (t : Concrete). t) o (concrete_of x.machine x.mem)) stored_is) in
    subst (λ (v : ThunkView). IsAt w world (record x { host = h; mem = m }) (thunk_made w world (own_placement w world) r (concrete_of
    x.machine x.mem) a v)) (sym view)
    (record {
      serving = serving;
      size = ap (λ (g : Host w). g.places.image_size) same ∙ at.size;
      image_size = at.image_size;
      memory = subst (λ n. IsMemoryOf w world (own_placement w world) n m) (sym (ap (λ (g : Host w). g.entries) same))
          (memory_kept w world (own_placement w world) x.host.entries x.mem m at.memory keeps);
      machine = machine;
      hosts = at.hosts;
      tells = record {
        entries = at.tells.entries ∙ sym (ap (λ (g : Host w). g.entries) same);
        notifications = at.tells.notifications ∙ sym (ap (λ (g : Host w). g.notifications) same);
        thunks = count h.thunks x.host.thunks r.script.thunks thunks at.tells.thunks;
        trace = at.tells.trace ∙ sym (ap (λ (g : Host w). g.trace.items) same);
      };
      done = at.done;
      ending = at.ending;
    })

accepted_by : (st : HostStep) (v : ThunkView) (a : ℕ) → st ≡ thunk_step a v → ((x : Reason) → st ≡ step.Mismatch x → ⊥)
    → ((x : Exception) → st ≡ step.Raised x → ⊥) → st ≡ step.Accepted
accepted_by st NotMapped a is unlike over = absurd (over raises.MemoryFault is)
accepted_by st NamesNone a is unlike over = absurd (unlike (reason.Thunk a) is)
accepted_by st (Names f) a is unlike over = is

-- a thunk cell is served, in the words of the code
pub served_by : (w : ℕ) (world : World) (x : Runner w) (r : RunState) (h : Host w) (m : Memory) (a : ℕ) (st : HostStep)
    (notes : Notes)
    → IsAt w world x (served_from x r) → st ≡ thunk_step a (thunk_view world (placement_of x.host.places) (memory_state x.mem) a)
    → ((y : Reason) → st ≡ step.Mismatch y → ⊥) → ((y : Exception) → st ≡ step.Raised y → ⊥)
    → ((s : Concrete) (f : ℕ) → thunk_view world (placement_of x.host.places) (memory_state x.mem) a ≡ Names f
    → stored (with_memory s x.mem) a w (thunk_at notes (placement_of x.host.places) f) ≡ Some (with_memory s m))
    → KeepsObjects x.mem m → IsServing w notes world.script h → world.notes ≡ notes → h ≡ record x.host { thunks = h.thunks }
    → OnAccepted st (h.thunks ≡ min (x.host.thunks + 1) (2 ^ 64 - 1))
    → IsAt w world (record x { host = h; mem = m }) (thunk_made w world (own_placement w world) r (concrete_of x.machine x.mem) a
    (thunk_view world (own_placement w world) (concrete_of x.machine x.mem) a))
served_by w world x r h m a st notes at is unlike over cell keeps serving notes_are same count =
    let v = thunk_view world (placement_of x.host.places) (memory_state x.mem) a in
    let accepted = accepted_by st v a is unlike over in
    served_at w world x r h m a at (sym accepted ∙ is)
    (λ s f names. subst (λ (n : Notes). stored (with_memory s x.mem) a w (thunk_at n (placement_of x.host.places) f) ≡ Some (with_memory s
    m)) (sym notes_are) (cell s f names))
    keeps (subst (λ (n : Notes). IsServing w n world.script h) (sym notes_are) serving) same
    (subst (λ (s : HostStep). OnAccepted s (h.thunks ≡ min (x.host.thunks + 1) (2 ^ 64 - 1))) accepted count)
