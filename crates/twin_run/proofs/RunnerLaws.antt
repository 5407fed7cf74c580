-- Laws of runners: what a runner holds is a state of its run, and what changes of it are changes of the state.
use Rattle.twin_run.proofs.Common.{◌≡◌, ℕ, ◌-◌, Bool, true, false, List, Option, Some, None, refl, sym, ap, ◌∙◌, subst, eq-eqb, nat_eq}
use Rattle.twin_run.proofs.Common.{IfSome, slice_set, if◌then◌else◌, covers, Memory, Concrete, with_register, Ending, Spot, KeepsObjects}
use Rattle.twin_run.proofs.Common.{concrete_of, Frame, with_memory, spot_of, Placement, own_placement, RunState, World, IsMemoryOf}
use Rattle.twin_run.proofs.Common.{IsServing, host_world, shown, placement_of, Host, other-place, IsAt, hosts_of, AskedCall}
use Rattle.twin_run.proofs.Common.{Runner}
use Rattle.host_model.specs.Placements.{image_range}
use Rattle.note_types.specs.declared.spot.Spot.TheVariants as spot

-- ---- worlds and placements

-- the world of the host is that of the run
pub is_world : (w : ℕ) (world : World) (h : Host w) → h.places.image_size ≡ world.image_size
    → host_world world.notes world.script h ≡ world
is_world w world h size = λ i. record { notes = world.notes; script = world.script; image_size = size i }

-- and so is its placement
pub is_placed : (w : ℕ) (world : World) (h : Host w) → IsServing w world.notes world.script h → h.places.image_size ≡ world.image_size
    → placement_of h.places ≡ own_placement w world
is_placed w world h serving size = serving.host.placement ∙ ap (own_placement w) (is_world w world h size)

-- ---- spots

pub spot_gate : (w : ℕ) (world : World) (x : Runner w) (r : RunState) → IsAt w world x r → nat_eq x.machine.ip x.machine.gate ≡ true
    → spot.Gate ≡ spot_of world (own_placement w world) r.machine
unfolding spot_of
spot_gate w world x r at there =
    subst (λ (s : Concrete). spot.Gate ≡ spot_of world (own_placement w world) s) at.machine
    (ap (λ b. if b then spot.Gate else if covers x.machine.ip 1 (image_range world (own_placement w world)) then spot.Place (x.machine.ip
    - (own_placement w world).image) else spot.Wild x.machine.ip) (sym there))

-- where the run isn't at the gate, and its address has this place or none
abbrev spot_by : ℕ → Option ℕ → Spot
spot_by ip (Some place) = spot.Place place
spot_by ip None = spot.Wild ip

spot_else : (world : World) (P : Placement) (s : Concrete) (o : Option ℕ) → nat_eq s.ip s.gate ≡ false
    → o ≡ (if covers s.ip 1 (image_range world P) then Some (s.ip - P.image) else None) → spot_by s.ip o ≡ spot_of world P s
unfolding spot_of
spot_else world P s o away is =
    ap (spot_by s.ip) is
    ∙ (by (covers s.ip 1 (image_range world P))
    ∙ ap (λ b. if b then spot.Gate else if covers s.ip 1 (image_range world P) then spot.Place (s.ip - P.image) else spot.Wild s.ip) (sym
    away)) where
      by : (b : Bool) → spot_by s.ip (if b then Some (s.ip - P.image) else None)
          ≡ (if b then spot.Place (s.ip - P.image) else spot.Wild s.ip)
      by true = refl
      by false = refl

pub spot_away : (w : ℕ) (world : World) (x : Runner w) (r : RunState) (o : Option ℕ) → IsAt w world x r
    → nat_eq x.machine.ip x.machine.gate ≡ false
    → ((world : World) (P : Placement) → P.image ≡ (placement_of x.host.places).image → world.image_size ≡ x.image_size
    → o ≡ (if covers x.machine.ip 1 (image_range world P) then Some (x.machine.ip - P.image) else None))
    → spot_by x.machine.ip o ≡ spot_of world (own_placement w world) r.machine
spot_away w world x r o at away place =
    let base = ap (λ (P : Placement). P.image) (is_placed w world x.host at.serving at.size) in
    subst (λ (s : Concrete). spot_by x.machine.ip o ≡ spot_of world (own_placement w world) s) at.machine
    (spot_else world (own_placement w world) (concrete_of x.machine x.mem) o away (place world (own_placement w world) (sym base) (sym
    at.image_size)))

-- the place that is found is where it stands
pub stands_at : (w : ℕ) (x : Runner w) (o : Option ℕ) → nat_eq x.machine.ip x.machine.gate ≡ false
    → ((world : World) (P : Placement) → P.image ≡ (placement_of x.host.places).image → world.image_size ≡ x.image_size
    → o ≡ (if covers x.machine.ip 1 (image_range world P) then Some (x.machine.ip - P.image) else None))
    → IfSome o (λ place. (world : World) (r : RunState) (d : ℕ) → IsAt w world (record x { done = d }) r
    → spot.Place place ≡ spot_of world (own_placement w world) r.machine)
stands_at w x None away place = tt
stands_at w x (Some p) away place = λ world r d at. spot_away w world (record x { done = d }) r (Some p) at away place

-- ---- states

-- what a host shows of the state that its runner is at is that state
pub shown_same : (w : ℕ) (world : World) (x : Runner w) (r : RunState) → IsAt w world x r
    → shown x.host x.mem (hosts_of x.asked x.frames) r ≡ r
shown_same w world x r at = λ i. record r {
  machine = record r.machine { objects = (at.machine i).objects; byte = (at.machine i).byte };
  hosts = at.hosts i;
  script = record r.script { entries = sym at.tells.entries i; notifications = sym at.tells.notifications i };
  trace = sym at.tells.trace i;
}

-- where the host has done its part of a step, the runner is at what it shows
pub shown_at : (w : ℕ) (world : World) (x : Runner w) (r : RunState) (h : Host w) (m : Memory) (fs : List Frame) (o : Option AskedCall)
    → IsAt w world x r → IsServing w world.notes world.script h → h.places.image_size ≡ world.image_size
    → IsMemoryOf w world (own_placement w world) h.entries m → h.thunks ≡ x.host.thunks
    → IsAt w world (record x { host = h; mem = m; frames = fs; asked = o }) (shown h m (hosts_of o fs) r)
shown_at w world x r h m fs o at serving size memory thunks = record {
  serving = serving;
  size = size;
  image_size = at.image_size;
  memory = memory;
  machine = λ i. with_memory (at.machine i) m;
  hosts = refl;
  tells = record { entries = refl; notifications = refl; thunks = thunks ∙ at.tells.thunks; trace = refl };
  done = at.done;
  ending = at.ending;
}

-- the run ends
pub ended_at : (w : ℕ) (world : World) (x : Runner w) (r : RunState) (e : Ending) → IsAt w world x r
    → IsAt w world (record x { ending = e }) (record r { ending = e })
ended_at w world x r e at = record {
  serving = at.serving;
  size = at.size;
  image_size = at.image_size;
  memory = at.memory;
  machine = at.machine;
  hosts = at.hosts;
  tells = record { entries = at.tells.entries; notifications = at.tells.notifications; thunks = at.tells.thunks; trace = at.tells.trace };
  done = at.done;
  ending = refl;
}

-- R7 gets a number
pub replied_at : (w : ℕ) (world : World) (x : Runner w) (r : RunState) (n : ℕ) → IsAt w world x r
    → IsAt w world (record x { machine = record x.machine { regs = slice_set x.machine.regs 7 n } })
    (record r { machine = with_register r.machine 7 n })
unfolding with_register
replied_at w world x r n at = record {
  serving = at.serving;
  size = at.size;
  image_size = at.image_size;
  memory = at.memory;
  machine = λ i. with_register (at.machine i) 7 n;
  hosts = at.hosts;
  tells = record { entries = at.tells.entries; notifications = at.tells.notifications; thunks = at.tells.thunks; trace = at.tells.trace };
  done = at.done;
  ending = at.ending;
}

-- a memory with the same objects is the host's too
pub memory_kept : (w : ℕ) (world : World) (P : Placement) (entries : ℕ) (m n : Memory) → IsMemoryOf w world P entries m → KeepsObjects m n
    → IsMemoryOf w world P entries n
memory_kept w world P entries m n is keeps = record {
  objects = keeps.objects ∙ is.objects;
  bytes = keeps.byte_limit ∙ is.bytes;
  count = keeps.object_limit ∙ is.count;
}

-- ---- whether the run is at the gate

pub gate_there : (w : ℕ) (world : World) (x : Runner w) (r : RunState) → IsAt w world x r → x.machine.ip ≡ x.machine.gate
    → nat_eq r.machine.ip r.machine.gate ≡ true
gate_there w world x r at is = ap (λ (s : Concrete). nat_eq s.ip s.gate) (sym at.machine) ∙ eq-eqb x.machine.ip x.machine.gate is

pub away_there : (w : ℕ) (world : World) (x : Runner w) (r : RunState) → IsAt w world x r → (x.machine.ip ≡ x.machine.gate → ⊥)
    → nat_eq r.machine.ip r.machine.gate ≡ false
away_there w world x r at apart =
    ap (λ (s : Concrete). nat_eq s.ip s.gate) (sym at.machine) ∙ other-place x.machine.ip x.machine.gate apart
