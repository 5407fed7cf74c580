-- A step of a run: it goes on standing for the configuration.
use Rattle.step_sound.proofs.Common.{◌≡◌, ℕ, ◌+◌, ◌-◌, ◌<◌, ◌≤◌, Bool, true, false, if◌then◌else◌, nat_eq, List, [], ◌∷◌, ◌++◌, length}
use Rattle.step_sound.proofs.Common.{Option, Some, None, option_map, option_and_then, refl, sym, ap, ap₂, ◌∙◌, subst, subst₂, arith}
use Rattle.step_sound.proofs.Common.{slice_get, eqb-true, true≢false, same_Some, none-some, slice_get_within, read, spelling, Insn}
use Rattle.step_sound.proofs.Common.{machine_step, StepEnd, window, IsInsnOf, IsRunOf, world_meets, Index, Site, NeutralRow, Next, Native}
use Rattle.step_sound.proofs.Common.{MakeThunk, executed, Stands, WorldFits, Concrete, Ending, FnNote, Thunk, Spot, mapped, image_byte}
use Rattle.step_sound.proofs.Common.{Image, Config, call_under_way, with_call, host_turn, is_due, addresses, neutral_host_step, next_thunk}
use Rattle.step_sound.proofs.Common.{thunk_function, thunk_made, is_gate, Gives, Raises, Stuck, Placement, image_range, NativeCall, NoCall}
use Rattle.step_sound.proofs.Common.{Asked, one_instruction, one_thunk, RunState, Addresses, Neutral, World, instruction_at, or_none}
use Rattle.step_sound.proofs.Common.{site_at, instruction_from, instruction_left, IsRunAt, StepGoesWell}
use Rattle.ebc_width.specs.Ranges.{covers}
use Rattle.host_laws.proofs.{Entering.marked_stands, HostLaw.host_law, Marks.machine_counted, Marks.machine_told, Replies.marks_show}
use Rattle.host_laws.proofs.Thunks.{names_stand, thunk_stands}
use Rattle.instruction_laws.specs.Premises.{RunAlike}
use Rattle.instruction_laws.proofs.ImageSteps.{image_run_step, instruction_read}
use Rattle.neutral_machine.specs.{Operands.plainly, Room.HasRoom, Room.growth, Room.index_growth, Rows.is_stack_pointer, Stands.CallShows}
use Rattle.neutral_machine.specs.{Stands.spot_at, Layout.total, NeutralRuns.neutral_step, NeutralRuns.running_step as neutral_running}
use Rattle.neutral_machine.specs.{NeutralRuns.step_if as neutral_if, NeutralRun.neutral_instruction}
use Rattle.rules_image.specs.Images.{named_at, is_relocated}
use Rattle.host_model.specs.{HostPlans.Names, HostPlans.ThunkView, Placements.stack_bytes, Placements.thunk_cell_address, Progress.Accepted}
use Rattle.host_model.specs.{Values.Shows, Runs.after_instruction, Runs.instruction_step, Runs.run_step, Runs.running_step, Runs.step_if}
use Rattle.step_sound.specs.StepLaw.{RunStepKeepsStanding}
use Rattle.step_sound.proofs.Thunks.{thunks_are_loaded}
use Rattle.ebc_machine.specs.declared.StepEnd.TheVariants as ends
use Rattle.ebc_insn.specs.declared.Insn.TheVariants as insns
use Rattle.note_types.specs.declared.ending.Ending.TheVariants as ending
use Rattle.note_types.specs.declared.spot.Spot.TheVariants as spot
use Rattle.host_model.specs.HostSteps as width

-- ---- whose turn it is

same_turn : (w : ℕ) (A : Addresses) (g : Bool) (c : NativeCall Neutral) (d : NativeCall ℕ) (due : Bool) → CallShows w A c d
    → host_turn g c due ≡ host_turn g d due
same_turn w A true c d due s = refl
same_turn w A false NoCall NoCall due s = refl
same_turn w A false NoCall (Asked q x) due s = absurd s
same_turn w A false NoCall (Accepted f m xs) due s = absurd s
same_turn w A false (Asked p v) NoCall due s = absurd s
same_turn w A false (Asked p v) (Asked q x) due s = refl
same_turn w A false (Asked p v) (Accepted f m xs) due s = absurd s
same_turn w A false (Accepted e n vs) NoCall due s = absurd s
same_turn w A false (Accepted e n vs) (Asked q x) due s = absurd s
same_turn w A false (Accepted e n vs) (Accepted f m xs) due s = refl

no_call : (c : NativeCall Neutral) (due : Bool) → host_turn false c due ≡ false → c ≡ NoCall
no_call NoCall due t = refl
no_call (Asked p v) due t = absurd (true≢false t)
no_call (Accepted e n vs) due t = absurd (true≢false t)

gate_at : (world : World) (P : Placement) (ip : ℕ) → is_gate (spot_at world P ip) ≡ nat_eq ip P.native
gate_at world P ip = go (nat_eq ip P.native) (covers ip 1 (image_range world P))
  where
    go : (b c : Bool) → is_gate (if b then spot.Gate else if c then spot.Place (ip - P.image) else spot.Wild ip) ≡ b
    go true c = refl
    go false true = refl
    go false false = refl

-- a machine at a place is at an address of the image, so far from its base
place_called : (world : World) (P : Placement) (ip p : ℕ) → spot_at world P ip ≡ spot.Place p → width.call_place world P ip ≡ p
place_called world P ip p e = go (nat_eq ip P.native) (covers ip 1 (image_range world P)) e
  where
    place_of : Spot → ℕ
    place_of (spot.Place q) = q
    place_of _ = 0

    go : (b c : Bool) → (if b then spot.Gate else if c then spot.Place (ip - P.image) else spot.Wild ip) ≡ spot.Place p
        → (if c then ip - P.image else 0xffffffff) ≡ p
    go true c e = absurd (cc)
    go false true e = ap place_of e
    go false false e = absurd (cc)

-- ---- the instruction at a place

module _ (image : Image) (world : World) (run : IsRunOf image world) where
  pub found_there : (here : Site) (i : Insn) → IsInsnOf image world here i → instruction_at image here.place ≡ Some (i, length (spelling i))
  unfolding instruction_at
  found_there here i at =
      let code = (world_meets image world run).code_inside at.k at.f at.function in
      let n = at.decoded.next_is in
      let l = at.decoded.within in
      let size = run.size in
      let m = length (spelling i) in
      let whole : image.size - here.place ≡ m + (image.size - here.place - m) = omega (arith, n, l, code.1, size) in
      ap (λ k. or_none (read (window (image_byte image) here.place k))) whole
      ∙ ap or_none (instruction_read image world here i (image.size - here.place - m) at)

  pub site_there : (here : Site) (i : Insn) → IsInsnOf image world here i → site_at image here.place (length (spelling i)) ≡ here
  site_there here i at =
      let n = at.decoded.next_is in
      ap₂ (λ x y. record { place = here.place; next = x; reloc = y }) (sym n)
      (ap (λ x. named_at image x (is_relocated image x)) (sym n) ∙ sym at.relocation.named)

-- serving a thunk cell leaves the frames
thunk_frames : (world : World) (c b : Config) → thunk_made world c ≡ Some b → c.frames ≡ b.frames
unfolding thunk_made
thunk_frames world c b e = go (option_and_then (thunk_function world.notes) (next_thunk c (c.registers 7))) e
  where
    go : (o : Option ℕ) → option_map (λ f. record c { made = c.made + 1; script = one_thunk c.script }) o ≡ Some b → c.frames ≡ b.frames
    go None e = absurd (none-some b e)
    go (Some f) e = ap (λ (y : Config). y.frames) (same_Some (record c { made = c.made + 1; script = one_thunk c.script }) b e)

-- the stack grows as much whatever is counted
growth_counted : (w : ℕ) (world : World) (a : Config) (i : Insn)
    → growth w world (record a { script = one_instruction a.script }) i ≡ growth w world a i
growth_counted w world a (insns.Push wide op extra) = refl
growth_counted w world a (insns.PushNatural op extra) = refl
growth_counted w world a (insns.Call far true relative op extra) = refl
growth_counted w world a (insns.Call far false relative op extra) = refl
growth_counted w world a (insns.Move size bits left right lidx ridx) = move_counted (is_stack_pointer (plainly left)) ridx
  where
    move_counted : (b : Bool) (x : Option Index) → (if b then index_growth w world (record a { script = one_instruction a.script }) x
        else 0) ≡ (if b then index_growth w world a x else 0)
    move_counted true None = refl
    move_counted true (Some x) = refl
    move_counted false x = refl
growth_counted w world a _ = refl

-- ---- a step

module _ (w : ℕ) (image : Image) (world : World) (P : Placement) (q : IsRunAt w image world P) where
  abbrev B : ℕ → ℕ
  B = mapped image P.image

  fits : WorldFits world
  fits = world_meets image world q.run

  -- one more instruction is counted
  abbrev counted : Config → Config
  counted a = record a { script = one_instruction a.script }

  abbrev counted_run : RunState → RunState
  counted_run r = record r { script = one_instruction r.script }

  counted_stands : (a : Config) (r : RunState) → Stands w world P B a r → Stands w world P B (counted a) (counted_run r)
  counted_stands a r st = record {
    machine = machine_counted w world P B None a r.machine a.script.notifications (a.script.instructions + 1) a.script.thunks st.machine;
    hosts = st.hosts;
    script = ap one_instruction st.script;
    trace = st.trace;
    ending = st.ending;
  }

  -- an instruction raised
  raised_stands : (a : Config) (r : RunState) (e : Ending) → Stands w world P B a r
      → Stands w world P B (record a { ending = e }) (record r { ending = e })
  raised_stands a r e st = record {
    machine = machine_told w world P B None a r.machine a.trace e st.machine;
    hosts = st.hosts;
    script = st.script;
    trace = st.trace;
    ending = refl;
  }

  -- a native call is asked for
  asked_stands : (b : Config) (r : RunState) (s : Concrete) (p x : ℕ) (v : Neutral) → width.call_place world P r.machine.ip ≡ p
      → Shows w (addresses w world.notes P b.frames) v x → Stands w world P B b (record r { machine = s })
      → Stands w world P B (record b { frames = with_call (Asked p v) b.frames })
      (record r { machine = s; hosts = width.with_call (Asked (width.call_place world P r.machine.ip) x) r.hosts })
  asked_stands b r s p x v at shown st =
      subst₂ (λ t u. Stands w world P B (record b { frames = with_call (Asked p v) b.frames; trace = t })
      (record r { machine = s; hosts = width.with_call (Asked (width.call_place world P r.machine.ip) x) r.hosts; trace = u }))
      (empty b.trace) (empty r.trace)
      (marked_stands w world P B q.width fits q.placement b (record r { machine = s }) (Asked p v)
      (Asked (width.call_place world P r.machine.ip) x) [] (sym at, shown) st)
    where
      empty : {X : Type 0} (xs : List X) → xs ++ [] ≡ xs
      empty [] = refl
      empty (y ∷ ys) = ap (λ zs. y ∷ zs) (empty ys)

  -- a thunk cell is served
  served_stands : (b c : Config) (r : RunState) (s : Concrete) (i x : ℕ) → total w b.frames ≤ stack_bytes w world.notes
      → thunk_cell_address world.notes P i ≡ Some x → i ≡ b.made → thunk_made world b ≡ Some c
      → Stands w world P B b (record r { machine = s }) → Stands w world P B c
      (width.thunk_made w world P r s x (width.thunk_view world P s x))
  unfolding thunk_made width.thunk_made
  served_stands b c r s i x room at next made st = by_thunk (slice_get world.notes.thunk i) refl at
    where
      by_thunk : (o : Option Thunk) → slice_get world.notes.thunk i ≡ o → option_map (λ (t : Thunk). P.image + t.place) o ≡ Some x
          → Stands w world P B c (width.thunk_made w world P r s x (width.thunk_view world P s x))
      by_thunk None g e = absurd (none-some x e)
      by_thunk (Some t) g e =
          let there : slice_get world.notes.thunk b.made ≡ Some t = ap (slice_get world.notes.thunk) (sym next) ∙ g in
          let loaded = thunks_are_loaded image world P.image q.run q.bytes b.made t there in
          let seen = names_stand w world P B q.width fits q.placement b s b.made t there (omega arith) loaded st.machine in
          let few = function_few t loaded.note loaded.there in
          let served = thunk_stands w world P B q.width fits q.placement b s t there few room st.machine in
          let x_is : P.image + t.place ≡ x = same_Some (P.image + t.place) x e in
          let c_is : record b { made = b.made + 1; script = one_thunk b.script } ≡ c =
          made_is (option_and_then (thunk_function world.notes) (next_thunk b (b.registers 7))) made in
          let done : Stands w world P B (record b { made = b.made + 1; script = one_thunk b.script })
          (width.thunk_made w world P r s (P.image + t.place) (Names t.function)) = record {
            machine = machine_counted w world P B None (record b { made = b.made + 1 }) _ b.script.notifications b.script.instructions
                (b.script.thunks + 1) served;
            hosts = st.hosts;
            script = ap one_thunk st.script;
            trace = st.trace;
            ending = st.ending;
          } in
          subst₂ (λ (y : Config) (z : ℕ). Stands w world P B y (width.thunk_made w world P r s z (width.thunk_view world P s z))) c_is x_is
          (subst (λ (v : ThunkView). Stands w world P B (record b { made = b.made + 1; script = one_thunk b.script })
          (width.thunk_made w world P r s (P.image + t.place) v)) (sym seen) done)
        where
          made_is : (o : Option ℕ) → option_map (λ f. record b { made = b.made + 1; script = one_thunk b.script }) o ≡ Some c
              → record b { made = b.made + 1; script = one_thunk b.script } ≡ c
          made_is None e = absurd (none-some c e)
          made_is (Some f) e = same_Some _ c e

          function_few : (t : Thunk) (note : FnNote) → slice_get world.notes.function t.function ≡ Some note
              → t.function < length world.notes.function
          function_few t note h = slice_get_within world.notes.function t.function note h

  -- what an instruction leaves
  left_stands : (a b : Config) (r : RunState) (p : ℕ) (o : NeutralRow) (t : StepEnd × Concrete) → width.call_place world P r.machine.ip ≡ p
      → Stands w world P B a r
      → total w b.frames ≤ stack_bytes w world.notes → RunAlike w world P B r o t → instruction_left world a p o ≡ Some b
      → Stands w world P B b (after_instruction w world P r t)
  unfolding after_instruction
  left_stands a b r p Stuck t at st room alike e = absurd (none-some b e)
  left_stands a b r p (Raises x) t at st room alike e =
      subst₂ (λ (y : Config) (u : StepEnd × Concrete). Stands w world P B y (after_instruction w world P r u)) (same_Some _ b e) (sym alike)
      (raised_stands a r (ending.Raised x) st)
  left_stands a b r p (Gives (Next, c)) (ends.Next, s) at st room alike e =
      subst (λ (y : Config). Stands w world P B y (record r { machine = s })) (same_Some c b e) alike.1
  left_stands a b r p (Gives (Next, c)) (ends.Native x, s) at st room alike e = absurd alike.0
  left_stands a b r p (Gives (Next, c)) (ends.Gate, s) at st room alike e = absurd alike.0
  left_stands a b r p (Gives (Next, c)) (ends.MakeThunk x, s) at st room alike e = absurd alike.0
  left_stands a b r p (Gives (Next, c)) (ends.Raised x, s) at st room alike e = absurd alike.0
  left_stands a b r p (Gives (Native v, c)) (ends.Native x, s) at st room alike e =
      subst (λ (y : Config). Stands w world P B y (after_instruction w world P r (ends.Native x, s))) (same_Some _ b e)
      (asked_stands c r s p x v at alike.0 alike.1)
  left_stands a b r p (Gives (Native v, c)) (ends.Next, s) at st room alike e = absurd alike.0
  left_stands a b r p (Gives (Native v, c)) (ends.Gate, s) at st room alike e = absurd alike.0
  left_stands a b r p (Gives (Native v, c)) (ends.MakeThunk x, s) at st room alike e = absurd alike.0
  left_stands a b r p (Gives (Native v, c)) (ends.Raised x, s) at st room alike e = absurd alike.0
  left_stands a b r p (Gives (MakeThunk i, c)) (ends.MakeThunk x, s) at st room alike e = by_next (nat_eq i c.made) refl e
    where
      by_next : (t : Bool) → nat_eq i c.made ≡ t → (if t then thunk_made world c else None) ≡ Some b
          → Stands w world P B b (after_instruction w world P r (ends.MakeThunk x, s))
      by_next true n e = served_stands c b r s i x (subst (λ fs. total w fs ≤ stack_bytes w world.notes)
          (sym (thunk_frames world c b e)) room) alike.0 (eqb-true i c.made n) e alike.1
      by_next false n e = absurd (none-some b e)
  left_stands a b r p (Gives (MakeThunk i, c)) (ends.Next, s) at st room alike e = absurd alike.0
  left_stands a b r p (Gives (MakeThunk i, c)) (ends.Native x, s) at st room alike e = absurd alike.0
  left_stands a b r p (Gives (MakeThunk i, c)) (ends.Gate, s) at st room alike e = absurd alike.0
  left_stands a b r p (Gives (MakeThunk i, c)) (ends.Raised x, s) at st room alike e = absurd alike.0

  -- ---- the instruction at the spot

  instruction_stands : (a b : Config) (r : RunState) → StepGoesWell w image world a b
      → host_turn (is_gate a.spot) (call_under_way a.frames) (is_due world.script a.script) ≡ false → Stands w world P B a r
      → neutral_instruction world image (counted a) ≡ Some b → Stands w world P B b (instruction_step w world P r)
  unfolding neutral_instruction instruction_step
  instruction_stands a b r well turn st e = by_spot a.spot refl e
    where
      by_spot : (s : Spot) → a.spot ≡ s → instruction_from world image (counted a) s ≡ Some b
          → Stands w world P B b (after_instruction w world P (counted_run r) (machine_step w r.machine))
      by_spot spot.Gate at e = absurd (none-some b e)
      by_spot (spot.Wild x) at e = absurd (none-some b e)
      by_spot (spot.Place p) at e =
          let x = well.there p at (no_call (call_under_way a.frames)
          (is_due world.script a.script)
          (subst (λ y. host_turn (is_gate y) (call_under_way a.frames) (is_due world.script a.script) ≡ false) at turn)) in
          let found : instruction_at image p ≡ Some (x.insn, length (spelling x.insn)) = ap (instruction_at image) (sym x.at)
          ∙ found_there image world q.run x.here x.insn x.stands in
          let site : site_at image p (length (spelling x.insn)) ≡ x.here = ap (λ y. site_at image y (length (spelling x.insn))) (sym x.at)
          ∙ site_there image world q.run x.here x.insn x.stands in
          let left : instruction_left world (counted a) p (executed world (counted a) x.here x.insn) ≡ Some b =
          sym (ap (λ (o : Option (Insn × ℕ)). option_and_then (λ (f : Insn × ℕ). instruction_left world (counted a) p
          (executed world (counted a) (site_at image p f.1) f.0)) o) found
          ∙ ap (λ (y : Site). instruction_left world (counted a) p (executed world (counted a) y x.insn)) site) ∙ e in
          let counted_st = counted_stands a r st in
          let room : HasRoom w world (counted a) x.insn = subst (λ n. n + total w a.frames ≤ stack_bytes w world.notes)
          (sym (growth_counted w world a x.insn)) x.room in
          let alike = image_run_step w image world P (counted a) (counted_run r) x.here x.insn q.width q.placement q.run counted_st
          (at ∙ ap spot.Place (sym x.at)) x.stands room in
          left_stands (counted a) b (counted_run r) p (executed world (counted a) x.here x.insn) (machine_step w r.machine)
          (place_called world P r.machine.ip p (st.machine.spot ∙ at)) counted_st well.after alike left

  -- ---- whose turn

  turn_is : (a : Config) (r : RunState) → Stands w world P B a r
      → host_turn (is_gate a.spot) (call_under_way a.frames) (is_due world.script a.script)
      ≡ host_turn (nat_eq r.machine.ip r.machine.gate) (width.call_under_way r.hosts) (is_due world.script r.script)
  turn_is a r st =
      let gate : is_gate a.spot ≡ nat_eq r.machine.ip r.machine.gate = ap is_gate (sym st.machine.spot) ∙ gate_at world P r.machine.ip
      ∙ ap (nat_eq r.machine.ip) (sym st.machine.gate) in
      ap₂ (λ g p. host_turn g (call_under_way a.frames) (is_due world.script p)) gate (sym st.script)
      ∙ same_turn w (addresses w world.notes P a.frames) (nat_eq r.machine.ip r.machine.gate) (call_under_way a.frames)
      (width.call_under_way r.hosts) (is_due world.script r.script)
      (marks_show w world P B q.width fits q.placement (addresses w world.notes P a.frames) a.frames r.hosts st.hosts)

  running_stands : (a b : Config) (r : RunState) → StepGoesWell w image world a b → Stands w world P B a r
      → neutral_running world (neutral_instruction world image) a ≡ Some b → Stands w world P B b (running_step w world P r)
  unfolding running_step
  running_stands a b r well st e =
      by_turn (host_turn (is_gate a.spot) (call_under_way a.frames) (is_due world.script a.script)) refl (turn_is a r st) e
    where
      by_turn : (t : Bool) → host_turn (is_gate a.spot) (call_under_way a.frames) (is_due world.script a.script) ≡ t
          → t ≡ host_turn (nat_eq r.machine.ip r.machine.gate) (width.call_under_way r.hosts) (is_due world.script r.script)
          → (if t then neutral_host_step world a else neutral_instruction world image (counted a)) ≡ Some b
          → Stands w world P B b
          (if host_turn (nat_eq r.machine.ip r.machine.gate) (width.call_under_way r.hosts) (is_due world.script r.script)
          then width.host_step w world P r else instruction_step w world P r)
      by_turn true mine t e =
          subst (λ x. Stands w world P B b (if x then width.host_step w world P r else instruction_step w world P r)) t
          (host_law w world P B q.width fits q.placement a b r well.before well.after q.script st e)
      by_turn false mine t e = subst (λ x. Stands w world P B b (if x then width.host_step w world P r else instruction_step w world P r)) t
          (instruction_stands a b r well mine st e)

  step_stands : (a b : Config) (r : RunState) → (a.ending ≡ ending.Running → StepGoesWell w image world a b) → Stands w world P B a r
      → neutral_step world (neutral_instruction world image) a ≡ Some b → Stands w world P B b (run_step w world P r)
  unfolding neutral_step run_step
  step_stands a b r well st e =
      subst (λ x. Stands w world P B b (step_if w world P r x)) (sym st.ending) (by_ending a.ending refl e)
    where
      same : Some a ≡ Some b → Stands w world P B b r
      same e = subst (λ (y : Config). Stands w world P B y r) (same_Some a b e) st

      by_ending : (x : Ending) → a.ending ≡ x → neutral_if world (neutral_instruction world image) a x ≡ Some b
          → Stands w world P B b (step_if w world P r x)
      by_ending ending.Running on e = running_stands a b r (well on) st e
      by_ending (ending.Finished v) on e = same e
      by_ending (ending.Raised v) on e = same e
      by_ending (ending.Mismatch v) on e = same e
      by_ending ending.ScriptEnd on e = same e

pub run_step_keeps_standing : RunStepKeepsStanding
run_step_keeps_standing w image world P a b r q well st e = step_stands w image world P q a b r well st e
