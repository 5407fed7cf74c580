-- Leaving a frame, and ends: a run that stands for a configuration stands for it after them.
use Rattle.host_laws.proofs.Common.{◌≡◌, ℕ, ◌^◌, ◌<◌, if◌then◌else◌, List, [], ◌∷◌, ◌++◌, Option, Some, None, refl, sym, ap, ap₂, ◌∙◌}
use Rattle.host_laws.proofs.Common.{subst, subst₂, arith, slice_index, slice_set, length-set, get_or-set_same, get_or-set_other, IsWidth}
use Rattle.host_laws.proofs.Common.{cell_size, Concrete, register, Finishes, Leaves, Ends, Resumes, performed, Placement, IsPlacement}
use Rattle.host_laws.proofs.Common.{stack_end, SavedFrame, RunState, Ending, Event, Field, Value, HostFrame, Frame, Function, Host, Config}
use Rattle.host_laws.proofs.Common.{with_value, addresses, memory_of, cell_field, HostShows, HostsShow, CellShows, MachineStands, Stands}
use Rattle.host_laws.proofs.Common.{Neutral, Anchor, ObjectOf, ThunkOf, LocalOf, CellPlace, FieldOf, FieldOfLocals, Shows, World, WorldFits}
use Rattle.host_laws.proofs.Common.{Extends, shows_more, shows_in_more, frames_more, end_small, append-nil}
use Rattle.host_model.specs.HostSteps.{left, outside, resumed, as_before}
use Rattle.note_types.specs.declared.ending.Ending.TheVariants.{Finished}
use Rattle.neutral_machine.specs.NeutralHost.{performed as neutral_performed, left as neutral_left, resumed as neutral_resumed}
use Rattle.neutral_machine.specs.{Layout.top_of, Stands.cell_address}
use Rattle.host_laws.proofs.{Marks.machine_told, Replies.by_eq, Replies.hosts_more}

-- ---- the events and the ending are the run's

pub trace_left : (r : RunState) (ss : List SavedFrame) → (left r ss).trace ≡ r.trace
trace_left r [] = refl
trace_left r (x ∷ ss) = refl

pub ending_left : (r : RunState) (ss : List SavedFrame) → (left r ss).ending ≡ r.ending
ending_left r [] = refl
ending_left r (x ∷ ss) = refl

pub neutral_trace_left : (a : Config) (fs : List Frame) → (neutral_left a fs).trace ≡ a.trace
neutral_trace_left a [] = refl
neutral_trace_left a (Function f ∷ fs) = refl
neutral_trace_left a (Host k ∷ fs) = refl

pub neutral_ending_left : (a : Config) (fs : List Frame) → (neutral_left a fs).ending ≡ a.ending
neutral_ending_left a [] = refl
neutral_ending_left a (Function f ∷ fs) = refl
neutral_ending_left a (Host k ∷ fs) = refl

pub trace_resumed : (r : RunState) (ss : List SavedFrame) → (resumed r ss).trace ≡ r.trace
trace_resumed r [] = refl
trace_resumed r (x ∷ ss) = refl

pub ending_resumed : (r : RunState) (ss : List SavedFrame) → (resumed r ss).ending ≡ r.ending
ending_resumed r [] = refl
ending_resumed r (x ∷ ss) = refl

pub neutral_trace_resumed : (a : Config) (fs : List Frame) → (neutral_resumed a fs).trace ≡ a.trace
neutral_trace_resumed a [] = refl
neutral_trace_resumed a (Function f ∷ fs) = refl
neutral_trace_resumed a (Host k ∷ fs) = refl

pub neutral_ending_resumed : (a : Config) (fs : List Frame) → (neutral_resumed a fs).ending ≡ a.ending
neutral_ending_resumed a [] = refl
neutral_ending_resumed a (Function f ∷ fs) = refl
neutral_ending_resumed a (Host k ∷ fs) = refl

module _ (w : ℕ) (world : World) (P : Placement) (mapped : ℕ → ℕ) (h : IsWidth w) (ok : WorldFits world) (pl : IsPlacement w world P) where
  -- everything is where it was below a host frame
  extends_below : (k : HostFrame) (fs : List Frame) → Extends (addresses w world.notes P (Host k ∷ fs)) (addresses w world.notes P fs)
  extends_below k fs = record { anchor = anchor; handle = λ j p e. e; method = λ j p e. e; entry = λ j p e. e }
    where
      anchor : (a : Anchor) (p : ℕ) → (addresses w world.notes P (Host k ∷ fs)).anchor a ≡ Some p
          → (addresses w world.notes P fs).anchor a ≡ Some p
      anchor (ObjectOf j) p e = e
      anchor (ThunkOf i) p e = e
      anchor (LocalOf d f) p e = e

  -- the configuration and the machine once the top host frame is left
  under : Config → HostFrame → List Frame → Config
  under a k fs = record a { registers = with_value k.saved 7 (a.registers 7); c = k.c; spot = k.spot; frames = fs }

  left_machine : (but : Option ℕ) (a : Config) (s : Concrete) (k : HostFrame) (fs : List Frame) (x : SavedFrame) → a.frames ≡ Host k ∷ fs
      → MachineStands w world P mapped but a s
      → HostShows w world P (addresses w world.notes P a.frames) (top_of w (stack_end w world.notes P) fs) k x
      → MachineStands w world P mapped but (under a k fs) (outside s x)
  unfolding under
  left_machine but a s k fs x at st host =
      let A = addresses w world.notes P (Host k ∷ fs) in
      let B = addresses w world.notes P fs in
      let e = extends_below k fs in
      let b : Config = record a { frames = Host k ∷ fs } in
      let was : MachineStands w world P mapped but b s = subst (λ (z : List Frame). MachineStands w world P mapped but
      (record a { frames = z }) s) at st in
      let held : HostShows w world P A (top_of w (stack_end w world.notes P) fs) k x =
      subst (λ (z : List Frame). HostShows w world P (addresses w world.notes P z)
      (top_of w (stack_end w world.notes P) fs) k x) at host in
      let seven : slice_index (slice_set x.registers 7 (register s 7)) 7 ≡ register s 7 =
      get_or-set_same x.registers 7 (register s 7) 0 (let l = held.eight in omega (arith, l)) in
      record {
        eight = length-set x.registers 7 (register s 7) ∙ held.eight;
        words = λ r. by_eq r 7 (λ t. slice_index (slice_set x.registers 7 (register s 7)) r < 2 ^ 64)
            (λ g. subst (λ q. slice_index (slice_set x.registers 7 (register s 7)) q < 2 ^ 64) (sym g)
            (subst (λ q. q < 2 ^ 64) (sym seven) (was.words 7)))
            (λ n. subst (λ q. q < 2 ^ 64) (sym (get_or-set_other x.registers 7 r (register s 7) 0 n)) (held.words r));
        small = was.small;
        registers = λ r l m. by_eq r 7 (λ t. Shows w B (if t then a.registers 7 else k.saved r)
            (slice_index (slice_set x.registers 7 (register s 7)) r))
            (λ g. subst (Shows w B (a.registers 7)) (sym (ap (slice_index (slice_set x.registers 7 (register s 7))) g ∙ seven))
            (shows_more w A B (a.registers 7) (register s 7) e (was.registers 7 (omega arith) (omega arith))))
            (λ n. subst (Shows w B (k.saved r)) (sym (get_or-set_other x.registers 7 r (register s 7) 0 n))
            (shows_more w A B (k.saved r) _ e (held.registers r l m)));
        locals = was.locals;
        top = get_or-set_other x.registers 7 0 (register s 7) 0 (λ g. absurd (omega (arith, g))) ∙ held.top_is;
        frames = frames_more w (stack_end w world.notes P) h (end_small w world P h ok pl) A B P s.byte fs e was.frames.1;
        cells = λ p z v g c. cell p z v g c;
        thunks = was.thunks;
        code = was.code;
        objects = was.objects;
        flags = held.flags;
        gate = was.gate;
        spot = held.spot;
      }
    where
      cell : (p : CellPlace) (z : Field) (v : Neutral) → cell_field world.notes (memory_of world (under a k fs)) p ≡ Some z
          → a.cells p ≡ Some v
          → CellShows w (addresses w world.notes P fs) s.byte (cell_address w world P (under a k fs) p z) (cell_size w z.cell) v
      cell p z v g c =
          let was : MachineStands w world P mapped but (record a { frames = Host k ∷ fs }) s =
          subst (λ (z : List Frame). MachineStands w world P mapped but (record a { frames = z }) s) at st in
          by p z v g c was
        where
          by : (p : CellPlace) (z : Field) (v : Neutral) → cell_field world.notes (memory_of world (under a k fs)) p ≡ Some z
              → a.cells p ≡ Some v → MachineStands w world P mapped but (record a { frames = Host k ∷ fs }) s
              → CellShows w (addresses w world.notes P fs) s.byte (cell_address w world P (under a k fs) p z) (cell_size w z.cell) v
          by (FieldOf m i f) z v g c was =
              let old = was.cells (FieldOf m i f) z v g c in
              record { address = old.address; there = old.there; shows = shows_in_more w _ _ _ v _ (extends_below k fs) old.shows }
          by (FieldOfLocals d f) z v g c was =
              let old = was.cells (FieldOfLocals d f) z v g c in
              record { address = old.address; there = old.there; shows = shows_in_more w _ _ _ v _ (extends_below k fs) old.shows }

  -- the top host frame is left
  left_stands : (a : Config) (r : RunState) (k : HostFrame) (fs : List Frame) → a.frames ≡ Host k ∷ fs → Stands w world P mapped a r
      → (t : List Event) (e : Ending)
      → Stands w world P mapped (record (neutral_left a a.frames) { trace = a.trace ++ t; ending = e })
      (record (left r r.hosts) { trace = r.trace ++ t; ending = e })
  unfolding under
  left_stands a r k fs at st t e =
      subst (λ (z : List Frame). Stands w world P mapped (record (neutral_left a z) { trace = a.trace ++ t; ending = e })
      (record (left r r.hosts) { trace = r.trace ++ t; ending = e })) (sym at)
      (go r.hosts refl (subst (λ (z : List Frame). HostsShow w world P (addresses w world.notes P a.frames) z r.hosts) at st.hosts))
    where
      go : (ss : List SavedFrame) → r.hosts ≡ ss → HostsShow w world P (addresses w world.notes P a.frames) (Host k ∷ fs) r.hosts
          → Stands w world P mapped (record (neutral_left a (Host k ∷ fs)) { trace = a.trace ++ t; ending = e })
          (record (left r r.hosts) { trace = r.trace ++ t; ending = e })
      go [] eq s = absurd (subst (HostsShow w world P (addresses w world.notes P a.frames) (Host k ∷ fs)) eq s)
      go (x ∷ ss) eq s =
          let g = subst (HostsShow w world P (addresses w world.notes P a.frames) (Host k ∷ fs)) eq s in
          let A = addresses w world.notes P a.frames in
          let more : Extends A (addresses w world.notes P fs) =
          subst (λ (z : List Frame). Extends (addresses w world.notes P z) (addresses w world.notes P fs)) (sym at)
          (extends_below k fs) in
          subst (λ (y : List SavedFrame). Stands w world P mapped
          (record (neutral_left a (Host k ∷ fs)) { trace = a.trace ++ t; ending = e })
          (record (left r y) { trace = r.trace ++ t; ending = e })) (sym eq)
          (record {
            machine = machine_told w world P mapped None (under a k fs) (outside r.machine x) (a.trace ++ t) e
                (left_machine None a r.machine k fs x at st.machine g.0);
            hosts = hosts_more w world P mapped h ok pl A (addresses w world.notes P fs) fs ss more g.1;
            script = st.script;
            trace = ap (λ y. y ++ t) st.trace;
            ending = refl;
          })

  -- ---- the frame of a notification

  -- the configuration and the machine once the top host frame, which is one of a notification, is left
  again : Config → HostFrame → List Frame → Config
  again a k fs = record a { registers = k.saved; c = k.c; spot = k.spot; frames = fs }

  resumed_machine : (but : Option ℕ) (a : Config) (s : Concrete) (k : HostFrame) (fs : List Frame) (x : SavedFrame)
      → a.frames ≡ Host k ∷ fs → MachineStands w world P mapped but a s
      → HostShows w world P (addresses w world.notes P a.frames) (top_of w (stack_end w world.notes P) fs) k x
      → MachineStands w world P mapped but (again a k fs) (as_before s x)
  unfolding again under
  resumed_machine but a s k fs x at st host =
      let was : MachineStands w world P mapped but (under a k fs) (outside s x) = left_machine but a s k fs x at st host in
      let held : HostShows w world P (addresses w world.notes P (Host k ∷ fs)) (top_of w (stack_end w world.notes P) fs) k x =
      subst (λ (z : List Frame). HostShows w world P (addresses w world.notes P z) (top_of w (stack_end w world.notes P) fs) k x) at
      host in
      record {
        eight = held.eight;
        words = held.words;
        small = was.small;
        registers = λ r l m. shows_more w (addresses w world.notes P (Host k ∷ fs)) (addresses w world.notes P fs) (k.saved r) _
            (extends_below k fs) (held.registers r l m);
        locals = was.locals;
        top = held.top_is;
        frames = was.frames;
        cells = was.cells;
        thunks = was.thunks;
        code = was.code;
        objects = was.objects;
        flags = was.flags;
        gate = was.gate;
        spot = was.spot;
      }

  -- the top host frame is left, R7 as it was
  resumed_stands : (a : Config) (r : RunState) (k : HostFrame) (fs : List Frame) → a.frames ≡ Host k ∷ fs
      → Stands w world P mapped a r → (t : List Event)
      → Stands w world P mapped (record (neutral_resumed a a.frames) { trace = a.trace ++ t; ending = a.ending })
      (record (resumed r r.hosts) { trace = r.trace ++ t; ending = r.ending })
  unfolding again
  resumed_stands a r k fs at st t =
      subst (λ (z : List Frame). Stands w world P mapped (record (neutral_resumed a z) { trace = a.trace ++ t; ending = a.ending })
      (record (resumed r r.hosts) { trace = r.trace ++ t; ending = r.ending })) (sym at)
      (go r.hosts refl (subst (λ (z : List Frame). HostsShow w world P (addresses w world.notes P a.frames) z r.hosts) at st.hosts))
    where
      go : (ss : List SavedFrame) → r.hosts ≡ ss → HostsShow w world P (addresses w world.notes P a.frames) (Host k ∷ fs) r.hosts
          → Stands w world P mapped (record (neutral_resumed a (Host k ∷ fs)) { trace = a.trace ++ t; ending = a.ending })
          (record (resumed r r.hosts) { trace = r.trace ++ t; ending = r.ending })
      go [] eq s = absurd (subst (HostsShow w world P (addresses w world.notes P a.frames) (Host k ∷ fs)) eq s)
      go (x ∷ ss) eq s =
          let g = subst (HostsShow w world P (addresses w world.notes P a.frames) (Host k ∷ fs)) eq s in
          let A = addresses w world.notes P a.frames in
          let more : Extends A (addresses w world.notes P fs) =
          subst (λ (z : List Frame). Extends (addresses w world.notes P z) (addresses w world.notes P fs)) (sym at)
          (extends_below k fs) in
          subst (λ (y : List SavedFrame). Stands w world P mapped
          (record (neutral_resumed a (Host k ∷ fs)) { trace = a.trace ++ t; ending = a.ending })
          (record (resumed r y) { trace = r.trace ++ t; ending = r.ending })) (sym eq)
          (record {
            machine = machine_told w world P mapped None (again a k fs) (as_before r.machine x) (a.trace ++ t) a.ending
                (resumed_machine None a r.machine k fs x at st.machine g.0);
            hosts = hosts_more w world P mapped h ok pl A (addresses w world.notes P fs) fs ss more g.1;
            script = st.script;
            trace = ap (λ y. y ++ t) st.trace;
            ending = st.ending;
          })

  -- ---- the plans

  -- a run that ends
  pub end_stands : (a : Config) (r : RunState) (es : List Event) (e : Ending) → Stands w world P mapped a r
      → Stands w world P mapped (neutral_performed world a (Ends es e)) (performed w world P r (Ends es e))
  unfolding neutral_performed performed
  end_stands a r es e st = record {
    machine = machine_told w world P mapped None a r.machine (a.trace ++ es) e st.machine;
    hosts = st.hosts;
    script = st.script;
    trace = ap (λ y. y ++ es) st.trace;
    ending = refl;
  }

  -- a function that was entered returns
  pub leave_stands : (a : Config) (r : RunState) (k : HostFrame) (fs : List Frame) (e : Event) → a.frames ≡ Host k ∷ fs
      → Stands w world P mapped a r
      → Stands w world P mapped (neutral_performed world a (Leaves e)) (performed w world P r (Leaves e))
  unfolding neutral_performed performed
  leave_stands a r k fs e at st =
      subst₂ (λ (y : Config) (z : RunState). Stands w world P mapped y z)
      (ap₂ (λ t n. record (neutral_left a a.frames) { trace = t ++ e ∷ []; ending = n }) (sym (neutral_trace_left a a.frames))
      (sym (neutral_ending_left a a.frames)))
      (ap₂ (λ t n. record (left r r.hosts) { trace = t ++ e ∷ []; ending = n }) (sym (trace_left r r.hosts))
      (sym st.ending ∙ sym (ending_left r r.hosts)))
      (left_stands a r k fs at st (e ∷ []) a.ending)

  -- a notification returns
  pub resume_stands : (a : Config) (r : RunState) (k : HostFrame) (fs : List Frame) (e : Event) → a.frames ≡ Host k ∷ fs
      → Stands w world P mapped a r
      → Stands w world P mapped (neutral_performed world a (Resumes e)) (performed w world P r (Resumes e))
  unfolding neutral_performed performed
  resume_stands a r k fs e at st =
      subst₂ (λ (y : Config) (z : RunState). Stands w world P mapped y z)
      (ap₂ (λ t n. record (neutral_resumed a a.frames) { trace = t ++ e ∷ []; ending = n })
      (sym (neutral_trace_resumed a a.frames)) (sym (neutral_ending_resumed a a.frames)))
      (ap₂ (λ t n. record (resumed r r.hosts) { trace = t ++ e ∷ []; ending = n })
      (sym (trace_resumed r r.hosts)) (sym (ending_resumed r r.hosts)))
      (resumed_stands a r k fs at st (e ∷ []))

  -- the first function returns, and the run ends with its result
  pub finish_stands : (a : Config) (r : RunState) (k : HostFrame) (fs : List Frame) (v : Value) → a.frames ≡ Host k ∷ fs
      → Stands w world P mapped a r
      → Stands w world P mapped (neutral_performed world a (Finishes v)) (performed w world P r (Finishes v))
  unfolding neutral_performed performed
  finish_stands a r k fs v at st =
      subst₂ (λ (y : Config) (z : RunState). Stands w world P mapped y z)
      (ap (λ t. record (neutral_left a a.frames) { trace = t; ending = Finished v }) (append-nil a.trace
      ∙ sym (neutral_trace_left a a.frames)))
      (ap (λ t. record (left r r.hosts) { trace = t; ending = Finished v }) (append-nil r.trace ∙ sym (trace_left r r.hosts)))
      (left_stands a r k fs at st [] (Finished v))
