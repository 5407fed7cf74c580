-- Laws of the entering of a function of the provider, and of the reply to a bound call.
use Rattle.pair_host.proofs.Common.{◌≡◌, ℕ, false, List, [], ◌∷◌, ◌++◌, map, Option, Some, None, refl, sym, ap, ◌∙◌, subst, append-nil}
use Rattle.pair_host.proofs.Common.{option_map_or, drop-append_seam, Concrete, Ending, Event, Seen, Ty, Value, Ends, Enters}
use Rattle.pair_host.proofs.Common.{function_params, signature_result, call_under_way, entered, frame_for, inside, objects_at, performed}
use Rattle.pair_host.proofs.Common.{with_call, written_number, Placement, code_at, own_placement, one_callback, RunState, SavedFrame, given}
use Rattle.pair_host.proofs.Common.{World, own_placements, bound_reply, side_at, sides_at, PairWorld, PairState, call_answered, enter_step}
use Rattle.pair_host.proofs.Common.{function_entered, reply_refused, reply_step, with_a, with_b, Rests, IsAt, IsQuiet, IsRunner, Runner}
use Rattle.pair_host.proofs.Common.{IsPair, IsProvider, SidesGoOn, own, stage_of, told, PairRunner}
use Rattle.twin_run.specs.Runner.{hosts_of}
use Rattle.pair_host.proofs.Calls.{IsOver, b_rests, reply_ends}
use Rattle.note_types.specs.declared.ending.Ending.TheVariants as ending
use Rattle.note_types.specs.declared.event.Event.TheVariants as event
use Rattle.note_types.specs.declared.exception.Exception.TheVariants as raises
use Rattle.pair_model.specs.Pairs as pairs
use Rattle.pair_model.specs.declared.event.PairEvent.TheVariants as pair_event

-- ---- values of arguments

abbrev pub values_of : List Seen → List Value
values_of args = map (λ (s : Seen). s.value) args

values_map : {A : Type 0} (f : Value → A) (args : List Seen) → map f (values_of args) ≡ map (λ (s : Seen). f s.value) args
values_map f [] = refl
values_map f (x ∷ xs) = ap (λ ys. f x.value ∷ ys) (values_map f xs)

-- ---- a run that enters its first function

module _ (w : ℕ) (world : World) (P : Placement) where
  -- the run inside a function, with these arguments' numbers
  abbrev pub entering : RunState → ℕ → List Seen → RunState
  entering r f args =
      entered false w world P r f (map (λ (s : Seen). written_number w world.notes P (objects_at world r) s.value) args)

  told_entered : (r : RunState) (t : List Event) (f : ℕ) (numbers : List ℕ)
      → entered false w world P (told t r) f numbers ≡ told t (entered false w world P r f numbers)
  told_entered r t f numbers = go (inside w r.machine (code_at world.notes P f) (function_params world.notes f) numbers)
    where
      go : (o : Option Concrete) → option_map_or (λ s. record r { machine = s; hosts = frame_for false r.machine f ∷ r.hosts; trace = t }) o
          (record r { ending = ending.Raised raises.StackFault; trace = t })
          ≡ told t (option_map_or (λ s. record r { machine = s; hosts = frame_for false r.machine f ∷ r.hosts }) o
          (record r { ending = ending.Raised raises.StackFault }))
      go None = refl
      go (Some s) = refl

  pub entering_told : (r : RunState) (t : List Event) (f : ℕ) (args : List Seen) → entering (told t r) f args ≡ told t (entering r f args)
  entering_told r t f args =
      told_entered r t f (map (λ (s : Seen). written_number w world.notes P (objects_at world r) s.value) args)

  pub enters_first : (r : RunState) (e : Event) (f : ℕ) (args : List Seen) → r.hosts ≡ []
      → performed w world P r (Enters e 0 f (values_of args)) ≡ told (r.trace ++ e ∷ []) (entering r f args)
  unfolding performed
  enters_first r e f args none =
      let t = r.trace ++ e ∷ [] in
      let write : Value → ℕ = written_number w world.notes P (objects_at world r) in
      let run : List SavedFrame → List ℕ → RunState = λ hs xs. entered false w world P (record r { hosts = hs; trace = t }) f xs in
      (λ i. run (with_call (one_callback (call_under_way (none i))) (none i)) (values_map write args i))
      ∙ (ap (λ hs. run hs (map (λ (s : Seen). write s.value) args)) (sym none)
      ∙ told_entered r t f (map (λ (s : Seen). write s.value) args))

-- ---- 4. the entering

module _ (w : ℕ) (world : PairWorld) where
  -- the event of the entering, and the pair after it
  abbrev entered_event : ℕ → List Seen → Event
  entered_event f args = event.Entered f (map (λ (s : Seen). given s.value) args)

  abbrev inside_b : PairState RunState → ℕ → List Seen → RunState
  inside_b p f args = entering w world.b (own_placement w world.b) p.b f args

  abbrev told_entering : PairState RunState → ℕ → List Seen → Event → PairState RunState
  told_entering p f args e = record p {
    b = told (p.b.trace ++ e ∷ []) (inside_b p f args);
    trace = p.trace ++ pair_event.B e ∷ [];
    ending = (inside_b p f args).ending;
  }

  enter_seam : (p : PairState RunState) (g f : ℕ) (args : List Seen) → p.b.hosts ≡ []
      → enter_step (sides_at w world (own_placements w world)) p g f (values_of args)
      ≡ function_entered g (told_entering p f args (entered_event f args)) (inside_b p f args).ending
  unfolding enter_step
  enter_seam p g f args none =
      let Q = own_placement w world.b in
      let sides = sides_at w world (own_placements w world) in
      let e = entered_event f args in
      let after : RunState → PairState RunState = λ s. function_entered g (with_b sides.b p s) s.ending in
      ap (λ xs. after (performed w world.b Q p.b (Enters (event.Entered f xs) 0 f (values_of args)))) (values_map given args)
      ∙ (ap after (enters_first w world.b Q p.b e f args none)
      ∙ ap (λ t. function_entered g (record (told_entering p f args e) { trace = p.trace ++ map pair_event.B t })
      (inside_b p f args).ending)
      (drop-append_seam p.b.trace (e ∷ [])))

  -- the provider has no frame before
  no_frames : (x : PairRunner w) (p : PairState RunState) → Rests w world.b x.b (own x.b p.b) → p.b.hosts ≡ []
  no_frames x p rests = sym rests.at.hosts ∙ (λ i. hosts_of (rests.settled i) (rests.outside i))

  -- its runner is inside the function
  run_inside : (x y : PairRunner w) (p : PairState RunState) (f : ℕ) (args : List Seen)
      → IsRunner w world.b y.b (entering w world.b (own_placement w world.b) (own x.b p.b) f args) → y.b.host ≡ x.b.host
      → IsRunner w world.b y.b (own y.b (inside_b p f args))
  run_inside x y p f args there host =
      subst (IsRunner w world.b y.b) (entering_told w world.b (own_placement w world.b) p.b x.b.host.trace.items f args
      ∙ ap (λ h. told h.trace.items (inside_b p f args)) (sym host)) there

  not_entered : (g : ℕ) (q : PairState RunState) (e : Ending) → IsOver e → function_entered g q e ≡ q
  not_entered g q ending.Running over = absurd (over refl)
  not_entered g q (ending.Finished v) over = refl
  not_entered g q (ending.Raised x) over = refl
  not_entered g q (ending.Mismatch x) over = refl
  not_entered g q ending.ScriptEnd over = refl

  -- the function is under way
  pub enter_runs : (x y : PairRunner w) (p : PairState RunState) (g f : ℕ) (args xs : List Seen) → IsPair w world x p
      → p.stage ≡ pairs.CallTaken g f (values_of args) → p.ending ≡ ending.Running
      → IsRunner w world.b y.b (entering w world.b (own_placement w world.b) (own x.b p.b) f args) → y.b.host ≡ x.b.host
      → y.a ≡ x.a → stage_of y.stage ≡ pairs.CallRuns g
      → y.ending ≡ (entering w world.b (own_placement w world.b) (own x.b p.b) f args).ending → y.ending ≡ ending.Running
      → xs ≡ map (λ (s : Seen). given s.value) args → y.trace.items ≡ x.trace.items ++ pair_event.B (event.Entered f xs) ∷ []
      → IsPair w world y (enter_step (sides_at w world (own_placements w world)) p g f (values_of args))
  enter_runs x y p g f args xs is at on there host caller stage over goes are trace =
      let none = no_frames x p (b_rests w world x p is (ap pairs.running_side at) on) in
      let e = entered_event f args in
      let q = told_entering p f args e in
      let same = ap (λ (r : RunState). r.ending) (entering_told w world.b (own_placement w world.b) p.b x.b.host.trace.items f args) in
      let run : (inside_b p f args).ending ≡ ending.Running = sym (over ∙ same) ∙ goes in
      let a_goes : p.a.ending ≡ ending.Running = subst (λ (s : pairs.Stage). SidesGoOn s p.a.ending p.b.ending) at (is.goes_on on) in
      subst (IsPair w world y) (sym (enter_seam p g f args none ∙ ap (function_entered g q) run))
      (record {
        a = subst (λ (z : Runner w). IsRunner w world.a z (own z p.a)) (sym caller) is.a;
        b = run_inside x y p f args there host;
        stage = stage;
        trace = trace ∙ (λ i. is.trace i ++ pair_event.B (event.Entered f (are i)) ∷ []);
        ending = over ∙ same;
        goes_on = λ on. (a_goes, on);
        enters = tt;
      })

  -- or the cells below R0 aren't mapped
  pub enter_fails : (x y : PairRunner w) (p : PairState RunState) (g f : ℕ) (args xs : List Seen) → IsPair w world x p
      → p.stage ≡ pairs.CallTaken g f (values_of args) → p.ending ≡ ending.Running
      → y.a ≡ x.a → y.stage ≡ x.stage
      → y.ending ≡ (entering w world.b (own_placement w world.b) (own x.b p.b) f args).ending → IsOver y.ending
      → xs ≡ map (λ (s : Seen). given s.value) args → y.trace.items ≡ x.trace.items ++ pair_event.B (event.Entered f xs) ∷ []
      → IsPair w world y (enter_step (sides_at w world (own_placements w world)) p g f (values_of args))
  enter_fails x y p g f args xs is at on caller stage ends over are trace =
      let none = no_frames x p (b_rests w world x p is (ap pairs.running_side at) on) in
      let e = entered_event f args in
      let q = told_entering p f args e in
      let same = ends ∙ ap (λ (r : RunState). r.ending) (entering_told w world.b (own_placement w world.b) p.b x.b.host.trace.items f args)
      in
      let done : IsOver (inside_b p f args).ending = λ run. over (same ∙ run) in
      subst (IsPair w world y) (sym (enter_seam p g f args none ∙ not_entered g q (inside_b p f args).ending done))
      (record {
        a = subst (λ (z : Runner w). IsRunner w world.a z (own z p.a)) (sym caller) is.a;
        b = subst (λ (s : pairs.Stage). IsProvider w world.b y.b q.b q.ending (pairs.running_side s)) (sym at)
            (λ run. absurd (done run));
        stage = ap stage_of stage ∙ is.stage;
        trace = trace ∙ (λ i. is.trace i ++ pair_event.B (event.Entered f (are i)) ∷ []);
        ending = same;
        goes_on = λ run. absurd (done run);
        enters = is.enters;
      })

  -- ---- 6. the reply

  reply_told : (r : RunState) (t : List Event) (kind : Option Ty) (v : Value)
      → bound_reply w world.a (own_placement w world.a) (told t r) kind v
      ≡ told t (bound_reply w world.a (own_placement w world.a) r kind v)
  unfolding bound_reply
  reply_told r t None v = refl
  reply_told r t (Some kind) v = refl

  reply_goes : (r : RunState) (kind : Option Ty) (v : Value) → (bound_reply w world.a (own_placement w world.a) r kind v).ending ≡ r.ending
  unfolding bound_reply
  reply_goes r kind v = refl

  -- R7 of the caller has the value
  pub reply_given : (x y : PairRunner w) (p : PairState RunState) (g : ℕ) (v : Value) → IsPair w world x p
      → p.stage ≡ pairs.CallReturned g v → p.ending ≡ ending.Running
      → reply_refused world.a p.a.script (signature_result world.a.notes g) v ≡ None
      → IsRunner w world.a y.a (bound_reply w world.a (own_placement w world.a) (own x.a p.a) (signature_result world.a.notes g) v)
      → y.a.host ≡ x.a.host → y.b ≡ x.b → stage_of y.stage ≡ pairs.CallerRuns → y.ending ≡ x.ending
      → y.trace.items ≡ x.trace.items ++ pair_event.Bound v ∷ []
      → IsPair w world y (reply_step world (sides_at w world (own_placements w world)) p g v)
  unfolding reply_step
  reply_given x y p g v is at on none there host provider stage ending trace =
      let Q = own_placement w world.a in
      let sides = sides_at w world (own_placements w world) in
      let kind = signature_result world.a.notes g in
      let rests = b_rests w world x p is (ap pairs.running_side at) on in
      let a_goes = subst (λ (s : pairs.Stage). SidesGoOn s p.a.ending p.b.ending) at (is.goes_on on) in
      subst (IsPair w world y) (sym (ap (call_answered sides p kind v) none))
      (record {
        a = subst (IsRunner w world.a y.a) (reply_told p.a x.a.host.trace.items kind v
            ∙ ap (λ h. told h.trace.items (bound_reply w world.a Q p.a kind v)) (sym host)) there;
        b = λ goes. subst (λ (z : Runner w). Rests w world.b z (own z p.b)) (sym provider) rests;
        stage = stage;
        trace = trace ∙ ap (λ t. t ++ pair_event.Bound v ∷ []) is.trace;
        ending = ending ∙ is.ending;
        goes_on = λ goes. reply_goes p.a kind v ∙ a_goes;
        enters = tt;
      })

  -- or the value doesn't fit
  abbrev ended : PairState RunState → Ending → PairState RunState
  ended p n = record p { a = record p.a { trace = p.a.trace ++ []; ending = n }; ending = n }

  ended_seam : (p : PairState RunState) (n : Ending)
      → with_a (side_at w world.a (own_placement w world.a)) p (performed w world.a (own_placement w world.a) p.a (Ends [] n)) ≡ ended p n
  unfolding performed
  ended_seam p n =
      ap (λ t. record (ended p n) { trace = p.trace ++ map pair_event.A t }) (drop-append_seam p.a.trace [])
      ∙ ap (λ t. record (ended p n) { trace = t }) (append-nil p.trace)

  pub reply_fails : (x y : PairRunner w) (p : PairState RunState) (g : ℕ) (v : Value) (n : Ending) → IsPair w world x p
      → p.stage ≡ pairs.CallReturned g v → reply_refused world.a p.a.script (signature_result world.a.notes g) v ≡ Some n
      → IsAt w world.a y.a (record (own x.a p.a) { ending = n }) → IsQuiet world.a.script y.a → y.a.host ≡ x.a.host → y.stage ≡ x.stage
      → y.ending ≡ n → y.trace ≡ x.trace
      → IsPair w world y (reply_step world (sides_at w world (own_placements w world)) p g v)
  unfolding reply_step
  reply_fails x y p g v n is at refused there quiet host stage ending trace =
      let sides = sides_at w world (own_placements w world) in
      let kind = signature_result world.a.notes g in
      let over = reply_ends world.a p.a.script kind v n refused in
      subst (IsPair w world y) (sym (ap (call_answered sides p kind v) refused ∙ ended_seam p n))
      (record {
        a = record {
          at = subst (λ (h : _). IsAt w world.a y.a (record p.a { trace = h.trace.items; ending = n })) (sym host) there;
          quiet = quiet;
          events = record { inside = λ on. absurd (over on); room = λ on. absurd (over on) };
        };
        b = subst (λ (s : pairs.Stage). IsProvider w world.b y.b p.b n (pairs.running_side s)) (sym at) (λ on. absurd (over on));
        stage = ap stage_of stage ∙ is.stage;
        trace = ap (λ t. t.items) trace ∙ is.trace;
        ending = ending;
        goes_on = λ on. absurd (over on);
        enters = is.enters;
      })
