-- Laws of the steps of a pair: by how far it is, once it ended, and that they add events after those that there are.
use Rattle.pair_host.proofs.Common.{◌≢◌, ◌≡◌, ℕ, Bool, true, false, if◌then◌else◌, List, [], ◌++◌, Option, Some, None, refl, sym, ap, ◌∙◌}
use Rattle.pair_host.proofs.Common.{append-nil, option_map_or, Ending, Event, Seen, Ty, Value, Asking, View, Returns, Calls, GoesOn, IsDue}
use Rattle.pair_host.proofs.Common.{NotifiedReturns, is_error, signature_result, host_view, asked_args, call_event, Placement, RunState}
use Rattle.pair_host.proofs.Common.{run_step, BoundCall, bound_at, pair_step_at, sides_at, Both, PairWorld, PairState}
use Rattle.pair_host.proofs.Common.{call_answered, call_refused, call_step, call_told, caller_step, caller_step_seen, enter_step}
use Rattle.pair_host.proofs.Common.{function_entered, function_step, function_step_seen, plain_step, provider_ended, provider_step}
use Rattle.pair_host.proofs.Common.{reply_refused, reply_step, stage_step, with_b, PairEvent, stepped}
use Rattle.pair_model.specs.{Pairs.Stage, Rules.pair_step, Rules.step_if}
use Rattle.note_types.specs.declared.ending.Ending.TheVariants as ending
use Rattle.pair_model.specs.Pairs as pairs

-- some events more
abbrev pub PairTells : List PairEvent → List PairEvent → Type 0
PairTells old new = (es : List PairEvent) × (new ≡ old ++ es)

none-more : (old : List PairEvent) → PairTells old old
none-more old = ([], sym (append-nil old))

module _ (w : ℕ) (world : PairWorld) (P : Both Placement) where
  -- ---- how far it is

  pub turn : (p : PairState RunState) (s : Stage) → s ≡ p.stage → p.ending ≡ ending.Running
      → pair_step_at w world P p ≡ stepped (stage_step world (sides_at w world P) p s) p
  unfolding pair_step_at pair_step
  turn p s at on =
      let sides = sides_at w world P in
      ap (λ e. stepped (step_if world sides p e) p) on ∙ ap (λ t. stepped (stage_step world sides p t) p) (sym at)

  pub over-stays : (p : PairState RunState) → p.ending ≢ ending.Running → pair_step_at w world P p ≡ p
  unfolding pair_step_at pair_step
  over-stays p over = go p.ending refl
    where
      by : Ending → PairState RunState
      by e = stepped (step_if world (sides_at w world P) p e) p

      go : (e : Ending) → p.ending ≡ e → by p.ending ≡ p
      go ending.Running is = absurd (over is)
      go (ending.Finished x) is = ap by is
      go (ending.Raised x) is = ap by is
      go (ending.Mismatch x) is = ap by is
      go ending.ScriptEnd is = ap by is

  -- ---- events

  ended-tells : (p : PairState RunState) (e : Ending) → (provider_ended (sides_at w world P) p e).trace ≡ p.trace
  ended-tells p ending.Running = refl
  ended-tells p (ending.Finished v) = go (is_error v)
    where
      go : (b : Bool) → (if b then p else record p {
        b = (sides_at w world P).b.resting p.b;
        stage = pairs.CallerRuns;
        ending = (sides_at w world P).a.ending p.a;
      }).trace ≡ p.trace
      go true = refl
      go false = refl
  ended-tells p (ending.Raised x) = refl
  ended-tells p (ending.Mismatch x) = refl
  ended-tells p ending.ScriptEnd = refl

  told-tells : (p : PairState RunState) (call : BoundCall) (e : Event) (args : List Seen) (o : Option Ending)
      → PairTells p.trace (call_told (sides_at w world P) p call e args o).trace
  told-tells p call e args None = (_, refl)
  told-tells p call e args (Some x) = (_, refl)

  call-tells : (p : PairState RunState) (place : ℕ) (asking : Asking) (call : BoundCall)
      → PairTells p.trace (call_step world (sides_at w world P) p place asking call).trace
  unfolding call_step
  call-tells p place asking call =
      told-tells p call (call_event place asking) (asked_args asking) (call_refused world p.b.script call.function place asking)

  caller-tells : (p : PairState RunState) (o : Option View)
      → PairTells p.trace (stepped (caller_step_seen world (sides_at w world P) p o) p).trace
  caller-tells p None = (_, refl)
  caller-tells p (Some (Returns first f v)) = (_, refl)
  caller-tells p (Some (Calls place asking)) = go (bound_at world.binds world.a.notes place)
    where
      go : (o : Option BoundCall) → PairTells p.trace (stepped (option_map_or
          (λ call. Some (call_step world (sides_at w world P) p place asking call)) o (plain_step (sides_at w world P) p)) p).trace
      go None = (_, refl)
      go (Some call) = call-tells p place asking call
  caller-tells p (Some (GoesOn entry callbacks frames mapped)) = (_, refl)
  caller-tells p (Some (NotifiedReturns f v)) = (_, refl)
  caller-tells p (Some (IsDue frames)) = (_, refl)

  entered-tells : (g : ℕ) (p : PairState RunState) (e : Ending) → (function_entered g p e).trace ≡ p.trace
  entered-tells g p ending.Running = refl
  entered-tells g p (ending.Finished x) = refl
  entered-tells g p (ending.Raised x) = refl
  entered-tells g p (ending.Mismatch x) = refl
  entered-tells g p ending.ScriptEnd = refl

  enter-tells : (p : PairState RunState) (g f : ℕ) (values : List Value)
      → PairTells p.trace (enter_step (sides_at w world P) p g f values).trace
  unfolding enter_step
  enter-tells p g f values = (_, entered-tells g _ _)

  function-tells : (p : PairState RunState) (g : ℕ) (o : Option View)
      → PairTells p.trace (stepped (function_step_seen (sides_at w world P) p g o) p).trace
  function-tells p g None = (_, refl)
  function-tells p g (Some (Returns true f v)) = (_, refl)
  function-tells p g (Some (Returns false f v)) = (_, refl)
  function-tells p g (Some (Calls place asking)) = (_, refl)
  function-tells p g (Some (GoesOn entry callbacks frames mapped)) = (_, refl)
  function-tells p g (Some (NotifiedReturns f v)) = (_, refl)
  function-tells p g (Some (IsDue frames)) = (_, refl)

  answered-tells : (p : PairState RunState) (kind : Option Ty) (v : Value) (o : Option Ending)
      → PairTells p.trace (call_answered (sides_at w world P) p kind v o).trace
  answered-tells p kind v None = (_, refl)
  answered-tells p kind v (Some x) = (_, refl)

  reply-tells : (p : PairState RunState) (g : ℕ) (v : Value) → PairTells p.trace (reply_step world (sides_at w world P) p g v).trace
  unfolding reply_step
  reply-tells p g v =
      answered-tells p (signature_result world.a.notes g) v (reply_refused world.a p.a.script (signature_result world.a.notes g) v)

  stage-tells : (p : PairState RunState) (s : Stage) → PairTells p.trace (stepped (stage_step world (sides_at w world P) p s) p).trace
  unfolding provider_step caller_step function_step
  stage-tells p pairs.ProviderRuns =
      let sides = sides_at w world P in
      let s = run_step w world.b P.b p.b in
      (_, ended-tells (with_b sides.b p s) s.ending)
  stage-tells p pairs.CallerRuns = caller-tells p (host_view w world.a P.a p.a)
  stage-tells p (pairs.CallTaken g f values) = enter-tells p g f values
  stage-tells p (pairs.CallRuns g) = function-tells p g (host_view w world.b P.b p.b)
  stage-tells p (pairs.CallReturned g v) = reply-tells p g v

  -- a step adds events after those that there are
  pub pair_step-tells : (p : PairState RunState) → PairTells p.trace (pair_step_at w world P p).trace
  unfolding pair_step_at pair_step
  pair_step-tells p = go p.ending
    where
      go : (e : Ending) → PairTells p.trace (stepped (step_if world (sides_at w world P) p e) p).trace
      go ending.Running = stage-tells p p.stage
      go (ending.Finished x) = none-more p.trace
      go (ending.Raised x) = none-more p.trace
      go (ending.Mismatch x) = none-more p.trace
      go ending.ScriptEnd = none-more p.trace
