-- The CALLs of a run that haven't returned, step by step: what a step leaves of them, and none more once the run has ended.
use Rattle.std.specs.Prelude.{◌≢◌, nat_le, slice_index}
use Rattle.std.specs.List.{filter, flat_map, list_all, range_with_len}
use Rattle.std.proofs.Common.{◌≡◌, ℕ, zero, suc, ◌+◌, ◌-◌, ◌≤◌, Bool, true, false, ◌&&◌, if◌then◌else◌, List, [], ◌∷◌, ◌++◌}
use Rattle.std.proofs.Common.{Option, None, Some, add-zero, ap, arith, length, refl, sym, ◌∙◌}
use Rattle.std.proofs.lemmas.Bool.{le-leb}
use Rattle.std.proofs.lemmas.List.{append-nil}
use Rattle.std.proofs.lemmas.List.Elements.{filter-append}
use Rattle.std.proofs.lemmas.List.Folds.{list_all-append}
use Rattle.ebc_base.specs.Steps.{◌>>=◌, or_else}
use Rattle.ebc_decode.specs.Reading.{read}
use Rattle.ebc_machine.specs.Fetch.{fetched, or_exception}
use Rattle.frame_stack.specs.declared.Frame.{Frame}
use Rattle.host_model.specs.Placements.{own_placement}
use Rattle.host_model.specs.RunState.{RunState}
use Rattle.host_model.specs.Runs.{run_step}
use Rattle.host_model.specs.World.{World}
use Rattle.note_types.specs.Concrete.{Concrete, rest_from}
use Rattle.note_types.specs.declared.ending.Ending.{Ending}
use Rattle.note_types.specs.declared.ending.Ending.TheVariants.{Running, Finished, Raised, Mismatch, ScriptEnd}
use Rattle.note_types.specs.declared.exception.Exception.TheVariants as raises
use Rattle.pe_image.specs.Mapped.{mapped}
use Rattle.pe_image.specs.declared.image.Image.{Image}
use Rattle.twin_run.specs.Reported.{own_run}
use Rattle.twin_run.specs.Runner.{hosts_of}
use Rattle.twin_run.specs.declared.runner.AskedCall.{AskedCall}
use Rattle.twin_run.proofs.BoundLaws.{hosts_count}
use Rattle.twin_run.proofs.OnItsWay.{run-next}
use Rattle.twin_run.proofs.Stepping.{ended-is-last}
use Rattle.run_trace.specs.Calls.{all_open, call_at, call_length, call_of, next_back, open_calls, stack_top, stays_below}
use Rattle.run_trace.specs.Calls.{still_open, top_after, while_running}
use Rattle.run_trace.specs.declared.calls.InnerCall.{InnerCall}
use Rattle.printed_texts.proofs.RangeLaws.{flat_more, range_more}
use Rattle.run_trace.proofs.TraceLaws.{none-over}

-- ---- the next instruction

-- where no object holds ip there is none
pub no-call : (s : Concrete) → rest_from s s.ip ≡ None → None ≡ call_length (fetched s)
unfolding fetched
no-call s none = sym (ap (λ o. call_length (or_else raises.MemoryFault o >>= (λ bytes. or_exception (read bytes)))) none)

-- ---- what lies on a stack while its top moves

twice : {A : Type 0} (p : A → Bool) (xs : List A) → filter p (filter p xs) ≡ filter p xs
twice p [] = refl
twice p (x ∷ xs) = go (p x) refl (twice p xs)
  where
    go : (b : Bool) → p x ≡ b → filter p (filter p xs) ≡ filter p xs → filter p (filter p (x ∷ xs)) ≡ filter p (x ∷ xs)
    go true is rest = rw is (rw is (ap (λ t. x ∷ t) rest))
    go false is rest = rw is rest

stays-more : (top : ℕ → ℕ) (i k : ℕ) → i ≤ k → stays_below top i (k + 1) ≡ (stays_below top i k && nat_le (top (k + 1)) (top i))
stays-more top i k least =
    let count : k + 1 + 1 - i ≡ suc (k + 1 - i) = omega (arith, least) in
    let last : i + (k + 1 - i) ≡ k + 1 = omega (arith, least) in
    let is : ℕ → Bool = λ j. nat_le (top j) (top i) in
    ap (λ n. list_all is (range_with_len i n)) count ∙ ap (list_all is) (range_more i (k + 1 - i))
    ∙ list_all-append is (range_with_len i (k + 1 - i)) ((i + (k + 1 - i)) ∷ [])
    ∙ ap (λ j. stays_below top i k && (is j && true)) last ∙ ap (λ b. stays_below top i k && b) (and-true (is (k + 1)))
  where
    and-true : (b : Bool) → (b && true) ≡ b
    and-true true = refl
    and-true false = refl

module _ {A : Type 0} (top : ℕ → ℕ) (put : ℕ → List A) (at : A → ℕ)
    (lie : (x i : ℕ) → filter (λ c. nat_le x (at c)) (put i) ≡ (if nat_le x (top i) then put i else [])) where
  -- whether something lies no lower than the top after k steps
  abbrev pub kept : ℕ → A → Bool
  kept k c = nat_le (top k) (at c)

  open-more : (i k : ℕ) → i ≤ k → still_open top put (k + 1) i ≡ filter (kept (k + 1)) (still_open top put k i)
  unfolding still_open
  open-more i k least = ap (λ b. if b then put i else []) (stays-more top i k least) ∙ go (stays_below top i k)
    where
      go : (b : Bool) → (if b && nat_le (top (k + 1)) (top i) then put i else []) ≡ filter (kept (k + 1)) (if b then put i else [])
      go true = sym (lie (top (k + 1)) i)
      go false = refl

  many-more : (k a n : ℕ) → a + n ≤ k + 1 → flat_map (still_open top put (k + 1)) (range_with_len a n)
      ≡ filter (kept (k + 1)) (flat_map (still_open top put k) (range_with_len a n))
  many-more k a zero few = refl
  many-more k a (suc n) few =
      let least : a ≤ k = omega (arith, few) in
      let rest : a + 1 + n ≤ k + 1 = omega (arith, few) in
      ap (λ t. t ++ flat_map (still_open top put (k + 1)) (range_with_len (a + 1) n)) (open-more a k least)
      ∙ ap (λ t. filter (kept (k + 1)) (still_open top put k a) ++ t) (many-more k (a + 1) n rest)
      ∙ sym (filter-append (kept (k + 1)) (still_open top put k a) (flat_map (still_open top put k) (range_with_len (a + 1) n)))

  -- what a step has put there lies at the top
  new-kept : (i : ℕ) → filter (kept i) (put i) ≡ put i
  new-kept i = lie (top i) i ∙ ap (λ b. if b then put i else []) (le-leb (top i) (top i) (omega arith))

  last-open : (k : ℕ) → still_open top put (k + 1) (1 + k) ≡ put (k + 1)
  unfolding still_open
  last-open k =
      let next : 1 + k ≡ k + 1 = omega arith in
      let one : k + 1 + 1 - (k + 1) ≡ 1 = omega arith in
      ap (still_open top put (k + 1)) next
      ∙ ap (λ n. if list_all (λ j. nat_le (top j) (top (k + 1))) (range_with_len (k + 1) n) then put (k + 1) else []) one
      ∙ ap (λ b. if b && true then put (k + 1) else []) (le-leb (top (k + 1)) (top (k + 1)) (omega arith))

  pub all-more : (k : ℕ) → all_open top put (k + 1) ≡ filter (kept (k + 1)) (all_open top put k) ++ put (k + 1)
  unfolding all_open
  all-more k =
      let next : k + 1 ≡ suc k = omega arith in
      ap (λ n. flat_map (still_open top put (k + 1)) (range_with_len 1 n)) next
      ∙ flat_more (still_open top put (k + 1)) 1 k
      ∙ ap (λ t. t ++ still_open top put (k + 1) (1 + k)) (many-more k 1 k (omega arith))
      ∙ ap (λ t. filter (kept (k + 1)) (flat_map (still_open top put k) (range_with_len 1 k)) ++ t) (last-open k)

  pub all-kept : (k : ℕ) → filter (kept k) (all_open top put k) ≡ all_open top put k
  unfolding all_open
  all-kept zero = refl
  all-kept (suc k) =
      let next : suc k ≡ k + 1 = omega arith in
      let p : A → Bool = kept (k + 1) in
      let old : List A = all_open top put k in
      ap (λ n. filter (kept n) (all_open top put n)) next ∙ ap (filter p) (all-more k)
      ∙ filter-append p (filter p old) (put (k + 1))
      ∙ ap (λ t. t ++ filter p (put (k + 1))) (twice p old) ∙ ap (λ t. filter p old ++ t) (new-kept (k + 1))
      ∙ sym (all-more k) ∙ ap (all_open top put) (sym next)

  -- once the top stays where it is, and nothing more is put there
  pub all-stay : (k : ℕ) → top (k + 1) ≡ top k → put (k + 1) ≡ [] → all_open top put (k + 1) ≡ all_open top put k
  all-stay k same none =
      all-more k ∙ ap (λ t. filter (kept (k + 1)) (all_open top put k) ++ t) none
      ∙ append-nil (filter (kept (k + 1)) (all_open top put k))
      ∙ ap (λ x. filter (λ c. nat_le x (at c)) (all_open top put k)) same ∙ all-kept k

-- ---- the CALLs of a run

-- a CALL lies where R0 was after it
call-lies : (x : ℕ) (s : RunState) (back : Option ℕ)
    → filter (λ (c : InnerCall). nat_le x c.stack) (call_of s back) ≡ (if nat_le x (stack_top s) then call_of s back else [])
call-lies x s None = go (nat_le x (stack_top s)) []
  where
    go : (b : Bool) (calls : List InnerCall) → calls ≡ (if b then calls else calls)
    go true calls = refl
    go false calls = refl
call-lies x s (Some back) = go s.ending (nat_le x (stack_top s)) refl
  where
    call : InnerCall
    call = record { entered = length s.hosts; stack = stack_top s; back = back }

    go : (e : Ending) (b : Bool) → nat_le x (stack_top s) ≡ b
        → filter (λ (c : InnerCall). nat_le x c.stack) (while_running e (call ∷ [])) ≡ (if b then while_running e (call ∷ []) else [])
    go Running true is = rw is refl
    go Running false is = rw is refl
    go (Finished v) true is = refl
    go (Finished v) false is = refl
    go (Raised v) true is = refl
    go (Raised v) false is = refl
    go (Mismatch v) true is = refl
    go (Mismatch v) false is = refl
    go ScriptEnd true is = refl
    go ScriptEnd false is = refl

-- the CALL of a step after which a runner's registers and frames are these
pub call-is : (s : RunState) (asked : Option AskedCall) (frames : List Frame) (registers : List ℕ) (depth back : ℕ)
    → hosts_of asked frames ≡ s.hosts → depth ≡ length frames → registers ≡ s.machine.registers → s.ending ≡ Running
    → record { entered = depth; stack = slice_index registers 0; back = back } ∷ [] ≡ call_of s (Some back)
call-is s asked frames registers depth back are many hold on =
    let deep : depth ≡ length s.hosts = many ∙ sym (hosts_count asked frames) ∙ ap length are in
    (λ i. record { entered = deep i; stack = slice_index (hold i) 0; back = back } ∷ [])
    ∙ ap (λ e. while_running e (record { entered = length s.hosts; stack = stack_top s; back = back } ∷ [])) (sym on)

-- a step that ended the run, or came after its end, is none
pub ended-call : (s : RunState) (back : Option ℕ) → s.ending ≢ Running → call_of s back ≡ []
ended-call s None over = refl
ended-call s (Some back) over = none-over s.ending _ over

-- what is left of CALLs that were open, once a step has taken a run from the state r to the state s, and behind these the CALL that the
-- step did
unfoldable pub followed : World → (r s : RunState) → List InnerCall → List InnerCall
followed world r s calls = filter (λ (c : InnerCall). nat_le (stack_top s) c.stack) calls ++ call_of s (next_back world r)

-- what is left and what is added are the CALLs that are open after a step
pub follows : (world : World) (r s : RunState) (back : Option ℕ) (old new : List InnerCall) → back ≡ next_back world r
    → new ≡ filter (λ (c : InnerCall). nat_le (stack_top s) c.stack) old ++ call_of s back → new ≡ followed world r s old
unfolding followed
follows world r s back old new same is =
    is ∙ ap (λ b. filter (λ (c : InnerCall). nat_le (stack_top s) c.stack) old ++ call_of s b) same

module _ (w : ℕ) (image : Image) (world : World) where
  -- at the start
  pub open-none : open_calls w image world 0 ≡ []
  unfolding all_open
  open-none = refl

  calls-lie : (x i : ℕ) → filter (λ (c : InnerCall). nat_le x c.stack) (call_at w image world i)
      ≡ (if nat_le x (top_after w image world i) then call_at w image world i else [])
  calls-lie x i = call-lies x (own_run w image world i) (next_back world (own_run w image world (i - 1)))

  -- a step more
  pub open-next : (k : ℕ) → open_calls w image world (k + 1)
      ≡ followed world (own_run w image world k) (run_step w world (own_placement w world) (own_run w image world k))
      (open_calls w image world k)
  unfolding followed
  open-next k =
      let back : k + 1 - 1 ≡ k = omega arith in
      all-more (top_after w image world) (call_at w image world) (λ c. c.stack) calls-lie k
      ∙ ap (λ j. followed world (own_run w image world j) (own_run w image world (k + 1)) (open_calls w image world k)) back
      ∙ ap (λ s. followed world (own_run w image world k) s (open_calls w image world k)) (run-next w image world k)

  -- none more, once the run has ended
  pub open-ended : (k d : ℕ) → (own_run w image world k).ending ≢ Running → open_calls w image world (k + d) ≡ open_calls w image world k
  open-ended k zero over = ap (open_calls w image world) (add-zero k)
  open-ended k (suc d) over =
      let next : k + suc d ≡ k + d + 1 = omega arith in
      let one : k + d + 1 ≡ k + suc d = omega arith in
      let last : own_run w image world (k + d + 1) ≡ own_run w image world k = ap (own_run w image world) one ∙ stays (suc d) in
      ap (open_calls w image world) next
      ∙ all-stay (top_after w image world) (call_at w image world) (λ c. c.stack) calls-lie (k + d)
      (ap stack_top (last ∙ sym (stays d)))
      (ended-call (own_run w image world (k + d + 1)) _ (λ on. over (sym (ap (λ (r : RunState). r.ending) last) ∙ on)))
      ∙ open-ended k d over
    where
      stays : (m : ℕ) → own_run w image world (k + m) ≡ own_run w image world k
      stays m = ended-is-last w world (own_placement w world) (mapped image (own_placement w world).image) k m over
