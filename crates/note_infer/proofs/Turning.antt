-- Rounds, one after another: what holds where the walks of a round begin, and what follows where it went through.
use Rattle.note_infer.proofs.Common.{◌≡◌, ℕ, zero, suc, ◌^◌, ◌<◌, Bool, true, nat_eq, if◌then◌else◌, List, [], ◌∷◌, length, map, get_or}
use Rattle.note_infer.proofs.Common.{replicate, refl, sym, ap, subst, ◌∙◌, ⊎_elim, arith, None, Option, Some, option_and_then, Contains}
use Rattle.note_infer.proofs.Common.{IsStrictlyIncreasing, nat_tests, ext_get_or, none-some, same_Some, entry_state, FnNote, Notes, State}
use Rattle.note_infer.proofs.Common.{taken_in, Image, TablesHold, IsSettled, AreFound, IsFound, leaders_rank, AreAfter, AreSame, Comes}
use Rattle.note_infer.proofs.Common.{HasCome, IsRound, IsWithin, States, all_in, at_entry, at_leader, by_entry, AreEntries, StartsAt}
use Rattle.note_infer.proofs.Common.{state_at, IsSetting, AllRest, Reached, origin, rests_none, AreStarts, Start}
use Rattle.note_infer.proofs.{Promising.rounds_end, RoundStates.AllFound, RoundStates.after_found, RoundStates.entry_found}
use Rattle.note_infer.proofs.{Entering.nothing_before, Passing.marks_read, Passing.range_of, Resting.begin_next, Resting.rest_next}
use Rattle.note_infer.proofs.{Resting.whole_round, Searching.there_at, Settling.all_new, StatesAt.at_number}
use Rattle.note_infer.specs.{Beginning.AreChanges, Beginning.StayKnown, Stopping.IsEnd, Stopping.IsNotFound}
use Rattle.note_infer.specs.declared.rounds.NotFound.{NotFound}
use Rattle.note_infer.specs.declared.rounds.NotFound.TheVariants as failures

-- the walks of a round begin: the states before it and what has come to the leaders, in the leaders' order
pub record IsTurn (image : Image) (notes : Notes) (leaders : List ℕ) (starts : List Start) (before come : List (Option State)) : Type 0
  where
    pub begin : AreStarts notes leaders (state_at leaders before) starts
    pub rest : AllRest image notes leaders (state_at leaders before) (map (λ (x : Start). x.place) starts)
    pub reached : Reached image notes leaders (state_at leaders before) (state_at leaders come) 0
    pub rounds : ℕ
    pub after : AreAfter image notes leaders rounds (state_at leaders before)

-- a round went through from the states before it: the walks of the next one begin, or rounds have settled
pub record HasGone (image : Image) (notes : Notes) (leaders : List ℕ) (before next come : List (Option State)) (starts : List Start)
    : Type 0 where
  pub turn : IsTurn image notes leaders starts next come
  pub falls : (length starts ≡ 0 → ⊥) → leaders_rank (state_at leaders next) leaders < leaders_rank (state_at leaders before) leaders
  pub settled : TablesHold image notes → length starts ≡ 0 → IsSettled image notes leaders (state_at leaders come)

-- ---- lists of states

-- where the leaders have the same states the lists are the same
same_lists : (leaders : List ℕ) → IsStrictlyIncreasing leaders → (os ns : List (Option State)) → length os ≡ length leaders
    → length ns ≡ length leaders → AreSame leaders (state_at leaders os) (state_at leaders ns) → ns ≡ os
same_lists leaders up os ns old new same =
    ext_get_or None ns os (new ∙ sym old)
    (λ k short. sym (at_number leaders ns k (get_or leaders k 0) up (omega arith) new refl)
    ∙ same (get_or leaders k 0) (there_at leaders (get_or leaders k 0) k (omega arith) refl)
    ∙ at_number leaders os k (get_or leaders k 0) up (omega arith) old refl)

-- ---- what is known stays known

some_stays : (ts : List State) (s : State) (come : Option State) → all_in (Some s) ts ≡ Some come → come ≡ None → ⊥
unfolding all_in
some_stays [] s come e q = none-some s (sym q ∙ sym (same_Some (Some s) come e))
some_stays (t ∷ ts) s come e q = by_case (λ u h. some_stays ts u come h q) (taken_in (Some s) t) e
  where
    by_case : ((u : State) → all_in (Some u) ts ≡ Some come → ⊥) → (o : Option State)
        → option_and_then (λ (u : State). all_in (Some u) ts) o ≡ Some come → ⊥
    by_case rest None g = absurd cc
    by_case rest (Some u) g = rest u g

all_known : (ts : List State) (had come : Option State) → all_in had ts ≡ Some come → come ≡ None → had ≡ None
all_known ts None come e q = refl
all_known ts (Some s) come e q = absurd (some_stays ts s come e q)

come_known : (image : Image) (notes : Notes) (leaders : List ℕ) (states : States) (k : ℕ) (f : FnNote) (leader place : ℕ)
    (come : Option State) → HasCome image notes leaders states k f leader place come → come ≡ None → states leader ≡ None
unfolding HasCome
come_known image notes leaders states k f leader zero come h q = all_known (by_entry notes k f leader) (states leader) come h q
come_known image notes leaders states k f leader (suc place) come h q =
    come_known image notes leaders states k f leader place h.had h.before_is (all_known h.states h.had come h.all q)

-- ---- starts

some_start : (starts : List Start) → (length starts ≡ 0 → ⊥) → (place : ℕ) × StartsAt starts place
some_start [] some = absurd (some refl)
some_start (x ∷ xs) some = (x.place, (0, omega arith, refl))

no_start : (starts : List Start) (place : ℕ) → length starts ≡ 0 → StartsAt starts place → ⊥
no_start [] place none s = let short = s.1 in omega arith
no_start (x ∷ xs) place none s = omega (arith, none)

-- ---- the first round

-- before it every walk begins at an entry
entry_origin : (image : Image) (notes : Notes) (leaders : List ℕ) (states : States) → ((x : ℕ) → states x ≡ None) → (work : List ℕ)
    → (k : ℕ) (f : FnNote) → ((Contains leaders f.place → ⊥) → Contains work f.place) → (n p : ℕ) (s : State)
    → (c : Comes image notes leaders states k f n p s) → Contains work (origin image notes leaders states k f n p s c)
unfolding Comes origin
entry_origin image notes leaders states none work k f begins zero p s (at_leader c w e) = absurd (none-some s (sym (none p) ∙ e))
entry_origin image notes leaders states none work k f begins zero p s (at_entry c at e) =
    subst (Contains work) (sym at) (begins (λ d. c (subst (Contains leaders) (sym at) d)))
entry_origin image notes leaders states none work k f begins (suc n) p s c =
    entry_origin image notes leaders states none work k f begins n c.last c.state c.has_state

by_own-entry : (notes : Notes) (k : ℕ) (f : FnNote) → by_entry notes k f f.place ≡ entry_state notes k ∷ []
by_own-entry notes k f =
    let own : nat_eq f.place f.place ≡ true = grind (arith, nat_tests) in
    ap (λ (b : Bool). if b then entry_state notes k ∷ [] else []) own

module _ (image : Image) (notes other : Notes) (leaders : List ℕ) (g : IsSetting image notes other leaders) where
  first_reached : (states come : States) (starts : List Start) → ((x : ℕ) → states x ≡ None)
      → AreEntries notes leaders states come starts → Reached image notes leaders states come 0
  unfolding HasCome
  first_reached states come starts none h = record {
    stands = λ k f there p less inside. absurd (omega arith);
    comes = λ k f there leader c w from. h.taken k f there leader c w;
    done = λ k f there leader c w past. absurd (let r = range_of image notes other leaders g k f there in omega arith);
    keeps = λ k f there leader c w t found a. absurd (none-some a.0 (sym (none leader) ∙ a.1));
    entered = λ k f there c.
        let first : IsWithin f f.place = (omega arith, range_of image notes other leaders g k f there) in
        all_new notes f (entry_state notes k ∷ []) (states f.place) (come f.place)
        (λ s q. absurd (none-some s (sym (none f.place) ∙ q))) (own k f)
        (subst (λ ts. all_in (states f.place) ts ≡ Some (come f.place)) (by_own-entry notes k f) (h.taken k f there f.place c first))
        0 (entry_state notes k) refl;
  }
    where
      own : (k : ℕ) (f : FnNote) → AllFound notes f (entry_state notes k ∷ [])
      own k f zero t e = subst (IsFound notes f) (same_Some (entry_state notes k) t e) (entry_found notes k f)
      own k f (suc j) t e = absurd cc

  pub first_turn : (starts : List Start) (before come : List (Option State)) → before ≡ replicate (length leaders) None
      → AreStarts notes leaders (state_at leaders before) starts
      → AreEntries notes leaders (state_at leaders before) (state_at leaders come) starts
      → IsTurn image notes leaders starts before come
  unfolding AreAfter
  first_turn starts before come e are h = record {
    begin = are;
    rest = λ k f there p inside. rests_none (λ n s c. entry_origin image notes leaders (state_at leaders before) none
        (map (λ (x : Start). x.place) starts) k f (h.begins k f there) n p s c);
    reached = first_reached (state_at leaders before) (state_at leaders come) starts none h;
    rounds = 0;
    after = none;
  }
    where
      none : (x : ℕ) → state_at leaders before x ≡ None
      none = nothing_before leaders before e

  -- ---- a round that went through

  module _ (starts : List Start) (first come : List (Option State)) (begun : IsTurn image notes leaders starts first come)
      (before next : List (Option State)) (kept : before ≡ first)
      (reached : Reached image notes leaders (state_at leaders before) (state_at leaders next) (2 ^ 22))
      (old : length before ≡ length leaders) (new : length next ≡ length leaders) where
    turn : IsTurn image notes leaders starts before come
    turn = subst (λ xs. IsTurn image notes leaders starts xs come) (sym kept) begun

    round : IsRound image notes leaders (state_at leaders before) (state_at leaders next)
    round = whole_round image notes other leaders g (state_at leaders before) (state_at leaders next) reached

    pub stays_known : StayKnown before next
    stays_known k short e =
        let x : ℕ = get_or leaders k 0 in
        let c : Contains leaders x = there_at leaders x k (omega arith) refl in
        let l = (g.all.all x).0 c in
        let none : state_at leaders next x ≡ None = at_number leaders next k x g.all.ascend (omega arith) new refl ∙ e in
        sym (at_number leaders before k x g.all.ascend (omega arith) old refl)
        ∙ come_known image notes leaders (state_at leaders before) l.number l.f x l.f.end (state_at leaders next x)
        (round.comes l.number l.f l.there x c (l.of.first, l.of.within)) none

    module _ (more : List Start) (h : AreChanges (state_at leaders before) (state_at leaders next) more) where
      -- the next one begins
      next_turn : AreStarts notes leaders (state_at leaders next) more → IsTurn image notes leaders more next next
      unfolding AreAfter
      next_turn are = record {
        begin = are;
        rest = rest_next image notes other leaders g (state_at leaders before) (state_at leaders next) reached
            (map (λ (x : Start). x.place) more) h.all;
        reached = begin_next image notes other leaders g (state_at leaders before) (state_at leaders next) reached;
        rounds = suc turn.rounds;
        after = (state_at leaders before, turn.after, round);
      }

      -- less is known then
      next_falls : (length more ≡ 0 → ⊥) → leaders_rank (state_at leaders next) leaders < leaders_rank (state_at leaders before) leaders
      next_falls some =
          ⊎_elim (λ same. absurd (let x = some_start more some in
          h.differ x.0 x.1 (ap (λ os. state_at leaders os x.0) (same_lists leaders g.all.ascend before next old new same))))
          (λ less. less)
          (rounds_end image notes leaders turn.rounds (state_at leaders before) (state_at leaders next)
          (record { read = g.read; all = g.all; few = g.few; after = turn.after }) round)

      -- or rounds have settled
      now_settled : TablesHold image notes → length more ≡ 0 → IsSettled image notes leaders (state_at leaders next)
      now_settled tables none =
          subst (λ os. IsSettled image notes leaders (state_at leaders os))
          (sym (same_lists leaders g.all.ascend before next old new same))
          (record {
            found = record {
              tables = tables;
              all = g.all;
              few = λ many. let few = g.few in omega arith;
              rounds = turn.rounds;
              after = turn.after;
            };
            next = state_at leaders next;
            round = round;
            same = same;
          })
        where
          same : AreSame leaders (state_at leaders before) (state_at leaders next)
          same x c = ⊎_elim (λ s. absurd (no_start more x none s)) (λ q. q) (h.all x)

    -- what came is the states before the next one
    pub gone_by : (more : List Start) (begin last : List (Option State)) → begin ≡ next → last ≡ next
        → AreStarts notes leaders (state_at leaders begin) more
        → AreChanges (state_at leaders before) (state_at leaders begin) more → HasGone image notes leaders first begin last more
    gone_by more begin last b l are h =
        subst (λ xs. HasGone image notes leaders xs begin last more) kept
        (subst (λ xs. HasGone image notes leaders before xs last more) (sym b)
        (subst (λ xs. HasGone image notes leaders before next xs more) (sym l)
        (record {
          turn = next_turn more changes (subst (λ xs. AreStarts notes leaders (state_at leaders xs) more) b are);
          falls = next_falls more changes;
          settled = now_settled more changes;
        })))
      where
        changes : AreChanges (state_at leaders before) (state_at leaders next) more
        changes = subst (λ xs. AreChanges (state_at leaders before) (state_at leaders xs) more) b h

  -- the states before a round are found
  pub turn_found : (starts : List Start) (before come : List (Option State)) → IsTurn image notes leaders starts before come
      → AreFound notes leaders (state_at leaders before)
  turn_found starts before come t =
      after_found image notes leaders (marks_read image notes other leaders g) t.rounds (state_at leaders before) t.after

  -- where a round doesn't go through, no states are found
  pub not_found : (starts : List Start) (before come : List (Option State)) → IsTurn image notes leaders starts before come
      → TablesHold image notes → (end : NotFound) → IsEnd image notes leaders (state_at leaders before) end
      → IsNotFound image notes leaders end
  not_found starts before come t tables failures.NoMemory h = h
  not_found starts before come t tables (failures.Stuck stop) h = record {
    states = state_at leaders before;
    found = record {
      tables = tables;
      all = g.all;
      few = λ many. let few = g.few in omega arith;
      rounds = t.rounds;
      after = t.after;
    };
    stuck = h;
  }
