-- The states at the leaders, by their numbers and by their places, when a state is joined in.
use Rattle.note_infer.proofs.Common.{◌≡◌, ℕ, zero, suc, ◌<◌, Bool, true, false, nat_eq, if◌then◌else◌, List, [], ◌∷◌, ◌++◌, length, get_or}
use Rattle.note_infer.proofs.Common.{refl, sym, ap, subst, ◌∙◌, arith, get_or-set_same, length-set, Option, None, Some, option_and_then}
use Rattle.note_infer.proofs.Common.{slice_index, slice_index_or, Contains, IsStrictlyIncreasing, nat_tests, AllPairs-from_increasing}
use Rattle.note_infer.proofs.Common.{FnNote, State, taken_in, IsWithin, States, all_in, ClashesAt, Takes, given_to, state_at}
use Rattle.std.proofs.lemmas.List.Elements.{Contains-append_cases, Contains-append_left, Contains-push}
use Rattle.note_infer.proofs.Common.{inl, inr, ◌⊎◌, Err, IsComing, Ok, Result}
use Rattle.std.specs.Prelude.{OnOk, ◌↔◌}
use Rattle.note_infer.specs.Refusing.{OnClash}
use Rattle.note_infer.specs.declared.coming.Coming.{Coming}
use Rattle.note_infer.specs.declared.coming.NotTaken.{NotTaken}
use Rattle.note_infer.specs.declared.coming.NotTaken.TheVariants as refusals
use Rattle.std.proofs.{Common.get_or-set_other, lemmas.Bool.cond-false, lemmas.Bool.cond-true, lemmas.Bool.eq-eqb, lemmas.Bool.ne_eqb}
use Rattle.rules_flow.specs.Successors.{falls}
use Rattle.note_infer.specs.Rounds.{given}
use Rattle.note_infer.specs.Coming.{TakesNumber}

-- numbers that rise, each below all later ones
abbrev pub Rise : List ℕ → Type 0
Rise xs = (i j : ℕ) → i < j → j < length xs → get_or xs i 0 < get_or xs j 0

pub rise_of : (xs : List ℕ) → IsStrictlyIncreasing xs → Rise xs
rise_of xs up i j less short = AllPairs-from_increasing xs up i j 0 less short

number_in : (xs : List ℕ) (os : List (Option State)) (k : ℕ) → Rise xs → k < length xs → length os ≡ length xs
    → state_at xs os (get_or xs k 0) ≡ get_or os k None
unfolding state_at
number_in [] os k up short long = absurd (omega arith)
number_in (x ∷ xs) [] k up short long = absurd (omega arith)
number_in (x ∷ xs) (o ∷ os) zero up short long = cond-true (nat_eq x x) o (state_at xs os x) (eq-eqb x x refl)
number_in (x ∷ xs) (o ∷ os) (suc k) up short long =
    cond-false (nat_eq x (get_or xs k 0)) o (state_at xs os (get_or xs k 0))
    (ne_eqb x (get_or xs k 0) (λ e. let h = up 0 (suc k) (omega arith) short in omega arith))
    ∙ number_in xs os k (λ i j less below. up (suc i) (suc j) (omega arith) (omega arith)) (omega arith) (omega arith)

-- the state at the leader of a number
pub at_number : (leaders : List ℕ) (states : List (Option State)) (k leader : ℕ) → IsStrictlyIncreasing leaders → k < length leaders
    → length states ≡ length leaders → slice_index leaders k ≡ leader → state_at leaders states leader ≡ slice_index_or states k None
at_number leaders states k leader up short long e =
    ap (state_at leaders states) (sym e) ∙ number_in leaders states k (rise_of leaders up) short long

-- the number of a leader
pub number_of : (leaders : List ℕ) (leader : ℕ) (c : Contains leaders leader) → slice_index leaders c.0 ≡ leader
number_of leaders leader c = default_free leaders c.0 c.1 leader ∙ c.2
  where
    default_free : (xs : List ℕ) (k : ℕ) → k < length xs → (d : ℕ) → get_or xs k 0 ≡ get_or xs k d
    default_free [] k h d = absurd (omega arith)
    default_free (x ∷ xs) zero h d = refl
    default_free (x ∷ xs) (suc k) h d = default_free xs k (omega arith) d

pub all_one : (come : Option State) (s u : State) → taken_in come s ≡ Some u → all_in come (s ∷ []) ≡ Some (Some u)
unfolding all_in
all_one come s u e = ap (option_and_then (λ (t : State). all_in (Some t) [])) e

all_clash : (come : Option State) (s : State) → taken_in come s ≡ None → all_in come (s ∷ []) ≡ None
unfolding all_in
all_clash come s e = ap (option_and_then (λ (t : State). all_in (Some t) [])) e

pub all_none : (come : Option State) → all_in come [] ≡ Some come
unfolding all_in
all_none come = refl

-- where nothing is given nothing changes
pub takes_none : (leaders : List ℕ) (f : FnNote) (given : ℕ → List State) (old : States)
    → ((leader : ℕ) → Contains leaders leader → IsWithin f leader → given leader ≡ []) → Takes leaders f given old old
takes_none leaders f given old none = record {
  within = λ leader c w. ap (all_in (old leader)) (none leader c w) ∙ all_none (old leader);
  others = λ leader c w. refl;
}

pub given_apart : (place leader : ℕ) (s : State) → (place ≡ leader → ⊥) → given_to place s leader ≡ []
given_apart place leader s apart = cond-false (nat_eq place leader) (s ∷ []) [] (ne_eqb place leader apart)

pub takes_outside : (leaders : List ℕ) (f : FnNote) (place : ℕ) (s : State) (old : States) → (IsWithin f place → ⊥)
    → Takes leaders f (given_to place s) old old
takes_outside leaders f place s old out =
    takes_none leaders f (given_to place s) old (λ l c w. given_apart place l s (λ e. out (subst (IsWithin f) (sym e) w)))

pub takes_apart : (leaders : List ℕ) (f : FnNote) (place : ℕ) (s : State) (old : States) → (Contains leaders place → ⊥)
    → Takes leaders f (given_to place s) old old
takes_apart leaders f place s old none =
    takes_none leaders f (given_to place s) old (λ l c w. given_apart place l s (λ e. none (subst (Contains leaders) (sym e) c)))

-- a state that goes to a leader of the function
module _ (leaders : List ℕ) (f : FnNote) (up : IsStrictlyIncreasing leaders) (old new : List (Option State)) (k place : ℕ) (s : State)
    (short : k < length leaders) (long : length old ≡ length leaders) (at : slice_index leaders k ≡ place) (w : IsWithin f place) where
  pub takes_at : TakesNumber old new k s → Takes leaders f (given_to place s) (state_at leaders old) (state_at leaders new)
  takes_at t = record { within = within; others = others }
    where
      still_long : length new ≡ length leaders
      still_long = ap length t.is ∙ length-set old k (Some t.u) ∙ long

      other : (leader : ℕ) → Contains leaders leader → (place ≡ leader → ⊥) → state_at leaders new leader ≡ state_at leaders old leader
      other leader c apart =
          let e = number_of leaders leader c in
          let differ : c.0 ≡ k → ⊥ = λ q. apart (sym at ∙ ap (slice_index leaders) (sym q) ∙ e) in
          at_number leaders new c.0 leader up c.1 still_long e
          ∙ ap (λ xs. slice_index_or xs c.0 None) t.is
          ∙ get_or-set_other old k c.0 (Some t.u) None differ
          ∙ sym (at_number leaders old c.0 leader up c.1 long e)

      here : state_at leaders new place ≡ Some t.u
      here = at_number leaders new k place up short still_long at
          ∙ ap (λ xs. slice_index_or xs k None) t.is
          ∙ get_or-set_same old k (Some t.u) None (omega arith)

      within : (leader : ℕ) → Contains leaders leader → IsWithin f leader
          → all_in (state_at leaders old leader) (given_to place s leader) ≡ Some (state_at leaders new leader)
      within leader c v = by_test (nat_eq place leader) refl
        where
          by_test : (b : Bool) → nat_eq place leader ≡ b
              → all_in (state_at leaders old leader) (if b then s ∷ [] else []) ≡ Some (state_at leaders new leader)
          by_test true e =
              let same : place ≡ leader = grind (arith, nat_tests) in
              subst (λ x. all_in (state_at leaders old x) (s ∷ []) ≡ Some (state_at leaders new x)) same
              (all_one (state_at leaders old place) s t.u
              (ap (λ o. taken_in o s) (at_number leaders old k place up short long at) ∙ t.taken)
              ∙ ap (λ o. Some o) (sym here))
          by_test false e =
              let apart : place ≡ leader → ⊥ = λ q. absurd (let h = eq-eqb place leader q in cc) in
              all_none (state_at leaders old leader) ∙ ap (λ o. Some o) (sym (other leader c apart))

      others : (leader : ℕ) → Contains leaders leader → (IsWithin f leader → ⊥) → state_at leaders new leader ≡ state_at leaders old leader
      others leader c out = other leader c (λ e. out (subst (IsWithin f) e w))

  pub clashes_at : taken_in (slice_index_or old k None) s ≡ None → ClashesAt leaders f (given_to place s) (state_at leaders old)
  clashes_at e = record {
    leader = place;
    there = (k, short, there);
    within = w;
    clash = ap (all_in (state_at leaders old place)) (cond-true (nat_eq place place) (s ∷ []) [] (eq-eqb place place refl))
        ∙ all_clash (state_at leaders old place) s (ap (λ o. taken_in o s) (at_number leaders old k place up short long at) ∙ e);
  }
    where
      default_free : (xs : List ℕ) (k : ℕ) → k < length xs → (d : ℕ) → get_or xs k d ≡ get_or xs k 0
      default_free [] k h d = absurd (omega arith)
      default_free (x ∷ xs) zero h d = refl
      default_free (x ∷ xs) (suc k) h d = default_free xs k (omega arith) d

      there : slice_index_or leaders k place ≡ place
      there = default_free leaders k short place ∙ at

-- ---- a fall before a jump

all_append : (ts us : List State) (come : Option State) (mid : Option State) → all_in come ts ≡ Some mid
    → all_in come (ts ++ us) ≡ all_in mid us
unfolding all_in
all_append [] us come mid e = ap (λ o. all_in (or_else_some o) us) e
  where
    or_else_some : Option (Option State) → Option State
    or_else_some None = None
    or_else_some (Some o) = o
all_append (t ∷ ts) us come mid e = by_case (λ u. all_append ts us (Some u) mid) (taken_in come t) e
  where
    by_case : ((u : State) → all_in (Some u) ts ≡ Some mid → all_in (Some u) (ts ++ us) ≡ all_in mid us) → (o : Option State)
        → option_and_then (λ (s : State). all_in (Some s) ts) o ≡ Some mid
        → option_and_then (λ (s : State). all_in (Some s) (ts ++ us)) o ≡ all_in mid us
    by_case rest None g = absurd cc
    by_case rest (Some u) g = rest u g

append_clash : (ts us : List State) (come : Option State) → all_in come ts ≡ None → all_in come (ts ++ us) ≡ None
unfolding all_in
append_clash [] us come e = absurd cc
append_clash (t ∷ ts) us come e = by_case (λ u. append_clash ts us (Some u)) (taken_in come t) e
  where
    by_case : ((u : State) → all_in (Some u) ts ≡ None → all_in (Some u) (ts ++ us) ≡ None) → (o : Option State)
        → option_and_then (λ (s : State). all_in (Some s) ts) o ≡ None
        → option_and_then (λ (s : State). all_in (Some s) (ts ++ us)) o ≡ None
    by_case rest None g = refl
    by_case rest (Some u) g = rest u g

pub takes_both : (leaders : List ℕ) (f : FnNote) (first second : ℕ → List State) (old mid new : States) → Takes leaders f first old mid
    → Takes leaders f second mid new → Takes leaders f (λ (l : ℕ). first l ++ second l) old new
takes_both leaders f first second old mid new a b = record {
  within = λ leader c w. all_append (first leader) (second leader) (old leader) (mid leader) (a.within leader c w) ∙ b.within leader c w;
  others = λ leader c w. b.others leader c w ∙ a.others leader c w;
}

pub clash_first : (leaders : List ℕ) (f : FnNote) (first second : ℕ → List State) (old : States) → ClashesAt leaders f first old
    → ClashesAt leaders f (λ (l : ℕ). first l ++ second l) old
clash_first leaders f first second old h = record {
  leader = h.leader;
  there = h.there;
  within = h.within;
  clash = append_clash (first h.leader) (second h.leader) (old h.leader) h.clash;
}

pub clash_second : (leaders : List ℕ) (f : FnNote) (first second : ℕ → List State) (old mid : States) → Takes leaders f first old mid
    → ClashesAt leaders f second mid → ClashesAt leaders f (λ (l : ℕ). first l ++ second l) old
clash_second leaders f first second old mid a h = record {
  leader = h.leader;
  there = h.there;
  within = h.within;
  clash = all_append (first h.leader) (second h.leader) (old h.leader) (mid h.leader) (a.within h.leader h.there h.within) ∙ h.clash;
}

-- a fall to a place where no leader is gives nothing
pub takes_fall_apart : (leaders : List ℕ) (f : FnNote) (next : ℕ) (s : State) (old : States) → (Contains leaders next → ⊥)
    → Takes leaders f (λ (l : ℕ). given l next (falls s)) old old
takes_fall_apart leaders f next s old none =
    takes_both leaders f (given_to next s) (λ (l : ℕ). []) old old old (takes_apart leaders f next s old none)
    (takes_none leaders f (λ (l : ℕ). []) old (λ l c w. refl))

-- ---- what is still coming

-- two facts of a call that gave no error give a third
pub both_ok : {T E P Q R : Type 0} (r : Result T E) → (P → Q → R) → OnOk r P → OnOk r Q → OnOk r R
both_ok (Ok x) f p q = f p q
both_ok (Err e) f p q = p

-- a clash is one where what it stands for follows
pub clash_weaker : {P Q : Type 0} (e : NotTaken) → (P → Q) → OnClash P e → OnClash Q e
clash_weaker refusals.NoMemory f h = h
clash_weaker refusals.Clashes f h = f h

pub clash_at : {P : Type 0} (e : NotTaken) → e ≡ refusals.Clashes → OnClash P e → P
clash_at {P} e is h = subst (OnClash P) is h

-- what has come stays where the numbers are sorted
pub coming_sorted : (leaders : List ℕ) (c next : Coming) → IsComing leaders c → next.before.items ≡ c.before.items
    → next.states.items ≡ c.states.items → ((k : ℕ) → Contains next.given.items k ↔ Contains c.given.items k) → IsComing leaders next
coming_sorted leaders c next h before states same = record {
  before = ap length before ∙ h.before;
  states = ap length states ∙ h.states;
  given = λ k there. h.given k ((same k).0 there);
  quiet = λ k none. ap (λ xs. slice_index_or xs k None) states ∙ h.quiet k (λ there. none ((same k).1 there))
      ∙ sym (ap (λ xs. slice_index_or xs k None) before);
}

-- a state was joined in at a leader, to which something was given then
pub coming_more : (leaders : List ℕ) (c next : Coming) (number : ℕ) (s : State) → number < length leaders → IsComing leaders c
    → TakesNumber c.states.items next.states.items number s → next.given.items ≡ c.given.items ++ number ∷ []
    → next.before.items ≡ c.before.items → IsComing leaders next
coming_more leaders c next number s short h t given before = record {
  before = ap length before ∙ h.before;
  states = ap length t.is ∙ length-set c.states.items number (Some t.u) ∙ h.states;
  given = λ k there. by_cases k (Contains-append_cases c.given.items (number ∷ []) k (subst (λ (xs : List ℕ). Contains xs k) given there));
  quiet = λ k none.
      let apart : k ≡ number → ⊥ = λ e. none (subst (Contains next.given.items) (sym e)
      (subst (λ (xs : List ℕ). Contains xs number) (sym given) (Contains-push c.given.items number))) in
      ap (λ xs. slice_index_or xs k None) t.is
      ∙ get_or-set_other c.states.items number k (Some t.u) None apart
      ∙ h.quiet k (λ there. none (subst (λ (xs : List ℕ). Contains xs k) (sym given)
      (Contains-append_left c.given.items (number ∷ []) k there)))
      ∙ sym (ap (λ xs. slice_index_or xs k None) before);
}
  where
    by_cases : (k : ℕ) → Contains c.given.items k ⊎ Contains (number ∷ []) k → k < length leaders
    by_cases k (inl there) = h.given k there
    by_cases k (inr there) = last there.0 there.1 there.2
      where
        last : (j : ℕ) → j < 1 → get_or (number ∷ []) j k ≡ k → k < length leaders
        last zero less e = omega arith
        last (suc j) less e = absurd (omega arith)
