-- The states of a round become those of the round before, leader by leader.
use Rattle.note_infer.proofs.Common.{◌≡◌, ◌⊎◌, ℕ, zero, suc, ◌+◌, ◌-◌, ◌^◌, ◌<◌, ◌≤◌, Bool, true, false, nat_eq, if◌then◌else◌, List, []}
use Rattle.note_infer.proofs.Common.{◌∷◌}
use Rattle.note_infer.proofs.Common.{◌++◌, length, get_or, refl, sym, ap, subst, ◌∙◌, ⊎_elim, arith, inl, inr, get_or-set_same, length-set}
use Rattle.note_infer.proofs.Common.{None, Option, Some, slice_get, slice_index, slice_index_or, Contains, IsStrictlyIncreasing, cases_lt}
use Rattle.note_infer.proofs.Common.{nat_tests, ext_get_or, AllPairs-from_increasing, none-some, slice_get_within, FnNote, Notes, State}
use Rattle.note_infer.proofs.Common.{Image, IsWithin, at_leader, StartsAt, Changed, turned, IsComing, state_at, IsSetting, AreStarts, Start}
use Rattle.std.proofs.{Common.get_or-set_other, lemmas.List.get_or_past}
use Rattle.std.specs.Prelude.{slice_set}
use Rattle.note_infer.specs.{Beginning.AreChanges, Changing.IsChange, Changing.IsChangeBelow, Changing.Turned, Changing.turned_none}
use Rattle.note_infer.specs.declared.coming.Coming.{Coming}
use Rattle.note_infer.proofs.{Entering.pushed_ascend, Entering.pushed_cases, Entering.starts_here, Entering.starts_kept, Rounding.start_of}
use Rattle.note_infer.proofs.{Searching.climb_of, Searching.there_at, StatesAt.at_number, StatesAt.number_of, StatesAt.rise_of}

-- ---- places that are no leaders

there_or_not : (xs : List ℕ) (x : ℕ) → Contains xs x ⊎ (Contains xs x → ⊥)
there_or_not [] x = inr (λ c. let short = c.1 in omega arith)
there_or_not (y ∷ ys) x = by_test (nat_eq y x) refl (there_or_not ys x)
  where
    by_test : (b : Bool) → nat_eq y x ≡ b → Contains ys x ⊎ (Contains ys x → ⊥) → Contains (y ∷ ys) x ⊎ (Contains (y ∷ ys) x → ⊥)
    by_test true e h = let same : y ≡ x = grind (arith, nat_tests) in inl (zero, omega arith, same)
    by_test false e h =
        ⊎_elim (λ c. inl (suc c.0, (let short = c.1 in omega arith), c.2))
        (λ none. inr (λ c. later none c.0 c.1 c.2))
        h
      where
        later : (Contains ys x → ⊥) → (k : ℕ) → k < length (y ∷ ys) → get_or (y ∷ ys) k x ≡ x → ⊥
        later none zero short q = let yes : nat_eq y x ≡ true = grind (arith, nat_tests) in cc
        later none (suc k) short q = none (k, omega arith, q)

apart_none : (ls : List ℕ) (os : List (Option State)) (x : ℕ) → (Contains ls x → ⊥) → state_at ls os x ≡ None
unfolding state_at
apart_none [] os x none = refl
apart_none (l ∷ ls) [] x none = refl
apart_none (l ∷ ls) (o ∷ os) x none =
    by_test (nat_eq l x) refl (apart_none ls os x (λ c. none (suc c.0, (let short = c.1 in omega arith), c.2)))
  where
    by_test : (b : Bool) → nat_eq l x ≡ b → state_at ls os x ≡ None → (if b then o else state_at ls os x) ≡ None
    by_test true e rest = absurd (none (zero, omega arith, grind (arith, nat_tests)))
    by_test false e rest = rest

-- ---- whose code a leader is in

-- the function whose code a leader is in
pub record IsOwner (notes : Notes) (owner place : ℕ) : Type 0 where
  pub f : FnNote
  pub there : slice_get notes.function owner ≡ Some f
  pub within : IsWithin f place

pub owned : (image : Image) (notes other : Notes) (leaders : List ℕ) → IsSetting image notes other leaders → (number owner place : ℕ)
    → number < length leaders → slice_index leaders number ≡ place
    → ((k : ℕ) (f : FnNote) → slice_get notes.function k ≡ Some f → IsWithin f place → owner ≡ k) → IsOwner notes owner place
owned image notes other leaders g number owner place short at is =
    let h = (g.all.all place).0 (there_at leaders place number short at) in
    let w : IsWithin h.f place = (h.of.first, h.of.within) in
    record { f = h.f; there = ap (slice_get notes.function) (is h.number h.f h.there w) ∙ h.there; within = w }

-- its number fits in 32 bits
pub owner_small : (image : Image) (notes other : Notes) (leaders : List ℕ) → IsSetting image notes other leaders → (owner place : ℕ)
    → IsOwner notes owner place → owner < 2 ^ 32
owner_small image notes other leaders g owner place h =
    let inside = slice_get_within notes.function owner h.f h.there in
    let few = g.read.few.functions in omega arith

-- ---- a leader more

module _ (notes : Notes) (leaders : List ℕ) (up : IsStrictlyIncreasing leaders) (first now next : Coming) (starts more : List Start) (n : ℕ)
    (short : n < length leaders) (h : Changed notes leaders first now starts n)
    (before : next.before.items ≡ slice_set now.before.items n (slice_index_or now.states.items n None))
    (states : next.states.items ≡ now.states.items) (given : next.given.items ≡ now.given.items)
    (t : Turned notes leaders now.before.items now.states.items n starts more) where
  -- the state before of that leader is now the one that has come, and the others stay
  here : slice_index_or next.before.items n None ≡ slice_index_or now.states.items n None
  here = ap (λ (xs : List (Option State)). slice_index_or xs n None) before
      ∙ get_or-set_same now.before.items n (slice_index_or now.states.items n None) None (let l = h.coming.before in omega arith)

  others : (k : ℕ) → (k ≡ n → ⊥) → slice_index_or next.before.items k None ≡ slice_index_or now.before.items k None
  others k differ = ap (λ (xs : List (Option State)). slice_index_or xs k None) before
      ∙ get_or-set_other now.before.items n k (slice_index_or now.states.items n None) None differ

  still_coming : IsComing leaders next
  still_coming = record {
    before = ap length before ∙ length-set now.before.items n (slice_index_or now.states.items n None) ∙ h.coming.before;
    states = ap length states ∙ h.coming.states;
    given = λ k c. h.coming.given k (subst (λ (xs : List ℕ). Contains xs k) given c);
    quiet = λ k none.
        ap (λ (xs : List (Option State)). slice_index_or xs k None) states
        ∙ by_number k (λ c. none (subst (λ (xs : List ℕ). Contains xs k) (sym given) c));
  }
    where
      by_number : (k : ℕ) → (Contains now.given.items k → ⊥)
          → slice_index_or now.states.items k None ≡ slice_index_or next.before.items k None
      by_number k none =
          ⊎_elim (λ below. h.coming.quiet k none ∙ sym (others k (λ q. omega arith)))
          (λ from. ⊎_elim (λ above. h.coming.quiet k none ∙ sym (others k (λ q. omega arith)))
          (λ back.
          let same : n ≡ k = omega arith in
          subst (λ m. slice_index_or now.states.items m None ≡ slice_index_or next.before.items m None) same (sym here))
          (cases_lt n k))
          (cases_lt k n)

  known_here : slice_index_or now.states.items n None ≡ slice_index_or first.states.items n None
  known_here = ap (λ (xs : List (Option State)). slice_index_or xs n None) h.states

  first_change : (x : Start) → IsChange notes leaders now.before.items now.states.items n x
      → IsChange notes leaders first.before.items first.states.items n x
  first_change x c = record {
    place_is = c.place_is;
    state_is = sym known_here ∙ c.state_is;
    differs = λ e. c.differs (h.ahead n (omega arith) ∙ e);
    f = c.f;
    there = c.there;
    within = c.within;
  }

  changes_more : (j : ℕ) (x : Start) → slice_get starts j ≡ Some x
      → IsChangeBelow notes leaders first.before.items first.states.items (n + 1) x
  changes_more j x at = let c = h.each j x at in let less = c.below in record {
    number = c.number;
    below = omega arith;
    change = c.change;
  }

  over_more : (k : ℕ) → k < n + 1 → slice_index_or next.before.items k None ≡ slice_index_or first.states.items k None
  over_more k less =
      ⊎_elim (λ below. others k (λ q. omega arith) ∙ h.over k below)
      (λ from.
      let same : n ≡ k = omega arith in
      subst (λ m. slice_index_or next.before.items m None ≡ slice_index_or first.states.items m None) same (here ∙ known_here))
      (cases_lt k n)

  ahead_more : (k : ℕ) → n + 1 ≤ k → slice_index_or next.before.items k None ≡ slice_index_or first.before.items k None
  ahead_more k past = others k (λ q. omega arith) ∙ h.ahead k (omega arith)

  no_change : more ≡ starts → slice_index_or now.states.items n None ≡ slice_index_or now.before.items n None
      → Changed notes leaders first next more (n + 1)
  no_change is same = subst (λ (xs : List Start). Changed notes leaders first next xs (n + 1)) (sym is)
      (record {
        coming = still_coming;
        states = states ∙ h.states;
        over = over_more;
        ahead = ahead_more;
        ascend = h.ascend;
        each = changes_more;
        all = λ k less.
            ⊎_elim (λ below. h.all k below)
            (λ from.
            let one : n ≡ k = omega arith in
            inr (subst (λ m. slice_index_or first.states.items m None ≡ slice_index_or first.before.items m None) one
            (sym known_here ∙ same ∙ h.ahead n (omega arith))))
            (cases_lt k n);
      })

  one_change : (x : Start) → IsChange notes leaders now.before.items now.states.items n x → more ≡ starts ++ x ∷ []
      → Changed notes leaders first next more (n + 1)
  one_change x c is = subst (λ (xs : List Start). Changed notes leaders first next xs (n + 1)) (sym is)
      (record {
        coming = still_coming;
        states = states ∙ h.states;
        over = over_more;
        ahead = ahead_more;
        ascend = pushed_ascend starts x h.ascend (λ j y at.
            let b = h.each j y at in
            let less = b.below in
            let rise = AllPairs-from_increasing leaders up b.number n 0 less short in
            let p = b.change.place_is in let q = c.place_is in omega arith);
        each = λ j y at. ⊎_elim (λ old. changes_more j y old)
            (λ new. subst (IsChangeBelow notes leaders first.before.items first.states.items (n + 1)) new.1
            (record { number = n; below = omega arith; change = first_change x c }))
            (pushed_cases starts x j y at);
        all = λ k less.
            ⊎_elim (λ below. ⊎_elim (λ s. inl (starts_kept starts x (slice_index leaders k) s)) (λ e. inr e) (h.all k below))
            (λ from.
            let one : n ≡ k = omega arith in
            inl (subst (StartsAt (starts ++ x ∷ [])) (sym c.place_is ∙ ap (slice_index leaders) one) (starts_here starts x)))
            (cases_lt k n);
      })

  pub changed_more : Changed notes leaders first next more (n + 1)
  changed_more = by_turn t
    where
      by_turn : Turned notes leaders now.before.items now.states.items n starts more → Changed notes leaders first next more (n + 1)
      by_turn (turned_none same is) = no_change is same
      by_turn (turned x c is) = one_change x c is

-- where nothing was given to the leader of this number it is as before
changed_quiet : (notes : Notes) (leaders : List ℕ) (first now : Coming) (starts : List Start) (n : ℕ)
    → Changed notes leaders first now starts n → (Contains now.given.items n → ⊥) → Changed notes leaders first now starts (n + 1)
changed_quiet notes leaders first now starts n h none = record {
  coming = h.coming;
  states = h.states;
  over = λ k less. ⊎_elim (λ before. h.over k before)
      (λ from. let same : n ≡ k = omega arith in
      subst (λ m. slice_index_or now.before.items m None ≡ slice_index_or first.states.items m None) same here) (cases_lt k n);
  ahead = λ k from. h.ahead k (omega arith);
  ascend = h.ascend;
  each = λ j x at. let b = h.each j x at in let below = b.below in
      record { number = b.number; below = omega arith; change = b.change };
  all = λ k less. ⊎_elim (λ before. h.all k before)
      (λ from. let same : n ≡ k = omega arith in
      inr (subst (λ m. slice_index_or first.states.items m None ≡ slice_index_or first.before.items m None) same
      (sym here ∙ h.ahead n (omega arith)))) (cases_lt k n);
}
  where
    here : slice_index_or now.before.items n None ≡ slice_index_or first.states.items n None
    here = sym (h.coming.quiet n none) ∙ ap (λ (os : List (Option State)). slice_index_or os n None) h.states

-- and where nothing was given to those of several
changed_to : (notes : Notes) (leaders : List ℕ) (first now : Coming) (starts : List Start) (n count end : ℕ) → n + count ≡ end
    → Changed notes leaders first now starts n → ((k : ℕ) → n ≤ k → k < end → Contains now.given.items k → ⊥)
    → Changed notes leaders first now starts end
changed_to notes leaders first now starts n zero end e h none = subst (Changed notes leaders first now starts) (omega arith) h
changed_to notes leaders first now starts n (suc count) end e h none =
    changed_to notes leaders first now starts (n + 1) count end (omega arith)
    (changed_quiet notes leaders first now starts n h (none n (omega arith) (omega arith))) (λ k low high. none k (omega arith) high)

-- ---- the leaders to which something was given

-- what is read of a list is there whatever stands for what isn't
pub number_is : (xs : List ℕ) (i d : ℕ) → i < length xs → d ≡ get_or xs i d → slice_index xs i ≡ d
number_is [] i d short at = absurd (omega arith)
number_is (x ∷ xs) zero d short at = sym at
number_is (x ∷ xs) (suc i) d short at = number_is xs i d (omega arith) at

-- the states of the leaders of the first numbers in the list were taken over
pub record ChangedFirst (notes : Notes) (leaders : List ℕ) (first now : Coming) (starts : List Start) (i : ℕ) : Type 0 where
  pub n : ℕ
  pub changed : Changed notes leaders first now starts n
  pub within : n ≤ length leaders
  pub same : now.given.items ≡ first.given.items
  pub below : (j : ℕ) → j < i → slice_index first.given.items j < n
  pub above : (j : ℕ) → i ≤ j → j < length first.given.items → n ≤ slice_index first.given.items j

pub changed_none : (notes : Notes) (leaders : List ℕ) (first : Coming) (starts : List Start) → IsComing leaders first → starts ≡ []
    → ChangedFirst notes leaders first first starts 0
changed_none notes leaders first starts coming empty = record {
  n = 0;
  changed = subst (λ (xs : List Start). Changed notes leaders first first xs 0) (sym empty)
      (record {
        coming = coming;
        states = refl;
        over = λ k less. absurd (omega arith);
        ahead = λ k from. refl;
        ascend = λ i j x y less at there. absurd cc;
        each = λ j x at. absurd cc;
        all = λ k less. absurd (omega arith);
      });
  within = omega arith;
  same = refl;
  below = λ j less. absurd (omega arith);
  above = λ j from less. omega arith;
}

module _ (notes : Notes) (leaders : List ℕ) (first now : Coming) (starts : List Start) (i : ℕ)
    (up : IsStrictlyIncreasing first.given.items) (h : ChangedFirst notes leaders first now starts i) where
  -- nothing was given between what was taken over and the next number
  none_between : (end k : ℕ) → ((j : ℕ) → i ≤ j → j < length first.given.items → end ≤ slice_index first.given.items j) → h.n ≤ k
      → k < end → Contains now.given.items k → ⊥
  none_between end k past low high c =
      let d : Contains first.given.items k = subst (λ (xs : List ℕ). Contains xs k) h.same c in
      let e = number_of first.given.items k d in
      ⊎_elim (λ less. let b = h.below d.0 less in omega arith) (λ from. let p = past d.0 from d.1 in omega arith) (cases_lt d.0 i)

  module _ (number : ℕ) (short : i < length first.given.items) (at : slice_index first.given.items i ≡ number) where
    pub number_within : number < length leaders
    number_within =
        h.changed.coming.given number
        (subst (λ (xs : List ℕ). Contains xs number) (sym h.same) (there_at first.given.items number i short at))

    past : (j : ℕ) → i ≤ j → j < length first.given.items → number ≤ slice_index first.given.items j
    past j from less = let c = climb_of first.given.items up i j from less in omega arith

    pub changed_here : Changed notes leaders first now starts number
    changed_here =
        let low = h.above i (omega arith) short in
        changed_to notes leaders first now starts h.n (number - h.n) number (omega arith) h.changed
        (λ k from below. none_between number k past from below)

    pub first_more : (next : Coming) (more : List Start) → next.given.items ≡ now.given.items
        → Changed notes leaders first next more (number + 1) → ChangedFirst notes leaders first next more (i + 1)
    first_more next more given c = let low = h.above i (omega arith) short in let inside = number_within in record {
      n = number + 1;
      changed = c;
      within = omega arith;
      same = given ∙ h.same;
      below = λ j less. ⊎_elim (λ before. let b = h.below j before in omega arith)
          (λ from. let one : i ≡ j = omega arith in let e : slice_index first.given.items j ≡ number =
          subst (λ k. slice_index first.given.items k ≡ number) one at in omega arith)
          (cases_lt j i);
      above = λ j from less. let q = rise_of first.given.items up i j (omega arith) less in omega arith;
    }

  pub changed_last : length first.given.items ≤ i → Changed notes leaders first now starts (length leaders)
  changed_last end =
      let inside = h.within in
      changed_to notes leaders first now starts h.n (length leaders - h.n) (length leaders) (omega arith) h.changed
      (λ k from below. none_between (length leaders) k (λ j low less. absurd (omega arith)) from below)

-- ---- all leaders

module _ (notes : Notes) (leaders : List ℕ) (up : IsStrictlyIncreasing leaders) (first now : Coming) (starts : List Start)
    (coming : IsComing leaders first) (h : Changed notes leaders first now starts (length leaders)) where
  pub taken_over : now.before.items ≡ first.states.items
  taken_over =
      ext_get_or None now.before.items first.states.items (h.coming.before ∙ sym coming.states)
      (λ k short. h.over k (let l = h.coming.before in omega arith))

  at_change : (x : Start) (number : ℕ) → number < length leaders → slice_index leaders number ≡ x.place → (os : List (Option State))
      → length os ≡ length leaders → state_at leaders os x.place ≡ slice_index_or os number None
  at_change x number short at os long = at_number leaders os number x.place up short long at

  number_short : (x : Start) (b : IsChangeBelow notes leaders first.before.items first.states.items (length leaders) x)
      → b.number < length leaders
  number_short x b =
      ⊎_elim (λ less. less)
      (λ from. absurd (none-some x.state
      (sym (get_or_past first.states.items b.number None (let l = coming.states in omega arith)) ∙ b.change.state_is)))
      (cases_lt b.number (length leaders))

  pub changed_starts : AreStarts notes leaders (state_at leaders now.before.items) starts
  changed_starts = record {
    ascend = h.ascend;
    each = λ j x at.
        let b = h.each j x at in
        let short = number_short x b in
        record {
          f = b.change.f;
          there = b.change.there;
          begins = at_leader (there_at leaders x.place b.number short b.change.place_is) b.change.within
              (at_change x b.number short b.change.place_is now.before.items h.coming.before
              ∙ ap (λ (os : List (Option State)). slice_index_or os b.number None) taken_over ∙ b.change.state_is);
        };
  }

  pub changed_all : AreChanges (state_at leaders first.before.items) (state_at leaders now.before.items) starts
  changed_all = record {
    all = λ place. ⊎_elim (λ c.
        let at = number_of leaders place c in
        ⊎_elim (λ s. inl (subst (StartsAt starts) at s))
        (λ e. inr (at_number leaders now.before.items c.0 place up c.1 h.coming.before at
        ∙ ap (λ (os : List (Option State)). slice_index_or os c.0 None) taken_over ∙ e
        ∙ sym (at_number leaders first.before.items c.0 place up c.1 coming.before at)))
        (h.all c.0 (let short = c.1 in omega arith)))
        (λ none. inr (apart_none leaders now.before.items place none ∙ sym (apart_none leaders first.before.items place none)))
        (there_or_not leaders place);
    differ = λ place s same.
        let w = start_of starts place s in
        let b = h.each w.0 w.1 w.2 in
        let short = number_short w.1 b in
        let moved : state_at leaders now.before.items w.1.place ≡ state_at leaders first.before.items w.1.place =
        subst (λ p. state_at leaders now.before.items p ≡ state_at leaders first.before.items p) (sym w.3) same in
        b.change.differs (sym (at_change w.1 b.number short b.change.place_is first.before.items coming.before) ∙ sym moved
        ∙ at_change w.1 b.number short b.change.place_is now.before.items h.coming.before
        ∙ ap (λ (os : List (Option State)). slice_index_or os b.number None) taken_over ∙ b.change.state_is);
  }

  -- and then nothing is given
  pub coming_again : (next : Coming) → next.before.items ≡ now.before.items → next.states.items ≡ now.states.items → next.given.items ≡ []
      → IsComing leaders next
  coming_again next before states given = record {
    before = ap length before ∙ h.coming.before;
    states = ap length states ∙ h.coming.states;
    given = λ k c. none_given k (subst (λ (xs : List ℕ). Contains xs k) given c);
    quiet = λ k none. ap (λ (xs : List (Option State)). slice_index_or xs k None) (states ∙ h.states ∙ sym taken_over ∙ sym before);
  }
    where
      none_given : (k : ℕ) → Contains [] k → k < length leaders
      none_given k c = let short = c.1 in absurd (omega arith)
