-- The answer is one: the leaders, the states on which rounds settle, and where they get stuck.
use Rattle.note_infer.proofs.Common.{◌≡◌, ◌⊎◌, ℕ, zero, suc, ◌+◌, ◌-◌, ◌<◌, List, [], ◌∷◌, length, get_or, refl, sym, ap, subst, ◌∙◌}
use Rattle.note_infer.proofs.Common.{⊎_elim, arith, inl, inr, Err, IfOk, None, Ok, Option, Result, Some, Contains, cases_lt, point_limit}
use Rattle.note_infer.proofs.Common.{IsNotes, Notes, Point, RuleName, State, Image, FunctionHolds, Typed, Inferred, Many, Points, Stuck}
use Rattle.note_infer.proofs.Common.{IsInferred, IsSettled, by_number, by_points, by_round, by_tables, by_verdict, points_of, with_point}
use Rattle.note_infer.proofs.Common.{AreLeaders, AreAfter, AreSame, IsRound, IsStuck, States, with_points}
use Rattle.std.proofs.lemmas.Grind.{get_or_default_zero}
use Rattle.width_checker.specs.Verdicts.{IsRefused}
use Rattle.width_checker.proofs.{Deciding.not_both, Deciding.refused_once, Leading.OnePoint, Points.one_point}
use Rattle.note_infer.specs.Inferred.{HasRounds}
use Rattle.note_infer.proofs.{Answering.settled_notes, OneRound.round_one, OneRound.round_or_stuck, OneRound.round_with, OneRound.same_back}
use Rattle.note_infer.proofs.{OneRound.same_on, OneRound.stuck_one, OneRound.stuck_with, StatesAt.Rise, StatesAt.rise_of}

-- ---- leaders

above_first : (x q : ℕ) (xs : List ℕ) → Rise (x ∷ xs) → Contains xs q → x < q
above_first x q xs up c =
    let h = up 0 (suc c.0) (omega arith) (let short = c.1 in omega arith) in
    let e : get_or xs c.0 0 ≡ q = sym (get_or_default_zero xs c.0 q c.1) ∙ c.2 in
    omega (arith, h, e)

rise_tail : (x : ℕ) (xs : List ℕ) → Rise (x ∷ xs) → Rise xs
rise_tail x xs up i j less short = up (suc i) (suc j) (omega arith) (omega arith)

first_or_later : (x q : ℕ) (xs : List ℕ) → Contains (x ∷ xs) q → (x ≡ q) ⊎ Contains xs q
first_or_later x q xs (zero, short, e) = inl e
first_or_later x q xs (suc k, short, e) = inr (k, (let s = short in omega arith), e)

later : (x q : ℕ) (xs : List ℕ) → Contains xs q → Contains (x ∷ xs) q
later x q xs c = (suc c.0, (let short = c.1 in omega arith), c.2)

-- rising numbers are told by which they are
one_rising : (xs ys : List ℕ) → Rise xs → Rise ys → ((q : ℕ) → Contains xs q → Contains ys q) → ((q : ℕ) → Contains ys q → Contains xs q)
    → xs ≡ ys
one_rising [] [] up more there back = refl
one_rising [] (y ∷ ys) up more there back = absurd (let c = back y (0, omega arith, refl) in let short = c.1 in omega arith)
one_rising (x ∷ xs) [] up more there back = absurd (let c = there x (0, omega arith, refl) in let short = c.1 in omega arith)
one_rising (x ∷ xs) (y ∷ ys) up more there back =
    ap (λ z. z ∷ xs) same ∙ ap (λ zs. y ∷ zs) (one_rising xs ys (rise_tail x xs up) (rise_tail y ys more) to from)
  where
    same : x ≡ y
    same =
        ⊎_elim (λ e. sym e)
        (λ c. ⊎_elim (λ e. e)
        (λ d. absurd (let low = above_first y x ys more c in let high = above_first x y xs up d in omega arith))
        (first_or_later x y xs (back y (0, omega arith, refl))))
        (first_or_later y x ys (there x (0, omega arith, refl)))

    to : (q : ℕ) → Contains xs q → Contains ys q
    to q c =
        ⊎_elim (λ e. absurd (let low = above_first x q xs up c in let s = same in omega (arith, low, s, e))) (λ d. d)
        (first_or_later y q ys (there q (later x q xs c)))

    from : (q : ℕ) → Contains ys q → Contains xs q
    from q c =
        ⊎_elim (λ e. absurd (let low = above_first y q ys more c in let s = same in omega (arith, low, s, e))) (λ d. d)
        (first_or_later x q xs (back q (later y q ys c)))

pub leaders_one : (image : Image) (notes : Notes) (xs ys : List ℕ) → AreLeaders image notes xs → AreLeaders image notes ys → xs ≡ ys
leaders_one image notes xs ys a b =
    one_rising xs ys (rise_of xs a.ascend) (rise_of ys b.ascend) (λ q c. (b.all q).1 ((a.all q).0 c)) (λ q c. (a.all q).1 ((b.all q).0 c))

-- the points at leaders are told by the states there
pub points_one : (xs : List ℕ) (states other : States) → AreSame xs states other → points_of states xs ≡ points_of other xs
unfolding points_of
points_one [] states other same = refl
points_one (x ∷ xs) states other same =
    ap (λ o. with_point x o (points_of states xs)) (sym (same x (0, omega arith, refl)))
    ∙ ap (with_point x (other x)) (points_one xs states other (λ q c. same q (later x q xs c)))

-- ---- rounds

module _ (image : Image) (notes : Notes) (leaders : List ℕ) (all : AreLeaders image notes leaders)
    (functions : (k : ℕ) → FunctionHolds image notes k) where
  after_one : (r : ℕ) (states other : States) → AreAfter image notes leaders r states → AreAfter image notes leaders r other
      → AreSame leaders states other
  unfolding AreAfter
  after_one zero states other a b = λ x c. b x ∙ sym (a x)
  after_one (suc r) states other a b =
      let same = after_one r a.0 b.0 a.1 b.1 in
      round_one image notes leaders functions b.0 all states other (round_with image notes leaders a.0 b.0 states same a.2) b.2

  -- once a round changes nothing no later one does
  settled_stays : (n r : ℕ) (states next other : States) → AreAfter image notes leaders r states → IsRound image notes leaders states next
      → AreSame leaders states next → AreAfter image notes leaders (n + r) other → AreSame leaders states other
  unfolding AreAfter
  settled_stays zero r states next other a round same b =
      after_one r states other a (subst (λ k. AreAfter image notes leaders k other) {x = zero + r} {y = r} (omega arith) b)
  settled_stays (suc n) r states next other a round same b =
      let d : AreAfter image notes leaders (suc (n + r)) other =
      subst (λ k. AreAfter image notes leaders k other) {x = suc n + r} {y = suc (n + r)} (omega arith) b in
      let still = settled_stays n r states next d.0 a round same d.1 in
      let again = round_with image notes leaders d.0 states other (same_back leaders states d.0 still) d.2 in
      same_on leaders states next other same (round_one image notes leaders functions states all next other round again)

  -- a round before others went through
  went_through : (n r : ℕ) (states : States) → AreAfter image notes leaders (n + suc r) states
      → (before : States) × (next : States) × AreAfter image notes leaders r before × IsRound image notes leaders before next
  unfolding AreAfter
  went_through zero r states a =
      let d : AreAfter image notes leaders (suc r) states =
      subst (λ k. AreAfter image notes leaders k states) {x = zero + suc r} {y = suc r} (omega arith) a in
      (d.0, states, d.1, d.2)
  went_through (suc n) r states a =
      let d : AreAfter image notes leaders (suc (n + suc r)) states =
      subst (λ k. AreAfter image notes leaders k states) {x = suc n + suc r} {y = suc (n + suc r)} (omega arith) a in
      went_through n r d.0 d.1

  -- a stuck round is the last
  stuck_last : (r q : ℕ) (states other : States) (place : ℕ) (rule : RuleName) (s : State) → AreAfter image notes leaders r states
      → IsStuck image notes leaders states place rule s → AreAfter image notes leaders q other → r < q → ⊥
  stuck_last r q states other place rule s a stuck b less =
      let w = went_through (q - suc r) r other
      (subst (λ k. AreAfter image notes leaders k other) {x = q} {y = q - suc r + suc r} (omega arith) b) in
      let same = after_one r states w.0 a w.2 in
      round_or_stuck image notes leaders w.0 w.1 place rule s w.3 (stuck_with image notes leaders states w.0 same place rule s stuck)

  -- states on which rounds settle are one
  pub settled_one : (states other : States) → IsSettled image notes leaders states → IsSettled image notes leaders other
      → AreSame leaders states other
  settled_one states other a b =
      ⊎_elim (λ less. later_one states other a b less)
      (λ from. same_back leaders other states (later_one other states b a (let f = from in omega arith)))
      (cases_lt a.found.rounds (suc b.found.rounds))
    where
      later_one : (states other : States) → (a : IsSettled image notes leaders states) → (b : IsSettled image notes leaders other)
          → a.found.rounds < suc b.found.rounds → AreSame leaders states other
      later_one states other a b less =
          settled_stays (b.found.rounds - a.found.rounds) a.found.rounds states a.next other a.found.after a.round a.same
          (subst (λ k. AreAfter image notes leaders k other) {x = b.found.rounds} {y = b.found.rounds - a.found.rounds + a.found.rounds}
          (omega arith) b.found.after)

  -- rounds that settle don't get stuck
  pub settled_or_stuck : (states other : States) (place : ℕ) (rule : RuleName) (s : State) → IsSettled image notes leaders states
      → HasRounds image notes leaders other → IsStuck image notes leaders other place rule s → ⊥
  settled_or_stuck states other place rule s a b stuck =
      ⊎_elim (λ less. stuck_last b.rounds a.found.rounds other states place rule s b.after stuck a.found.after less)
      (λ from.
      let same = settled_stays (b.rounds - a.found.rounds) a.found.rounds states a.next other a.found.after a.round a.same
      (subst (λ k. AreAfter image notes leaders k other) {x = b.rounds} {y = b.rounds - a.found.rounds + a.found.rounds} (omega arith)
      b.after) in
      round_or_stuck image notes leaders states a.next place rule s a.round
      (stuck_with image notes leaders other states (same_back leaders states other same) place rule s stuck))
      (cases_lt b.rounds a.found.rounds)

  -- and get stuck once
  pub stuck_once : (states other : States) (p q : ℕ) (r t : RuleName) (s u : State) → HasRounds image notes leaders states
      → IsStuck image notes leaders states p r s → HasRounds image notes leaders other → IsStuck image notes leaders other q t u
      → (p ≡ q) × (r ≡ t) × (s ≡ u)
  stuck_once states other p q r t s u a x b y =
      ⊎_elim (λ less. absurd (stuck_last a.rounds b.rounds states other p r s a.after x b.after less))
      (λ from. ⊎_elim (λ less. absurd (stuck_last b.rounds a.rounds other states q t u b.after y a.after less))
      (λ back.
      let same = after_one a.rounds states other a.after
      (subst (λ k. AreAfter image notes leaders k other) {x = b.rounds} {y = a.rounds} (omega arith) b.after) in
      stuck_one image notes leaders functions states p q r t s u x
      (stuck_with image notes leaders other states (same_back leaders states other same) q t u y))
      (cases_lt b.rounds a.rounds))
      (cases_lt a.rounds b.rounds)

-- ---- the answer

pub stuck_same : (p q : ℕ) (r t : RuleName) (o u : Option State) → p ≡ q → r ≡ t → o ≡ u → Stuck p r o ≡ Stuck q t u
stuck_same p q r t o u a b c = cc

module _ (image : Image) (notes : Notes) (read : IsNotes notes) where
  abbrev Found : List ℕ → States → Notes
  Found leaders states = with_points notes (points_of states leaders)

  found_once : (leaders : List ℕ) (states : States) → IsSettled image notes leaders states → OnePoint (Found leaders states)
  found_once leaders states h = one_point (Found leaders states) (settled_notes image notes leaders states read h).ascends

  -- leaders that another answer tells are these
  settled_at : (xs ys : List ℕ) (states : States) → AreLeaders image notes xs → IsSettled image notes ys states
      → (ys ≡ xs) × IsSettled image notes xs states
  settled_at xs ys states all h =
      let same = leaders_one image notes ys xs h.found.all all in
      (same, subst (λ zs. IsSettled image notes zs states) same h)

  found_same : (xs ys : List ℕ) (states other : States) → IsSettled image notes xs states → IsSettled image notes ys other
      → points_of states xs ≡ points_of other ys
  found_same xs ys states other h g =
      let b = settled_at xs ys other h.found.all g in
      points_one xs states other (settled_one image notes xs h.found.all h.found.tables.functions states other h b.1)
      ∙ ap (points_of other) (sym b.0)

  few_and_many : (xs ys : List ℕ) → AreLeaders image notes xs → AreLeaders image notes ys → point_limit notes.version < length xs
      → ¬ (point_limit notes.version < length ys) → ⊥
  few_and_many xs ys a b many few = few (subst (λ zs. point_limit notes.version < length zs) (leaders_one image notes xs ys a b) many)

  settled_and_stuck : (xs ys : List ℕ) (states other : States) (p : ℕ) (r : RuleName) (s : State) → IsSettled image notes xs states
      → HasRounds image notes ys other → IsStuck image notes ys other p r s → ⊥
  settled_and_stuck xs ys states other p r s a b stuck =
      let same = leaders_one image notes ys xs b.all a.found.all in
      settled_or_stuck image notes xs a.found.all a.found.tables.functions states other p r s a
      (subst (λ zs. HasRounds image notes zs other) same b) (subst (λ zs. IsStuck image notes zs other p r s) same stuck)

  stuck_both : (xs ys : List ℕ) (states other : States) (p q : ℕ) (r t : RuleName) (s u : State) → HasRounds image notes xs states
      → IsStuck image notes xs states p r s → HasRounds image notes ys other → IsStuck image notes ys other q t u
      → Stuck p r (Some s) ≡ Stuck q t (Some u)
  stuck_both xs ys states other p q r t s u a x b y =
      let same = leaders_one image notes ys xs b.all a.all in
      let e = stuck_once image notes xs a.all a.tables.functions states other p q r t s u a x
      (subst (λ zs. HasRounds image notes zs other) same b) (subst (λ zs. IsStuck image notes zs other q t u) same y) in
      stuck_same p q r t (Some s) (Some u) e.0 e.1 (ap (λ (z : State). Some z) e.2)

  refused_both : (xs ys : List ℕ) (states other : States) (p q : ℕ) (r t : RuleName) → IsSettled image notes xs states
      → IsSettled image notes ys other → IsRefused image (Found xs states) p r → IsRefused image (Found ys other) q t
      → Stuck p r None ≡ Stuck q t None
  refused_both xs ys states other p q r t a b x y =
      let z : IsRefused image (Found xs states) q t =
      subst (λ ps. IsRefused image (with_points notes ps) q t) (sym (found_same xs ys states other a b)) y in
      let e = refused_once image (Found xs states) (found_once xs states a) p q r t x z in
      stuck_same p q r t None None e.0 e.1 refl

  typed_and_refused : (xs ys : List ℕ) (states other : States) (q : ℕ) (t : RuleName) → IsSettled image notes xs states
      → IsSettled image notes ys other → Typed image (Found xs states) → IsRefused image (Found ys other) q t → ⊥
  typed_and_refused xs ys states other q t a b x y =
      not_both image (Found xs states) (found_once xs states a) x q t
      (subst (λ ps. IsRefused image (with_points notes ps) q t) (sym (found_same xs ys states other a b)) y)

  pub inferred_once : (a b : Inferred) → IsInferred image notes a → IsInferred image notes b → a ≡ b
  inferred_once a b (by_tables p r h x e) (by_tables q t k y g) =
      let c = refused_once image notes (one_point notes read.ascends) p q r t x y in
      e ∙ stuck_same p q r t None None c.0 c.1 refl ∙ sym g
  inferred_once a b (by_tables p r h x e) (by_number ms u m many g) = absurd (h u)
  inferred_once a b (by_tables p r h x e) (by_round ms other q t u k y g) = absurd (h k.tables)
  inferred_once a b (by_tables p r h x e) (by_verdict ms other q t k w g) = absurd (h k.found.tables)
  inferred_once a b (by_tables p r h x e) (by_points ms other k w g) = absurd (h k.found.tables)
  inferred_once a b (by_number ls t l many e) (by_tables q u k y g) = absurd (k t)
  inferred_once a b (by_number ls t l many e) (by_number ms u m more g) =
      e ∙ ap (λ (zs : List ℕ). Many (length zs)) (leaders_one image notes ls ms l m) ∙ sym g
  inferred_once a b (by_number ls t l many e) (by_round ms other q u s k y g) = absurd (few_and_many ls ms l k.all many k.few)
  inferred_once a b (by_number ls t l many e) (by_verdict ms other q u k w g) = absurd (few_and_many ls ms l k.found.all many k.found.few)
  inferred_once a b (by_number ls t l many e) (by_points ms other k w g) = absurd (few_and_many ls ms l k.found.all many k.found.few)
  inferred_once a b (by_round ls states p r s h x e) (by_tables q t k y g) = absurd (k h.tables)
  inferred_once a b (by_round ls states p r s h x e) (by_number ms t m many g) = absurd (few_and_many ms ls m h.all many h.few)
  inferred_once a b (by_round ls states p r s h x e) (by_round ms other q t u k y g) =
      e ∙ stuck_both ls ms states other p q r t s u h x k y ∙ sym g
  inferred_once a b (by_round ls states p r s h x e) (by_verdict ms other q t k w g) =
      absurd (settled_and_stuck ms ls other states p r s k h x)
  inferred_once a b (by_round ls states p r s h x e) (by_points ms other k w g) = absurd (settled_and_stuck ms ls other states p r s k h x)
  inferred_once a b (by_verdict ls states p r h v e) (by_tables q t k y g) = absurd (k h.found.tables)
  inferred_once a b (by_verdict ls states p r h v e) (by_number ms t m many g) =
      absurd (few_and_many ms ls m h.found.all many h.found.few)
  inferred_once a b (by_verdict ls states p r h v e) (by_round ms other q t u k y g) =
      absurd (settled_and_stuck ls ms states other q t u h k y)
  inferred_once a b (by_verdict ls states p r h v e) (by_verdict ms other q t k w g) =
      e ∙ refused_both ls ms states other p q r t h k v w ∙ sym g
  inferred_once a b (by_verdict ls states p r h v e) (by_points ms other k w g) =
      absurd (typed_and_refused ms ls other states p r k h w v)
  inferred_once a b (by_points ls states h v e) (by_tables q t k y g) = absurd (k h.found.tables)
  inferred_once a b (by_points ls states h v e) (by_number ms t m many g) = absurd (few_and_many ms ls m h.found.all many h.found.few)
  inferred_once a b (by_points ls states h v e) (by_round ms other q t u k y g) =
      absurd (settled_and_stuck ls ms states other q t u h k y)
  inferred_once a b (by_points ls states h v e) (by_verdict ms other q t k w g) =
      absurd (typed_and_refused ls ms states other q t h k v w)
  inferred_once a b (by_points ls states h v e) (by_points ms other k w g) =
      e ∙ ap (λ (ps : List Point). Points ps) (found_same ls ms states other h k) ∙ sym g

  -- where an answer is given it is the only one
  pub once_ok : {E : Type 0} (r : Result Inferred E) → IfOk r (IsInferred image notes)
      → IfOk r (λ (a : Inferred). (b : Inferred) → IsInferred image notes b → b ≡ a)
  once_ok (Ok a) h = λ b x. inferred_once b a x h
  once_ok (Err e) h = tt
