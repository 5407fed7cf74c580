-- From one round to the next: what rests where a leader's state doesn't change.
use Rattle.note_infer.proofs.Common.{◌≡◌, ◌⊎◌, ℕ, zero, suc, ◌^◌, ◌<◌, ◌≤◌, Bool, true, false, nat_eq, if◌then◌else◌, List, [], ◌∷◌, refl}
use Rattle.note_infer.proofs.Common.{sym, subst, ◌∙◌, ⊎_elim, arith, Some, slice_get, Contains, nat_tests, same_Some, entry_state, FnNote}
use Rattle.note_infer.proofs.Common.{Notes, State, Image, AreFound, Comes, HasCome, IsRound, States, by_entry, IsSetting, AllRest, Reached}
use Rattle.note_infer.proofs.Common.{Rests, Settles, SettlesAll, Stood, origin, rests, rests_none, stood, stood_none}
use Rattle.note_infer.proofs.{RoundStates.round_found, Chains.carried, Chains.chain_within, Chains.one_chain, Chains.passed_with}
use Rattle.note_infer.proofs.{Lone.none_fails, Lone.points_before, Passing.marks_read, Passing.range_of, Settling.all_settled}

module _ (image : Image) (notes other : Notes) (leaders : List ℕ) (g : IsSetting image notes other leaders) (states next : States)
    (reached : Reached image notes leaders states next (2 ^ 22)) where
  -- the places of a function are before the end of all
  short : (k : ℕ) (f : FnNote) → slice_get notes.function k ≡ Some f → f.end ≤ 2 ^ 22
  short k f there = (g.read.functions k f there).end

  -- a round that has passed all places is one
  pub whole_round : IsRound image notes leaders states next
  whole_round = record {
    passes = λ place k f there p s less has r fails.
        let inside = (chain_within image notes leaders states k f (range_of image notes other leaders g k f there) has.0 p s has.1).1 in
        let end = short k f there in
        none_fails image notes leaders states next (2 ^ 22) (range_of image notes other leaders g) reached k f there p s (omega arith) has r
        fails;
    comes = λ k f there leader c w. reached.done k f there leader c w (short k f there);
  }

  pub whole_found : AreFound notes leaders states → AreFound notes leaders next
  whole_found found = round_found image notes leaders states (marks_read image notes other leaders g) found next whole_round

  module _ (work : List ℕ) (changed : (x : ℕ) → Contains work x ⊎ (next x ≡ states x)) where
    rest_next-at : (k : ℕ) (f : FnNote) → slice_get notes.function k ≡ Some f → (p : ℕ)
        → Stood image notes leaders states next k f p → p < f.end → Rests image notes leaders next work k f p
    rest_next-at k f there p (stood_none none) inside =
        rests_none (λ n s c. ⊎_elim (λ m. m)
        (λ e. absurd (none s (n, (carried image notes leaders next states k f n p s c (λ d. sym e)).0)))
        (changed (origin image notes leaders next k f n p s c)))
    rest_next-at k f there p (stood x) inside =
        ⊎_elim (λ m. rests_none (λ n s c. again m n s c (changed (origin image notes leaders next k f n p s c))))
        (λ e. rests (passed_with image notes leaders states next next next k f p x
        (x.has_state.0, (carried image notes leaders states next k f x.has_state.0 p x.state x.has_state.1 (λ c. e)).0) x.settles))
        (changed (origin image notes leaders states k f x.has_state.0 p x.state x.has_state.1))
      where
        again : Contains work (origin image notes leaders states k f x.has_state.0 p x.state x.has_state.1) → (n : ℕ) (s : State)
            → (c : Comes image notes leaders next k f n p s)
            → Contains work (origin image notes leaders next k f n p s c) ⊎ (next (origin image notes leaders next k f n p s c)
            ≡ states (origin image notes leaders next k f n p s c))
            → Contains work (origin image notes leaders next k f n p s c)
        again m n s c h =
            ⊎_elim (λ y. y)
            (λ e.
            let d = carried image notes leaders next states k f n p s c (λ l. sym e) in
            let end = short k f there in
            let one = one_chain image notes leaders states k f (range_of image notes other leaders g k f there) (2 ^ 22)
            (points_before image notes leaders states next (2 ^ 22) reached k f there (range_of image notes other leaders g k f there))
            n x.has_state.0 p p s x.state refl (omega (arith, inside, end)) d.0 x.has_state.1 in
            subst (Contains work) (sym one.1 ∙ d.1) m)
            h

    -- in the next round all rest but what begins at a leader that changed
    pub rest_next : AllRest image notes leaders next work
    rest_next k f there p inside =
        rest_next-at k f there p (reached.stands k f there p (let end = short k f there in omega arith) inside) inside

  -- the next round begins
  pub begin_next : Reached image notes leaders next next 0
  unfolding HasCome
  begin_next = record {
    stands = λ k f there p less inside. absurd (omega arith);
    comes = λ k f there leader c w from.
        all_settled notes f (by_entry notes k f leader) (next leader) (by_test k f there leader c (nat_eq f.place leader) refl);
    done = λ k f there leader c w past. absurd (let r = range_of image notes other leaders g k f there in omega arith);
    keeps = λ k f there leader c w t found h. h;
    entered = reached.entered;
  }
    where
      by_test : (k : ℕ) (f : FnNote) → slice_get notes.function k ≡ Some f → (leader : ℕ) → Contains leaders leader → (b : Bool)
          → nat_eq f.place leader ≡ b → SettlesAll (next leader) (if b then entry_state notes k ∷ [] else [])
      by_test k f there leader c true e zero t q =
          let same : f.place ≡ leader = grind (arith, nat_tests) in
          let here : Settles (next leader) (entry_state notes k) = subst (λ x. Settles (next x) (entry_state notes k)) same
          (reached.entered k f there (subst (Contains leaders) (sym same) c)) in
          subst (Settles (next leader)) (same_Some (entry_state notes k) t q) here
      by_test k f there leader c true e (suc j) t q = absurd cc
      by_test k f there leader c false e j t q = absurd cc
