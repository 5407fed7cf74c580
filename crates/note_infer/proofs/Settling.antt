-- What has come to a leader takes a state again without a change, also once others are joined in.
use Rattle.note_infer.proofs.Common.{◌≡◌, zero, suc, List, [], ◌∷◌, refl, sym, ap, subst, ◌∙◌, Option, None, Some, option_and_then}
use Rattle.note_infer.proofs.Common.{none-some, same_Some, FnNote, Notes, State, taken_in, without_fact, IsFound, all_in, Settles}
use Rattle.note_infer.proofs.Common.{SettlesAll}
use Rattle.note_infer.specs.JoinStates.{join_states}
use Rattle.note_infer.proofs.SettledStates.{first_again, states_again, states_settled}
use Rattle.note_infer.proofs.{RoundStates.AllFound, RoundStates.SomeFound, RoundStates.all_in-found, StatesAt.all_one}

-- the first of several states that are joined in, and the others
record Taken (come after : Option State) (t : State) (ts : List State) : Type 0 where
  u : State
  first : taken_in come t ≡ Some u
  rest : all_in (Some u) ts ≡ Some after

taken_first : (come after : Option State) (t : State) (ts : List State) → all_in come (t ∷ ts) ≡ Some after → Taken come after t ts
unfolding all_in
taken_first come after t ts e = by_case (taken_in come t) refl e
  where
    by_case : (o : Option State) → taken_in come t ≡ o → option_and_then (λ (s : State). all_in (Some s) ts) o ≡ Some after
        → Taken come after t ts
    by_case None q g = absurd cc
    by_case (Some u) q g = record { u = u; first = q; rest = g }

-- ---- one state

module _ (notes : Notes) (f : FnNote) where
  taken_again : (come : Option State) (t u : State) → SomeFound notes f come → IsFound notes f t → taken_in come t ≡ Some u
      → Settles (Some u) t
  taken_again None t u h g e =
      let same : without_fact t ≡ u = same_Some (without_fact t) u e in
      (u, refl, subst (λ (s : State). join_states s t ≡ Some s) same (first_again t))
  taken_again (Some s) t u h g e = (u, refl, states_again notes f s t u (h s refl).state g.state e)

  taken_kept : (come : Option State) (t u v : State) → SomeFound notes f come → IsFound notes f t → IsFound notes f v
      → taken_in come t ≡ Some u → Settles come v → Settles (Some u) v
  taken_kept None t u v h g k e a = absurd (none-some a.0 a.1)
  taken_kept (Some s) t u v h g k e a =
      let same : a.0 ≡ s = sym (same_Some s a.0 a.1) in
      let stays : join_states s v ≡ Some s = subst (λ (x : State). join_states x v ≡ Some x) same a.2 in
      (u, refl, states_settled notes f s t v u (h s refl).state g.state k.state stays e)

  taken_found : (come : Option State) (t u : State) → SomeFound notes f come → IsFound notes f t → taken_in come t ≡ Some u
      → SomeFound notes f (Some u)
  taken_found come t u h g e =
      all_in-found notes f (t ∷ []) come (Some u) h (one g) (all_one come t u e)
    where
      one : IsFound notes f t → AllFound notes f (t ∷ [])
      one g zero x q = subst (IsFound notes f) (same_Some t x q) g
      one g (suc k) x q = absurd cc

  -- ---- several states

  -- what settles stays so when others are joined in
  pub all_kept : (ts : List State) (come after : Option State) (v : State) → SomeFound notes f come → AllFound notes f ts
      → IsFound notes f v → all_in come ts ≡ Some after → Settles come v → Settles after v
  unfolding all_in
  all_kept [] come after v h g k e a = subst (λ o. Settles o v) (same_Some come after e) a
  all_kept (t ∷ ts) come after v h g k e a =
      let x = taken_first come after t ts e in
      all_kept ts (Some x.u) after v (taken_found come t x.u h (g 0 t refl) x.first) (λ j. g (suc j)) k x.rest
      (taken_kept come t x.u v h (g 0 t refl) k x.first a)

  -- what is joined in settles
  pub all_new : (ts : List State) (come after : Option State) → SomeFound notes f come → AllFound notes f ts
      → all_in come ts ≡ Some after → SettlesAll after ts
  all_new [] come after h g e j v q = absurd cc
  all_new (t ∷ ts) come after h g e zero v q =
      let x = taken_first come after t ts e in
      let u = taken_found come t x.u h (g 0 t refl) x.first in
      let same : t ≡ v = same_Some t v q in
      subst (Settles after) same (all_kept ts (Some x.u) after t u (λ i. g (suc i)) (g 0 t refl) x.rest
      (taken_again come t x.u h (g 0 t refl) x.first))
  all_new (t ∷ ts) come after h g e (suc j) v q =
      let x = taken_first come after t ts e in
      all_new ts (Some x.u) after (taken_found come t x.u h (g 0 t refl) x.first) (λ i. g (suc i)) x.rest j v q

  -- what settles is joined in without a change
  pub all_settled : (ts : List State) (come : Option State) → SettlesAll come ts → all_in come ts ≡ Some come
  unfolding all_in
  all_settled [] come h = refl
  all_settled (t ∷ ts) None h = absurd (let a = h 0 t refl in none-some a.0 a.1)
  all_settled (t ∷ ts) (Some s) h =
      let a = h 0 t refl in
      let same : a.0 ≡ s = sym (same_Some s a.0 a.1) in
      let stays : join_states s t ≡ Some s = subst (λ (x : State). join_states x t ≡ Some x) same a.2 in
      ap (option_and_then (λ (u : State). all_in (Some u) ts)) stays ∙ all_settled ts (Some s) (λ j. h (suc j))
