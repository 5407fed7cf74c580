-- Rounds from states that are the same at the leaders: they are the same rounds, and each comes to one end.
use Rattle.note_infer.proofs.Common.{◌≡◌, ℕ, zero, suc, ◌<◌, List, refl, sym, ap, subst, ◌∙◌, ⊎_elim, arith, inl, inr, Option, Some}
use Rattle.note_infer.proofs.Common.{slice_get, Contains, cases_lt, same_Some, FnNote, Notes, RuleName, State, Image, IsFirst}
use Rattle.note_infer.proofs.Common.{FunctionHolds, function_before, AreLeaders, AreSame, FailsIn, GivenAt, HasCome, HasState, IsRound}
use Rattle.note_infer.proofs.Common.{IsStuck, IsWithin, NoneFailsBefore, States, all_in, by_entry, fails_below, fails_decode, fails_end}
use Rattle.note_infer.proofs.Common.{fails_point, fails_relocation, fails_row, gives, gives_none, origin}
use Rattle.rules_base.proofs.FirstRule.{one_first}
use Rattle.note_infer.proofs.{Chains.PointsBefore, Chains.carried, Chains.chain_within, Chains.one_chain, Lone.come_one}
use Rattle.note_types.specs.declared.rule.RuleName.TheVariants as rule

-- ---- other states at the leaders

pub same_back : (leaders : List ℕ) (states other : States) → AreSame leaders states other → AreSame leaders other states
same_back leaders states other same x c = sym (same x c)

pub same_on : (leaders : List ℕ) (states other more : States) → AreSame leaders states other → AreSame leaders other more
    → AreSame leaders states more
same_on leaders states other more a b x c = b x c ∙ a x c

module _ (image : Image) (notes : Notes) (leaders : List ℕ) where
  has_with : (states other : States) → AreSame leaders states other → (k : ℕ) (f : FnNote) (p : ℕ) (s : State)
      → HasState image notes leaders states k f p s → HasState image notes leaders other k f p s
  has_with states other same k f p s h =
      (h.0, (carried image notes leaders states other k f h.0 p s h.1 (same (origin image notes leaders states k f h.0 p s h.1))).0)

  given_with : (states other : States) → AreSame leaders states other → (k : ℕ) (f : FnNote) (leader p : ℕ) (ts : List State)
      → GivenAt image notes leaders states k f leader p ts → GivenAt image notes leaders other k f leader p ts
  given_with states other same k f leader p ts (gives_none h q) =
      gives_none (λ s a. h s (has_with other states (same_back leaders states other same) k f p s a)) q
  given_with states other same k f leader p ts (gives s i next x h d q g) =
      gives s i next x (has_with states other same k f p s h) d q g

  come_with : (states other : States) → AreSame leaders states other → (k : ℕ) (f : FnNote) (leader : ℕ) → Contains leaders leader
      → (place : ℕ) (come : Option State) → HasCome image notes leaders states k f leader place come
      → HasCome image notes leaders other k f leader place come
  unfolding HasCome
  come_with states other same k f leader c zero come h = ap (λ o. all_in o (by_entry notes k f leader)) (same leader c) ∙ h
  come_with states other same k f leader c (suc place) come h = record {
    had = h.had;
    before_is = come_with states other same k f leader c place h.had h.before_is;
    states = h.states;
    given_is = given_with states other same k f leader place h.states h.given_is;
    all = h.all;
  }

  fails_with : (states other : States) → AreSame leaders states other → (k : ℕ) (f : FnNote) (p : ℕ) (s : State) (r : RuleName)
      → FailsIn image notes leaders states k f p s r → FailsIn image notes leaders other k f p s r
  fails_with states other same k f p s r (fails_decode miss e) = fails_decode miss e
  fails_with states other same k f p s r (fails_point i next d miss e) = fails_point i next d miss e
  fails_with states other same k f p s r (fails_relocation i next d miss e) = fails_relocation i next d miss e
  fails_with states other same k f p s r (fails_row i next d point rel row) = fails_row i next d point rel row
  fails_with states other same k f p s r (fails_below i next x d row h e) =
      fails_below i next x d row (record {
        leader = h.leader;
        there = h.there;
        within = h.within;
        had = h.had;
        come = come_with states other same k f h.leader h.there p h.had h.come;
        clash = h.clash;
      }) e
  fails_with states other same k f p s r (fails_end i next d miss e) = fails_end i next d miss e

  none_with : (states other : States) → AreSame leaders states other → (place : ℕ) → NoneFailsBefore image notes leaders states place
      → NoneFailsBefore image notes leaders other place
  none_with states other same place none k f there p s less has r fails =
      let back = same_back leaders states other same in
      none k f there p s less (has_with other states back k f p s has) r (fails_with other states back k f p s r fails)

  pub stuck_with : (states other : States) → AreSame leaders states other → (place : ℕ) (r : RuleName) (s : State)
      → IsStuck image notes leaders states place r s → IsStuck image notes leaders other place r s
  stuck_with states other same place r s h =
      let back = same_back leaders states other same in
      record {
        number = h.number;
        f = h.f;
        there = h.there;
        has_state = has_with states other same h.number h.f place s h.has_state;
        fails = record {
          among = fails_with states other same h.number h.f place s r h.fails.among;
          first = λ q x. h.fails.first q (fails_with other states back h.number h.f place s q x);
        };
        before = none_with states other same place h.before;
      }

  pub round_with : (states other next : States) → AreSame leaders states other → IsRound image notes leaders states next
      → IsRound image notes leaders other next
  round_with states other next same h = record {
    passes = λ place. none_with states other same place (h.passes place);
    comes = λ k f there leader c w. come_with states other same k f leader c f.end (next leader) (h.comes k f there leader c w);
  }

  -- ---- one end

  -- a round that goes through isn't stuck
  pub round_or_stuck : (states next : States) (place : ℕ) (r : RuleName) (s : State) → IsRound image notes leaders states next
      → IsStuck image notes leaders states place r s → ⊥
  round_or_stuck states next place r s a b = a.passes (suc place) b.number b.f b.there place s (omega arith) b.has_state r b.fails.among

  module _ (functions : (k : ℕ) → FunctionHolds image notes k) (states : States) where
    -- where nothing fails before a place the rule `point` holds there
    points_of_none : (end : ℕ) → NoneFailsBefore image notes leaders states end → (k : ℕ) (f : FnNote) → slice_get notes.function k ≡ Some f
        → (range : f.place < f.end) → PointsBefore image notes leaders states k f range end
    points_of_none end none k f there range n p s i next less c d j x e =
        ⊎_elim (λ past. ⊎_elim (λ before. absurd (none k f there p s less (n, c) rule.Point
        (fails_point i next d (λ h. ⊎_elim (λ a. omega (arith, a, past)) (λ a. omega (arith, a, before)) (h j x e)) refl)))
        (λ from. inr from) (cases_lt x.place next))
        (λ from. inl from) (cases_lt p x.place)

    pub round_one : AreLeaders image notes leaders → (next other : States) → IsRound image notes leaders states next
        → IsRound image notes leaders states other → AreSame leaders next other
    round_one all next other a b x c =
        let l = (all.all x).0 c in
        let range = (functions l.number l.f l.there).range in
        let w : IsWithin l.f x = (l.of.first, l.of.within) in
        come_one image notes leaders states l.number l.f range l.f.end
        (points_of_none l.f.end (a.passes l.f.end) l.number l.f l.there range) x l.f.end (other x) (next x) (omega arith)
        (b.comes l.number l.f l.there x c w) (a.comes l.number l.f l.there x c w)

    -- a stuck round is stuck at one place, by one rule, in one state
    not_later : (p q : ℕ) (r t : RuleName) (s u : State) → IsStuck image notes leaders states p r s
        → IsStuck image notes leaders states q t u → p < q → ⊥
    not_later p q r t s u a b less = b.before a.number a.f a.there p s less a.has_state r a.fails.among

    same_place : (p q : ℕ) (r t : RuleName) (s u : State) → IsStuck image notes leaders states p r s
        → IsStuck image notes leaders states q t u → p ≡ q
    same_place p q r t s u a b =
        ⊎_elim (λ less. absurd (not_later p q r t s u a b less))
        (λ from. ⊎_elim (λ less. absurd (not_later q p t r u s b a less)) (λ back. omega arith) (cases_lt q p))
        (cases_lt p q)

    same_number : (p j k : ℕ) (f g : FnNote) → slice_get notes.function j ≡ Some f → slice_get notes.function k ≡ Some g
        → IsWithin f p → IsWithin g p → j ≡ k
    same_number p j k f g there here v w =
        let low = v.0 in
        let high = v.1 in
        let from = w.0 in
        let to = w.1 in
        ⊎_elim (λ less. absurd (let h = function_before image notes functions j k f g less there here in omega arith))
        (λ after. ⊎_elim (λ less. absurd (let h = function_before image notes functions k j g f less here there in omega arith))
        (λ back. omega arith) (cases_lt k j))
        (cases_lt j k)

    ends_here : (p k : ℕ) (f : FnNote) (r t : RuleName) (s u : State) → slice_get notes.function k ≡ Some f
        → NoneFailsBefore image notes leaders states p → HasState image notes leaders states k f p s
        → HasState image notes leaders states k f p u → IsFirst (FailsIn image notes leaders states k f p s) r
        → IsFirst (FailsIn image notes leaders states k f p u) t → (r ≡ t) × (s ≡ u)
    ends_here p k f r t s u there none a b x y =
        let range = (functions k f there).range in
        let same : s ≡ u = (one_chain image notes leaders states k f range p (points_of_none p none k f there range) a.0 b.0 p p s u refl
        (omega arith) a.1 b.1).0 in (
          one_first (FailsIn image notes leaders states k f p s) r t x
              (subst (λ z. IsFirst (FailsIn image notes leaders states k f p z) t) (sym same) y),
          same,
        )

    pub stuck_one : (p q : ℕ) (r t : RuleName) (s u : State) → IsStuck image notes leaders states p r s
        → IsStuck image notes leaders states q t u → (p ≡ q) × (r ≡ t) × (s ≡ u)
    stuck_one p q r t s u a b =
        let place : p ≡ q = same_place p q r t s u a b in
        let b2 : IsStuck image notes leaders states p t u = subst (λ z. IsStuck image notes leaders states z t u) (sym place) b in
        let e = at_one p r t s u a b2 in
        (place, e.0, e.1)
      where
        at_one : (p : ℕ) (r t : RuleName) (s u : State) → IsStuck image notes leaders states p r s
            → IsStuck image notes leaders states p t u → (r ≡ t) × (s ≡ u)
        at_one p r t s u a b =
            let v = chain_within image notes leaders states a.number a.f (functions a.number a.f a.there).range a.has_state.0 p s
            a.has_state.1 in
            let w = chain_within image notes leaders states b.number b.f (functions b.number b.f b.there).range b.has_state.0 p u
            b.has_state.1 in
            let number : b.number ≡ a.number = same_number p b.number a.number b.f a.f b.there a.there w v in
            let there : slice_get notes.function a.number ≡ Some b.f =
            subst (λ k. slice_get notes.function k ≡ Some b.f) number b.there in
            let f : b.f ≡ a.f = same_Some b.f a.f (sym there ∙ a.there) in
            let has : HasState image notes leaders states a.number a.f p u =
            subst (λ g. HasState image notes leaders states a.number g p u) f
            (subst (λ k. HasState image notes leaders states k b.f p u) number b.has_state) in
            let fails : IsFirst (FailsIn image notes leaders states a.number a.f p u) t =
            subst (λ g. IsFirst (FailsIn image notes leaders states a.number g p u) t) f
            (subst (λ k. IsFirst (FailsIn image notes leaders states k b.f p u) t) number b.fails) in
            ends_here p a.number a.f r t s u a.there a.before a.has_state has a.fails fails
