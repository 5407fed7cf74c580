-- A round over all starts: what rests between two walks is passed over, and after the last one the round is whole.
use Rattle.note_infer.proofs.Common.{◌≡◌, ℕ, zero, suc, ◌+◌, ◌-◌, ◌^◌, ◌<◌, ◌≤◌, List, [], ◌∷◌, length, map, get_or, refl, sym, ap, subst}
use Rattle.note_infer.proofs.Common.{◌∙◌, ⊎_elim, arith, Some, slice_get, Contains, cases_lt, same_Some, slice_get_read, slice_get_within}
use Rattle.note_infer.proofs.Common.{FnNote, Notes, State, Image, AreFound, Begins, Comes, IsWithin, States, at_entry, at_leader, HasPassed}
use Rattle.note_infer.proofs.Common.{IsSetting, AllRest, IsClosed, Reached, Rests, Stood, origin, rests, rests_none, stood, stood_none}
use Rattle.note_infer.proofs.Common.{AreStarts, Start}
use Rattle.note_infer.specs.Starting.{IsStart}
use Rattle.note_infer.proofs.{Advancing.passed_given, Advancing.rest_to, Chains.origin_low, Chains.passed_with, Going.same_or_other}
use Rattle.note_infer.proofs.Passing.{marks_read, range_of}

-- a chain past a place over which nothing falls began past it
closed_origin : (image : Image) (notes : Notes) (leaders : List ℕ) (states : States) (k : ℕ) (f : FnNote)
    → slice_get notes.function k ≡ Some f → (at : ℕ) → IsClosed image notes leaders states at → (n p : ℕ) (s : State)
    → (c : Comes image notes leaders states k f n p s) → at ≤ p → at ≤ origin image notes leaders states k f n p s c
unfolding Comes origin
closed_origin image notes leaders states k f there at closed zero p s c over = over
closed_origin image notes leaders states k f there at closed (suc n) p s c over =
    closed_origin image notes leaders states k f there at closed n c.last c.state c.has_state
    (⊎_elim (λ less. absurd (closed k f there n p s c less over)) (λ from. from) (cases_lt c.last at))

-- no walk begins from one place up to another one
abbrev pub NoStart : List ℕ → ℕ → ℕ → Type 0
NoStart work at end = (p : ℕ) → Contains work p → at ≤ p → p < end → ⊥

module _ (image : Image) (notes other : Notes) (leaders : List ℕ) (g : IsSetting image notes other leaders) (states : States)
    (found : AreFound notes leaders states) (work : List ℕ) (rest : AllRest image notes leaders states work) where
  -- what rests is passed over
  rest_stood : (come : States) (at end : ℕ) → Reached image notes leaders states come at → IsClosed image notes leaders states at
      → NoStart work at end → (k : ℕ) (f : FnNote) → slice_get notes.function k ≡ Some f → (p : ℕ) → at ≤ p → p < end → p < f.end
      → Stood image notes leaders states come k f p
  rest_stood come at end r closed none k f there p low high inside = by_rest (rest k f there p inside)
    where
      by_rest : Rests image notes leaders states work k f p → Stood image notes leaders states come k f p
      by_rest (rests_none from) =
          stood_none (λ s has.
          let start = closed_origin image notes leaders states k f there at closed has.0 p s has.1 low in
          let short = origin_low image notes leaders states k f (range_of image notes other leaders g k f there) has.0 p s has.1 in
          none (origin image notes leaders states k f has.0 p s has.1) (from has.0 s has.1) start (omega arith))
      by_rest (rests x) = stood (passed_with image notes leaders states states states come k f p x x.has_state
          (λ leader c w j t e. r.keeps k f there leader c w t
          (passed_given image notes leaders states (marks_read image notes other leaders g) found states k f p there x leader j t e)
          (x.settles leader c w j t e)))

  pub rest_up : (come : States) (at end : ℕ) → at ≤ end → Reached image notes leaders states come at
      → IsClosed image notes leaders states at → NoStart work at end → Reached image notes leaders states come end
  rest_up come at end short r closed none =
      subst (Reached image notes leaders states come) {x = at + (end - at)} {y = end} (omega arith)
      (rest_to image notes leaders states (marks_read image notes other leaders g) found (range_of image notes other leaders g) come
      (end - at) at r
      (λ k f there p low high inside. rest_stood come at end r closed none k f there p low (omega arith) inside))

-- ---- the starts of walks

start_within : (notes : Notes) (leaders : List ℕ) (states : States) (k : ℕ) (f : FnNote) → slice_get notes.function k ≡ Some f
    → f.place < f.end → (x : Start) → k ≡ x.func → IsStart notes leaders states x → IsWithin f x.place
start_within notes leaders states k f there range x at s =
    let same : s.f ≡ f = same_Some s.f f (sym s.there ∙ (ap (slice_get notes.function) (sym at) ∙ there)) in
    subst (λ (h : FnNote). IsWithin h x.place) same (by_begin s.f (subst (λ (h : FnNote). h.place < h.end) (sym same) range) s.begins)
  where
    by_begin : (h : FnNote) → h.place < h.end → Begins notes leaders states x.func h x.place x.state → IsWithin h x.place
    by_begin h range (at_leader c w e) = w
    by_begin h range (at_entry c p e) = (omega arith, omega arith)

-- a place of the work is that of a start
pub start_of : (starts : List Start) (p : ℕ) → Contains (map (λ (x : Start). x.place) starts) p
    → (j : ℕ) × (x : Start) × (slice_get starts j ≡ Some x) × (x.place ≡ p)
start_of [] p c = absurd (let short = c.1 in omega arith)
start_of (x ∷ xs) p (zero, short, e) = (zero, x, refl, e)
start_of (x ∷ xs) p (suc j, short, e) =
    let r = start_of xs p (j, (let s = short in omega arith), e) in (suc r.0, r.1, r.2, r.3)

-- where the walks before this number have come
pub record Walked (image : Image) (notes : Notes) (leaders : List ℕ) (states come : States) (starts : List Start) (n : ℕ) : Type 0 where
  pub at : ℕ
  pub reached : Reached image notes leaders states come at
  pub closed : IsClosed image notes leaders states at
  pub done : (j : ℕ) (x : Start) → j < n → slice_get starts j ≡ Some x → x.place < at
  pub ahead : (j : ℕ) (x : Start) → n ≤ j → slice_get starts j ≡ Some x → at ≤ x.place
  pub small : at ≤ 2 ^ 22

pub walked_none : (image : Image) (notes : Notes) (leaders : List ℕ) (states come : States) (starts : List Start)
    → Reached image notes leaders states come 0 → Walked image notes leaders states come starts 0
walked_none image notes leaders states come starts r = record {
  at = 0;
  reached = r;
  closed = λ k f there n p s c less over. omega (arith, less);
  done = λ j x less e. absurd (omega arith);
  ahead = λ j x from e. omega arith;
  small = omega arith;
}

module _ (image : Image) (notes other : Notes) (leaders : List ℕ) (g : IsSetting image notes other leaders) (states : States)
    (found : AreFound notes leaders states) (starts : List Start) (are : AreStarts notes leaders states starts)
    (rest : AllRest image notes leaders states (map (λ (x : Start). x.place) starts)) where
  -- the round comes to the next start
  pub walked_up : (come : States) (n : ℕ) (x : Start) → slice_get starts n ≡ Some x → Walked image notes leaders states come starts n
      → Reached image notes leaders states come x.place
  walked_up come n x there w =
      rest_up image notes other leaders g states found (map (λ (y : Start). y.place) starts) rest come w.at x.place
      (w.ahead n x (omega arith) there) w.reached w.closed
      (λ p c low high.
      let s = start_of starts p c in
      let at = s.3 in
      ⊎_elim (λ less. let h = w.done s.0 s.1 less s.2 in omega arith)
      (λ from. ⊎_elim (λ more. let h = are.ascend n s.0 x s.1 more there s.2 in omega arith)
      (λ back.
      let same : s.0 ≡ n = omega arith in
      let one : s.1 ≡ x = same_Some s.1 x (sym s.2 ∙ ap (slice_get starts) same ∙ there) in
      let place : s.1.place ≡ x.place = ap (λ (y : Start). y.place) one in omega arith)
      (cases_lt n s.0))
      (cases_lt s.0 n))

  -- and past all
  pub walked_all : (come : States) (n : ℕ) → length starts ≤ n → Walked image notes leaders states come starts n
      → Reached image notes leaders states come (2 ^ 22)
  walked_all come n past w =
      rest_up image notes other leaders g states found (map (λ (y : Start). y.place) starts) rest come w.at (2 ^ 22) w.small w.reached
      w.closed
      (λ p c low high.
      let s = start_of starts p c in
      let at = s.3 in
      let inside = slice_get_within starts s.0 s.1 s.2 in
      let h = w.done s.0 s.1 (omega arith) s.2 in omega arith)

  -- a walk takes the round further
  pub walked_more : (come after : States) (n : ℕ) (x : Start) → slice_get starts n ≡ Some x
      → Walked image notes leaders states come starts n
      → (f : FnNote) → slice_get notes.function x.func ≡ Some f → HasPassed image notes leaders f states after x.place
      → Walked image notes leaders states after starts (n + 1)
  walked_more come after n x there w f here p = record {
    at = p.end;
    reached = p.reached;
    closed = p.closed;
    done = λ j y less e.
        ⊎_elim (λ before. let h = w.done j y before e in let a = w.ahead n x (omega arith) there in let l = p.later in omega arith)
        (λ from.
        let same : j ≡ n = omega arith in
        let one : y ≡ x = same_Some y x (sym e ∙ ap (slice_get starts) same ∙ there) in
        let place : y.place ≡ x.place = ap (λ (z : Start). z.place) one in
        let l = p.later in omega arith)
        (cases_lt j n);
    ahead = λ j y from e. ⊎_elim (λ inside. absurd (no_start y (are.each j y e) (are.ascend n j x y (omega arith) there e) inside))
        (λ past. past) (cases_lt y.place p.end);
    small = let e = (g.read.functions x.func f here).end in let i = p.inside in omega arith;
  }
    where
      mine : IsWithin f x.place
      mine = start_within notes leaders states x.func f here (range_of image notes other leaders g x.func f here) x refl
          (are.each n x there)

      no_start : (y : Start) → IsStart notes leaders states y → x.place < y.place → y.place < p.end → ⊥
      no_start y s less inside = by_begin s.f s.there s.begins
        where
          by_begin : (h : FnNote) → slice_get notes.function y.func ≡ Some h → Begins notes leaders states y.func h y.place y.state → ⊥
          by_begin h e (at_leader c v q) = p.alone y.place less inside c
          by_begin h e (at_entry c v q) =
              let low = mine.0 in
              let end = p.inside in
              let range = range_of image notes other leaders g y.func h e in
              ⊎_elim (λ same. let place : h.place ≡ f.place = ap (λ (z : FnNote). z.place) same.1 in omega arith)
              (λ apart. apart y.place (omega arith, omega arith) (omega arith, omega arith))
              (same_or_other image notes other leaders g states found x.func f here y.func h e)

-- ---- lists

-- the places of starts
abbrev pub places_of : List Start → List ℕ
places_of starts = map (λ (x : Start). x.place) starts

-- the function of a number, as it is looked up
pub at_function : (functions fs : List FnNote) (k : ℕ) (f h : FnNote) → fs ≡ functions → slice_get functions k ≡ Some f → h ≡ get_or fs k h
    → slice_get functions k ≡ Some h
at_function functions fs k f h same there at =
    let inside : k < length functions = slice_get_within functions k f there in
    slice_get_read functions (length functions) k h refl inside (at ∙ ap (λ gs. get_or gs k h) same)
