-- A walk goes on past an instruction.
use Rattle.note_infer.proofs.Common.{◌≡◌, ◌⊎◌, ℕ, suc, ◌+◌, ◌-◌, ◌<◌, ◌≤◌, List, [], refl, sym, ap, subst, ◌∙◌, inl, inr, ⊎_elim, arith}
use Rattle.note_infer.proofs.Common.{Option, Some, slice_get, Contains, cases_lt, same_Some, Insn, FnNote, Notes, RuleName, State, Image}
use Rattle.note_infer.proofs.Common.{IsFirst, Successors, IsDecoded, PointHolds, decoded_once, function_before, decode_later, AreFound}
use Rattle.note_infer.proofs.Common.{Begins, Comes, FailsIn, FallsTo, HasState, IsStuck, IsWithin, States, given, gives, gives_none, marked}
use Rattle.note_infer.proofs.Common.{IsSetting, IsClosed, Passed, Reached, Stood, stood, stood_none}
use Rattle.note_infer.proofs.{RoundStates.given_at-found, Advancing.AllJoin, Advancing.Joins, Advancing.advance, Advancing.come_found}
use Rattle.note_infer.proofs.{Advancing.rest_to, Chains.apart, Chains.chain_within, Chains.leader_outside, Chains.none_inside}
use Rattle.note_infer.proofs.{Chains.one_chain, Chains.rows_one, Lone.none_fails, Lone.points_before, Passing.marks_read, Passing.range_of}
use Rattle.note_infer.proofs.{Settling.all_new, StatesAt.all_none}
use Rattle.note_infer.specs.Passing.{Passes}
use Rattle.note_infer.specs.Refusing.{OnRule}
use Rattle.note_infer.specs.declared.walk.Failure.{Failure}
use Rattle.note_infer.specs.declared.walk.Failure.TheVariants as failures

module _ (image : Image) (notes other : Notes) (leaders : List ℕ) (g : IsSetting image notes other leaders) (states : States)
    (found : AreFound notes leaders states) (k : ℕ) (f : FnNote) (there : slice_get notes.function k ≡ Some f) where
  -- another function has none of this one's places
  abbrev pub Other : FnNote → Type 0
  Other h = (p : ℕ) → IsWithin f p → IsWithin h p → ⊥

  pub same_or_other : (j : ℕ) (h : FnNote) → slice_get notes.function j ≡ Some h → ((j ≡ k) × (h ≡ f)) ⊎ Other h
  same_or_other j h here =
      ⊎_elim (λ less. inr (λ p a b. let e = function_before image notes g.functions j k h f less here there in
      let low = a.0 in let high = b.1 in absurd (omega arith)))
      (λ from. ⊎_elim (λ less. inr (λ p a b. let e = function_before image notes g.functions k j f h less there here in
      let high = a.1 in let low = b.0 in absurd (omega arith)))
      (λ back. let same : j ≡ k = omega arith in
      inl (same, same_Some h f (subst (λ n. Some h ≡ slice_get notes.function n) same (sym here) ∙ there)))
      (cases_lt k j))
      (cases_lt j k)

  -- what is said of this function is said of each, where it is said of the others
  for_all : (P : ℕ → FnNote → Type 0) → P k f → (j : ℕ) (h : FnNote) → slice_get notes.function j ≡ Some h → (Other h → P j h) → P j h
  for_all P base j h here rest =
      ⊎_elim (λ same. subst (λ n. P n h) (sym same.0) (subst (P k) (sym same.1) base)) rest (same_or_other j h here)

  none_there : (h : FnNote) (j : ℕ) → slice_get notes.function j ≡ Some h → Other h → (p : ℕ) → IsWithin f p → (s : State)
      → HasState image notes leaders states j h p s → ⊥
  none_there h j here apart p w s has =
      apart p w (chain_within image notes leaders states j h (range_of image notes other leaders g j h here) has.0 p s has.1)

  module _ (come after : States) (at next : ℕ) (i : Insn) (s : State) (fall : Option State)
      (reached : Reached image notes leaders states come at) (has : HasState image notes leaders states k f at s)
      (p : Passes image notes leaders k f at next i s come after fall) where
    within : IsWithin f at
    within = chain_within image notes leaders states k f (range_of image notes other leaders g k f there) has.0 at s has.1

    later : at < next
    later = decode_later image f at next i p.decode

    joined_here : AllJoin image notes leaders states come after at
    joined_here j h here leader c =
        for_all (λ n q. IsWithin q leader → (at < q.end → Joins image notes leaders states come after at n q leader)
        × (q.end ≤ at → after leader ≡ come leader))
        (λ w. (
          λ below. record {
            ts = given leader next p.x;
            given_is = gives s i next p.x has p.decode p.row refl;
            all = p.takes.within leader c w;
          },
          λ past. absurd (let high = within.1 in omega arith),
        ))
        j h here
        (λ apart w.
        let stays : after leader ≡ come leader = p.takes.others leader c (λ v. apart leader v w) in (
          λ below. record {
            ts = [];
            given_is = gives_none (none_there h j here apart at within) refl;
            all = all_none (come leader) ∙ ap (λ o. Some o) (sym stays);
          },
          λ past. stays,
        ))

    passed_here : Passed image notes leaders states after k f at
    passed_here = record {
      state = s;
      has_state = has;
      insn = i;
      next = next;
      decode = p.decode;
      point = p.point;
      relocation = p.relocation;
      x = p.x;
      row = p.row;
      ends = p.ends;
      settles = λ leader c w. all_new notes f (given leader next p.x) (come leader) (after leader)
          (come_found image notes leaders states (marks_read image notes other leaders g) found come at reached k f there leader c w)
          (given_at-found image notes leaders states (marks_read image notes other leaders g) found k f there leader at
          (given leader next p.x) (gives s i next p.x has p.decode p.row refl))
          (p.takes.within leader c w);
    }

    reached_more : Reached image notes leaders states after (suc at)
    reached_more =
        advance image notes leaders states (marks_read image notes other leaders g) found (range_of image notes other leaders g) come
        after at
        reached joined_here
        (λ j h here below. for_all (λ n q. Stood image notes leaders states after n q at) (stood passed_here) j h here
        (λ apart. stood_none (none_there h j here apart at within)))

    -- the round has come to the next place
    pub reached_next : Reached image notes leaders states after next
    reached_next =
        let e = later in
        subst (Reached image notes leaders states after) {x = suc at + (next - suc at)} {y = next} (omega arith)
        (rest_to image notes leaders states (marks_read image notes other leaders g) found (range_of image notes other leaders g) after
        (next - suc at) (suc at) reached_more
        (λ j h here q low high inside. for_all (λ n r. Stood image notes leaders states after n r q)
        (stood_none (λ t b. none_inside image notes leaders states k f (range_of image notes other leaders g k f there) at s i next q t
        (points_before image notes leaders states after (suc at) reached_more k f there (range_of image notes other leaders g k f there))
        has p.decode (omega arith) (omega arith) b))
        j h here
        (λ apart. stood_none (none_there h j here apart q
        (let a = within.0 in let b = p.decode.within in (omega arith, omega arith))))))

    -- the state that falls on stands at the next place, where no leader is there
    pub has_next : (t : State) → fall ≡ Some t → next < f.end → (Contains leaders next → ⊥)
        → HasState image notes leaders states k f next t
    unfolding Comes
    has_next t e inside none = (
      suc has.0,
      record {
        last = at;
        state = s;
        has_state = has.1;
        insn = i;
        decode = p.decode;
        within = inside;
        between = none;
        successors = p.x;
        row = p.row;
        falls = p.fall_is ∙ e;
      },
    )

    -- else nothing falls over it
    closed_here : ((t : State) → fall ≡ Some t → next < f.end → (Contains leaders next → ⊥) → ⊥) → (n q : ℕ) (t : State)
        → (c : FallsTo image notes leaders k f (Comes image notes leaders states k f n) q t) → c.last < next → next ≤ q → ⊥
    closed_here stops n q t c less over =
        let range = range_of image notes other leaders g k f there in
        let points = points_before image notes leaders states after next reached_next k f there range in
        let e = later in
        ⊎_elim (λ before.
        let h = apart image notes leaders states k f range next points (n + has.0) n has.0 c.last at q c.state s c.insn (omega arith)
        c.has_state has.1 before (omega arith) c.decode in omega arith)
        (λ from. ⊎_elim (λ past.
        none_inside image notes leaders states k f range at s i next c.last c.state
        (points_before image notes leaders states after (suc at) reached_more k f there range) has p.decode past less (n, c.has_state))
        (λ back.
        let same : c.last ≡ at = omega arith in
        let d : IsDecoded image f at c.insn q = subst (λ z. IsDecoded image f z c.insn q) same c.decode in
        let once = decoded_once image f at c.insn i q next d p.decode in
        let state = (one_chain image notes leaders states k f range next points n has.0 c.last at c.state s same (omega arith) c.has_state
        has.1).0 in
        let rows : c.successors ≡ p.x = rows_one (marked notes leaders) image k c.last q at next c.state s c.insn i c.successors p.x same
        once.1 state once.0 c.row p.row in
        stops t (sym p.fall_is ∙ (sym (ap (λ (x : Successors). x.fall) rows) ∙ c.falls)) (subst (λ z. z < f.end) once.1 c.within)
        (λ l. c.between (subst (Contains leaders) (sym once.1) l)))
        (cases_lt at c.last))
        (cases_lt c.last at)

    pub closed_next : ((t : State) → fall ≡ Some t → next < f.end → (Contains leaders next → ⊥) → ⊥)
        → IsClosed image notes leaders states next
    closed_next stops j h here =
        for_all (λ n r. (m q : ℕ) (t : State) → (c : FallsTo image notes leaders n r (Comes image notes leaders states n r m) q t)
        → c.last < next → next ≤ q → ⊥)
        (closed_here stops) j h here
        (λ apart m q t c less over.
        let w = chain_within image notes leaders states j h (range_of image notes other leaders g j h here) m c.last c.state c.has_state in
        let low = within.0 in
        let high = within.1 in
        let first = w.0 in
        let e = later in
        let end = p.decode.within in
        let out = c.within in
        ⊎_elim (λ before. apart at within (omega arith, omega arith))
        (λ from. apart c.last (omega arith, omega arith) w)
        (cases_lt c.last f.place))

-- where a rule fails the round is stuck
pub stuck_at : (image : Image) (notes other : Notes) (leaders : List ℕ) → IsSetting image notes other leaders → (states come : States)
    (k : ℕ) (f : FnNote) → slice_get notes.function k ≡ Some f → (at : ℕ) (s : State) (r : RuleName)
    → Reached image notes leaders states come at → HasState image notes leaders states k f at s
    → IsFirst (FailsIn image notes leaders states k f at s) r → IsStuck image notes leaders states at r s
stuck_at image notes other leaders g states come k f there at s r reached has fails = record {
  number = k;
  f = f;
  there = there;
  has_state = has;
  fails = fails;
  before = none_fails image notes leaders states come at (range_of image notes other leaders g) reached;
}

pub has_first : (image : Image) (notes : Notes) (leaders : List ℕ) (states : States) (k : ℕ) (f : FnNote) (place : ℕ) (s : State)
    → Begins notes leaders states k f place s → HasState image notes leaders states k f place s
unfolding Comes
has_first image notes leaders states k f place s b = (0, b)

-- no leader lies between where a walk began and the next place
pub alone_more : (notes : Notes) (leaders : List ℕ) (from at next : ℕ) → PointHolds (marked notes leaders) at next
    → ((p : ℕ) → from < p → p ≤ at → Contains leaders p → ⊥) → (p : ℕ) → from < p → p < next → Contains leaders p → ⊥
alone_more notes leaders from at next point old p low high l = old p low (leader_outside notes leaders at next p point l high) l

pub alone_next : (notes : Notes) (leaders : List ℕ) (from at next : ℕ) → PointHolds (marked notes leaders) at next
    → ((p : ℕ) → from < p → p ≤ at → Contains leaders p → ⊥) → (Contains leaders next → ⊥) → (p : ℕ) → from < p → p ≤ next
    → Contains leaders p → ⊥
alone_next notes leaders from at next point old none p low high l =
    ⊎_elim (λ less. alone_more notes leaders from at next point old p low less l)
    (λ back. none (subst (Contains leaders) {x = p} {y = next} (omega (arith, back, high)) l)) (cases_lt p next)

-- the rule that fails
pub rule_at : (P : RuleName → Type 0) (e : Failure) (r : RuleName) → e ≡ failures.Rule r → OnRule P e → P r
rule_at P e r is h = subst (OnRule P) is h
