-- What comes to a leader by a place is one, and where a round has come to a place nothing before it fails.
use Rattle.note_infer.proofs.Common.{◌≡◌, ℕ, zero, suc, ◌+◌, ◌-◌, ◌<◌, ◌≤◌, List, refl, sym, subst, ◌∙◌, ⊎_elim, arith, Err, None, Ok}
use Rattle.note_infer.proofs.Common.{Option, Some, slice_get, Contains, cases_lt, same_Some, Insn, FnNote, Notes, RuleName, State, Image}
use Rattle.note_infer.proofs.Common.{Successors, EndHolds, IsDecoded, PointHolds, RelocationHolds, reloc_at, decoded_once, here_at, row_of}
use Rattle.note_infer.proofs.Common.{Clashes, FailsIn, GivenAt, HasCome, HasState, IsWithin, NoneFailsBefore, States, all_in, fails_below}
use Rattle.note_infer.proofs.Common.{fails_decode, fails_end, fails_point, fails_relocation, fails_row, given, gives, gives_none, marked}
use Rattle.note_infer.proofs.Common.{Passed, Reached, Stood, stood, stood_none}
use Rattle.note_infer.proofs.Chains.{PointsBefore, chain_within, one_chain, rows_one}

apart_rows : (image : Image) (m : Notes) (func p q q' : ℕ) (s s' : State) (i i' : Insn) (x : Successors) (r : RuleName) → q ≡ q' → s ≡ s'
    → i ≡ i' → row_of m (here_at image func p q) s i ≡ Ok x → row_of m (here_at image func p q') s' i' ≡ Err r → ⊥
apart_rows image m func p q q' s s' i i' x r a b c e g = cc

all_apart : (had had' : Option State) (ts us : List State) (come : Option State) → had ≡ had' → ts ≡ us → all_in had ts ≡ Some come
    → all_in had' us ≡ None → ⊥
all_apart had had' ts us come a b e g = cc

all_same : (had had' : Option State) (ts us : List State) (come other : Option State) → had ≡ had' → ts ≡ us → all_in had ts ≡ Some come
    → all_in had' us ≡ Some other → come ≡ other
all_same had had' ts us come other a b e g = cc

given_same : (leader n m : ℕ) (x y : Successors) → n ≡ m → x ≡ y → given leader n x ≡ given leader m y
given_same leader n m x y a b = cc

module _ (image : Image) (notes : Notes) (leaders : List ℕ) (states : States) (func : ℕ) (f : FnNote) (range : f.place < f.end) (end : ℕ)
    (points : PointsBefore image notes leaders states func f range end) where
  -- what is given at a place is one
  pub given_one : (leader p : ℕ) (ts us : List State) → p ≤ end → GivenAt image notes leaders states func f leader p ts
      → GivenAt image notes leaders states func f leader p us → ts ≡ us
  given_one leader p ts us short (gives_none a e) (gives_none b g) = e ∙ sym g
  given_one leader p ts us short (gives_none a e) (gives s i next x h d q g) = absurd (a s h)
  given_one leader p ts us short (gives s i next x h d q g) (gives_none a e) = absurd (a s h)
  given_one leader p ts us short (gives s i next x h d q e) (gives t j other y k b r g) =
      let state = (one_chain image notes leaders states func f range end points h.0 k.0 p p s t refl short h.1 k.1).0 in
      let insn = decoded_once image f p i j next other d b in
      let rows = rows_one (marked notes leaders) image func p next p other s t i j x y refl insn.1 state insn.0 q r in
      e ∙ given_same leader next other x y insn.1 rows ∙ sym g

  pub come_one : (leader place : ℕ) (c d : Option State) → place ≤ end → HasCome image notes leaders states func f leader place c
      → HasCome image notes leaders states func f leader place d → c ≡ d
  unfolding HasCome
  come_one leader zero c d short a b = same_Some c d (sym a ∙ b)
  come_one leader (suc place) c d short a b =
      all_same a.had b.had a.states b.states c d
      (come_one leader place a.had b.had (omega arith) a.before_is b.before_is)
      (given_one leader place a.states b.states (omega arith) a.given_is b.given_is) a.all b.all

-- ---- what has come by an earlier place

come_down : (image : Image) (notes : Notes) (leaders : List ℕ) (states : States) (func : ℕ) (f : FnNote) (leader n place : ℕ)
    (come : Option State) → HasCome image notes leaders states func f leader (n + place) come
    → (had : Option State) × HasCome image notes leaders states func f leader place had
unfolding HasCome
come_down image notes leaders states func f leader zero place come h =
    (come, subst (λ p. HasCome image notes leaders states func f leader p come) {x = zero + place} {y = place} (omega arith) h)
come_down image notes leaders states func f leader (suc n) place come h =
    let g : HasCome image notes leaders states func f leader (suc (n + place)) come =
    subst (λ p. HasCome image notes leaders states func f leader p come) {x = suc n + place} {y = suc (n + place)} (omega arith) h in
    come_down image notes leaders states func f leader n place g.had g.before_is

pub come_by : (image : Image) (notes : Notes) (leaders : List ℕ) (states : States) (func : ℕ) (f : FnNote) (leader place end : ℕ)
    (come : Option State) → place ≤ end → HasCome image notes leaders states func f leader end come
    → (had : Option State) × HasCome image notes leaders states func f leader place had
come_by image notes leaders states func f leader place end come short h =
    come_down image notes leaders states func f leader (end - place) place come
    (subst (λ p. HasCome image notes leaders states func f leader p come) {x = end} {y = end - place + place} (omega arith) h)

-- ---- nothing fails

module _ (image : Image) (notes : Notes) (leaders : List ℕ) (states come : States) (place : ℕ)
    (reached : Reached image notes leaders states come place) (k : ℕ) (f : FnNote) (there : slice_get notes.function k ≡ Some f)
    (range : f.place < f.end) where
  -- the rule `point` holds at the places with a state that were passed
  pub points_before : PointsBefore image notes leaders states k f range place
  points_before n p s i next less c d =
      by_stood (reached.stands k f there p less (chain_within image notes leaders states k f range n p s c).1)
    where
      by_stood : Stood image notes leaders states come k f p → PointHolds (marked notes leaders) p next
      by_stood (stood_none none) = absurd (none s (n, c))
      by_stood (stood x) = subst (PointHolds (marked notes leaders) p) (decoded_once image f p x.insn i x.next next x.decode d).1 x.point

  -- what has come to a leader by the place after an earlier one
  come_after : (leader p : ℕ) → Contains leaders leader → IsWithin f leader → p < place → p < f.end
      → (had : Option State) × HasCome image notes leaders states k f leader (suc p) had
  come_after leader p c w less inside =
      ⊎_elim (λ below. come_by image notes leaders states k f leader (suc p) place (come leader) (omega arith)
      (reached.comes k f there leader c w (omega arith)))
      (λ past. come_by image notes leaders states k f leader (suc p) f.end (come leader) (omega arith)
      (reached.done k f there leader c w past))
      (cases_lt place f.end)

  -- what has come takes what is given at a place that was passed
  no_clash : (p : ℕ) (s : State) → p < place → (i : Insn) (next : ℕ) (y : Successors) → HasState image notes leaders states k f p s
      → IsDecoded image f p i next → row_of (marked notes leaders) (here_at image k p next) s i ≡ Ok y
      → (clash : Clashes image notes leaders states k f p next y) → (had : Option State)
      → HasCome image notes leaders states k f clash.leader (suc p) had → ⊥
  unfolding HasCome
  no_clash p s less i next y has d row clash had t =
      all_apart t.had clash.had t.states (given clash.leader next y) had
      (come_one image notes leaders states k f range place points_before clash.leader p t.had clash.had (omega arith) t.before_is
      clash.come)
      (given_one image notes leaders states k f range place points_before clash.leader p t.states (given clash.leader next y)
      (omega arith) t.given_is (gives s i next y has d row refl))
      t.all clash.clash

  none_at : (p : ℕ) (s : State) → p < place → HasState image notes leaders states k f p s
      → (x : Passed image notes leaders states come k f p)
      → (r : RuleName) → FailsIn image notes leaders states k f p s r → ⊥
  none_at p s less has x r (fails_decode miss e) = miss (record { insn = x.insn; next = x.next; decode = x.decode })
  none_at p s less has x r (fails_point i next d miss e) =
      miss (subst (PointHolds (marked notes leaders) p) (decoded_once image f p x.insn i x.next next x.decode d).1 x.point)
  none_at p s less has x r (fails_relocation i next d miss e) =
      let same = decoded_once image f p x.insn i x.next next x.decode d in
      miss (subst (λ n. RelocationHolds image notes p i n (reloc_at image n)) same.1
      (subst (λ j. RelocationHolds image notes p j x.next (reloc_at image x.next)) same.0 x.relocation))
  none_at p s less has x r (fails_row i next d point rel row) =
      let same = decoded_once image f p x.insn i x.next next x.decode d in
      let state = (one_chain image notes leaders states k f range place points_before x.has_state.0 has.0 p p x.state s refl (omega arith)
      x.has_state.1 has.1).0 in
      apart_rows image (marked notes leaders) k p x.next next x.state s x.insn i x.x r same.1 state same.0 x.row row
  none_at p s less has x r (fails_below i next y d row clash e) =
      let inside = (chain_within image notes leaders states k f range has.0 p s has.1).1 in
      let h = come_after clash.leader p clash.there clash.within less inside in
      no_clash p s less i next y has d row clash h.0 h.1
  none_at p s less has x r (fails_end i next d miss e) =
      let same = decoded_once image f p x.insn i x.next next x.decode d in
      miss (subst (EndHolds f i) same.1 (subst (λ j. EndHolds f j x.next) same.0 x.ends))

pub none_fails : (image : Image) (notes : Notes) (leaders : List ℕ) (states come : States) (place : ℕ)
    → ((k : ℕ) (f : FnNote) → slice_get notes.function k ≡ Some f → f.place < f.end)
    → Reached image notes leaders states come place → NoneFailsBefore image notes leaders states place
none_fails image notes leaders states come place range reached k f there p s less has r fails =
    by_stood (reached.stands k f there p less (chain_within image notes leaders states k f (range k f there) has.0 p s has.1).1)
  where
    by_stood : Stood image notes leaders states come k f p → ⊥
    by_stood (stood_none none) = none s has
    by_stood (stood x) = none_at image notes leaders states come place reached k f there (range k f there) p s less has x r fails
