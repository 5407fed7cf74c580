-- The state before an instruction is one: instructions that have a state don't overlap where no leader lies inside them.
use Rattle.note_infer.proofs.Common.{◌≡◌, ℕ, zero, suc, ◌+◌, ◌<◌, ◌≤◌, List, [], ◌∷◌, refl, sym, ap, subst, ◌∙◌, ⊎_elim, arith, Some, Ok}
use Rattle.note_infer.proofs.Common.{map, slice_get, Contains, cases_lt, same_Some, Insn, FnNote, Notes, State, Image, Successors}
use Rattle.note_infer.proofs.Common.{IsDecoded, PointHolds, decoded_once, here_at, row_of, decode_later, Begins, Comes, FallsTo, HasState}
use Rattle.note_infer.proofs.Common.{IsWithin, States, at_entry, at_leader, given, mark, marked, Passed, SettlesAll, origin}
use Rattle.rules_image.proofs.Relocs.{there_at}

-- ---- leaders as points

mark_there : (notes : Notes) (leaders : List ℕ) (k l : ℕ) → slice_get leaders k ≡ Some l
    → slice_get (map (mark notes) leaders) k ≡ Some (mark notes l)
mark_there notes [] k l e = absurd cc
mark_there notes (x ∷ xs) zero l e = ap (λ (y : ℕ). Some (mark notes y)) (same_Some x l e)
mark_there notes (x ∷ xs) (suc k) l e = mark_there notes xs k l e

-- a leader isn't inside an instruction at which the rule `point` holds
pub leader_outside : (notes : Notes) (leaders : List ℕ) (place next leader : ℕ) → PointHolds (marked notes leaders) place next
    → Contains leaders leader → leader < next → leader ≤ place
leader_outside notes leaders place next leader h c less =
    ⊎_elim (λ before. before) (λ past. absurd (omega arith))
    (h c.0 (mark notes leader) (mark_there notes leaders c.0 leader (there_at leaders leader c)))

-- ---- chains

pub rows_one : (m : Notes) (image : Image) (func p q p' q' : ℕ) (s s' : State) (i i' : Insn) (x y : Successors) → p ≡ p' → q ≡ q' → s ≡ s'
    → i ≡ i' → row_of m (here_at image func p q) s i ≡ Ok x → row_of m (here_at image func p' q') s' i' ≡ Ok y → x ≡ y
rows_one m image func p q p' q' s s' i i' x y a b c d e g = cc

module _ (image : Image) (notes : Notes) (leaders : List ℕ) (states : States) (func : ℕ) (f : FnNote) (range : f.place < f.end) where
  abbrev Chain : ℕ → ℕ → State → Type 0
  Chain n p s = Comes image notes leaders states func f n p s

  -- a place with a state is one of the function's code
  pub chain_within : (n p : ℕ) (s : State) → Comes image notes leaders states func f n p s → (f.place ≤ p) × (p < f.end)
  unfolding Comes
  chain_within zero p s (at_leader c w e) = w
  chain_within zero p s (at_entry c at e) = (omega arith, omega arith)
  chain_within (suc n) p s c =
      let h = chain_within n c.last c.state c.has_state in
      let later = decode_later image f c.last p c.insn c.decode in
      let low = h.0 in
      (omega arith, c.within)

  pub origin_low : (n p : ℕ) (s : State) (c : Comes image notes leaders states func f n p s)
      → origin image notes leaders states func f n p s c ≤ p
  unfolding Comes origin
  origin_low zero p s c = omega arith
  origin_low (suc n) p s c =
      let h = origin_low n c.last c.state c.has_state in
      let later = decode_later image f c.last p c.insn c.decode in
      omega arith

  -- the rule `point` holds at the places with a state before this one
  abbrev pub PointsBefore : ℕ → Type 0
  PointsBefore end = (n p : ℕ) (s : State) (i : Insn) (next : ℕ) → p < end → Comes image notes leaders states func f n p s
      → IsDecoded image f p i next → PointHolds (marked notes leaders) p next

  -- an instruction with a state ends before the next one with a state begins
  pub apart : (end : ℕ) → PointsBefore end → (fuel n m p q r : ℕ) (s t : State) (i : Insn) → n + m ≤ fuel
      → Comes image notes leaders states func f n p s → Comes image notes leaders states func f m q t
      → p < q → p < end → IsDecoded image f p i r → r ≤ q
  unfolding Comes
  apart end points fuel n zero p q r s t i few a (at_leader c w e) less short d =
      ⊎_elim (λ inside. absurd (let h = leader_outside notes leaders p r q (points n p s i r short a d) c inside in omega arith))
      (λ past. past) (cases_lt q r)
  apart end points fuel n zero p q r s t i few a (at_entry c at e) less short d =
      absurd (let low = (chain_within n p s a).0 in omega arith)
  apart end points zero n (suc m) p q r s t i few a b less short d = absurd (omega arith)
  apart end points (suc fuel) n (suc m) p q r s t i few a b less short d =
      let later = decode_later image f b.last q b.insn b.decode in
      ⊎_elim (λ before.
      let h = apart end points fuel n m p b.last r s b.state i (omega arith) a b.has_state before short d in omega arith)
      (λ from. ⊎_elim (λ after.
      absurd (let h = apart end points fuel m n b.last p q b.state s b.insn (omega arith) b.has_state a after (omega arith) b.decode in
      omega arith))
      (λ back.
      let same : b.last ≡ p = omega arith in
      let there : IsDecoded image f p b.insn q = subst (λ z. IsDecoded image f z b.insn q) same b.decode in
      let once : r ≡ q = (decoded_once image f p i b.insn r q d there).1 in
      omega arith)
      (cases_lt b.last p))
      (cases_lt p b.last)

  -- where a state begins none falls from an instruction
  begun : (m p q : ℕ) (s t : State) → p ≡ q → Begins notes leaders states func f p s
      → FallsTo image notes leaders func f (Comes image notes leaders states func f m) q t → ⊥
  begun m p q s t same (at_leader c w e) b = b.between (subst (Contains leaders) same c)
  begun m p q s t same (at_entry c w e) b =
      let low = (chain_within m b.last b.state b.has_state).0 in
      let later = decode_later image f b.last q b.insn b.decode in omega arith

  -- two chains to a place are one
  pub one_chain : (end : ℕ) → PointsBefore end → (n m p q : ℕ) (s t : State) → p ≡ q → p ≤ end
      → (a : Comes image notes leaders states func f n p s) → (b : Comes image notes leaders states func f m q t)
      → (s ≡ t) × (origin image notes leaders states func f n p s a ≡ origin image notes leaders states func f m q t b)
  unfolding Comes origin
  one_chain end points zero zero p q s t same short (at_leader c w e) (at_leader d v g) =
      (same_Some s t (sym e ∙ ap states same ∙ g), same)
  one_chain end points zero zero p q s t same short (at_leader c w e) (at_entry d v g) = absurd (d (subst (Contains leaders) same c))
  one_chain end points zero zero p q s t same short (at_entry c w e) (at_leader d v g) = absurd (c (subst (Contains leaders) (sym same) d))
  one_chain end points zero zero p q s t same short (at_entry c w e) (at_entry d v g) = (e ∙ sym g, same)
  one_chain end points zero (suc m) p q s t same short a b = absurd (begun m p q s t same a b)
  one_chain end points (suc n) zero p q s t same short a b = absurd (begun n q p t s (sym same) b a)
  one_chain end points (suc n) (suc m) p q s t same short a b =
      let la = decode_later image f a.last p a.insn a.decode in
      let lb = decode_later image f b.last q b.insn b.decode in
      let last : a.last ≡ b.last =
      ⊎_elim (λ less. absurd (let h = apart end points (n + m) n m a.last b.last p a.state b.state a.insn (omega arith) a.has_state
      b.has_state less (omega arith) a.decode in omega arith))
      (λ from. ⊎_elim (λ less. absurd (let h = apart end points (m + n) m n b.last a.last q b.state a.state b.insn (omega arith) b.has_state
      a.has_state less (omega arith) b.decode in omega arith))
      (λ back. omega arith)
      (cases_lt b.last a.last))
      (cases_lt a.last b.last) in
      let rest = one_chain end points n m a.last b.last a.state b.state last (omega arith) a.has_state b.has_state in
      let there : IsDecoded image f a.last b.insn p =
      subst (λ z. IsDecoded image f z b.insn p) (sym last) (subst (λ z. IsDecoded image f b.last b.insn z) (sym same) b.decode) in
      let insn : a.insn ≡ b.insn = (decoded_once image f a.last a.insn b.insn p p a.decode there).0 in
      let rows : a.successors ≡ b.successors = rows_one (marked notes leaders) image func a.last p b.last q a.state b.state a.insn b.insn
      a.successors b.successors last same rest.0 insn a.row b.row in
      (same_Some s t (sym a.falls ∙ ap (λ (x : Successors). x.fall) rows ∙ b.falls), rest.1)

  -- nothing has a state inside an instruction with a state
  pub none_inside : (at : ℕ) (s : State) (i : Insn) (next p : ℕ) (t : State) → PointsBefore (suc at)
      → HasState image notes leaders states func f at s → IsDecoded image f at i next → at < p → p < next
      → HasState image notes leaders states func f p t → ⊥
  none_inside at s i next p t points a d low high b =
      let h = apart (suc at) points (a.0 + b.0) a.0 b.0 at p next s t i (omega arith) a.1 b.1 low (omega arith) d in omega arith

-- ---- other states at the leaders

module _ (image : Image) (notes : Notes) (leaders : List ℕ) (states other : States) (func : ℕ) (f : FnNote) where
  -- a chain stands with other states too, from the same beginning, where the state there is the same if a leader is there
  pub carried : (n p : ℕ) (s : State) (c : Comes image notes leaders states func f n p s)
      → (Contains leaders (origin image notes leaders states func f n p s c)
      → other (origin image notes leaders states func f n p s c) ≡ states (origin image notes leaders states func f n p s c))
      → (d : Comes image notes leaders other func f n p s)
      × (origin image notes leaders other func f n p s d ≡ origin image notes leaders states func f n p s c)
  unfolding Comes origin
  carried zero p s (at_leader c w e) same = (at_leader c w (same c ∙ e), refl)
  carried zero p s (at_entry c w e) same = (at_entry c w e, refl)
  carried (suc n) p s c same =
      let rest = carried n c.last c.state c.has_state same in (
        record {
          last = c.last;
          state = c.state;
          has_state = rest.0;
          insn = c.insn;
          decode = c.decode;
          within = c.within;
          between = c.between;
          successors = c.successors;
          row = c.row;
          falls = c.falls;
        },
        rest.1,
      )

-- an instruction was passed with other states too, where it has the same state and what has come takes what it gives
pub passed_with : (image : Image) (notes : Notes) (leaders : List ℕ) (states other come after : States) (k : ℕ) (f : FnNote) (p : ℕ)
    (x : Passed image notes leaders states come k f p) → HasState image notes leaders other k f p x.state
    → ((leader : ℕ) → Contains leaders leader → IsWithin f leader → SettlesAll (after leader) (given leader x.next x.x))
    → Passed image notes leaders other after k f p
passed_with image notes leaders states other come after k f p x has settles = record {
  state = x.state;
  has_state = has;
  insn = x.insn;
  next = x.next;
  decode = x.decode;
  point = x.point;
  relocation = x.relocation;
  x = x.x;
  row = x.row;
  ends = x.ends;
  settles = settles;
}
