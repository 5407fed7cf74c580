-- How the leaders are gathered, instruction by instruction and function by function.
use Rattle.note_infer.proofs.Common.{◌≡◌, ◌⊎◌, ℕ, zero, suc, ◌+◌, ◌^◌, ◌<◌, ◌≤◌, List, [], ◌∷◌, ◌++◌, get_or, length, ⊎_elim, refl, sym}
use Rattle.note_infer.proofs.Common.{subst, ◌∙◌, inl, inr, arith, Some, slice_get, Contains, cases_lt, same_Some, slice_get_within, Insn}
use Rattle.note_infer.proofs.Common.{FnNote, Notes, IsNotes, Image, FunctionHolds, IsDecoded, IsPlaceOf, decoded_once, item_there}
use Rattle.note_infer.proofs.Common.{decode_later, IsLeaderOf, Adds, IsLeaderBelow, IsNamedBefore}
use Rattle.std.specs.Prelude.{pos}
use Rattle.std.proofs.lemmas.List.Elements.{Contains-append_left, Contains-push, Contains-push_cases}
use Rattle.rules_image.specs.Places.{Leads}
use Rattle.width_checker.proofs.Leading.{leads_further, leads_one, places_before, start_first}
use Rattle.note_infer.specs.{Leaders.IsLeader, Finding.HasCode, Finding.IsNamedIn}

-- ---- lists

pub adds_none : (P : ℕ → Type 0) (xs : List ℕ) → ((p : ℕ) → P p → ⊥) → Adds P xs xs
adds_none P xs none p = (λ c. inl c, λ e. ⊎_elim (λ c. c) (λ h. absurd (none p h)) e)

-- one test in place of another that says the same
pub adds_same : (P Q : ℕ → Type 0) (xs ys : List ℕ) → Adds P xs ys → ((p : ℕ) → P p → Q p) → ((p : ℕ) → Q p → P p) → Adds Q xs ys
adds_same P Q xs ys h to back p = (
  λ c. ⊎_elim (λ x. inl x) (λ x. inr (to p x)) ((h p).0 c),
  λ e. (h p).1 (⊎_elim (λ x. inl x) (λ x. inr (back p x)) e),
)

-- a number more
pub adds_push : (P Q : ℕ → Type 0) (xs ys : List ℕ) (q : ℕ) → Adds P xs ys → ((p : ℕ) → P p → Q p) → Q q
    → ((p : ℕ) → Q p → P p ⊎ (q ≡ p)) → Adds Q xs (ys ++ q ∷ [])
adds_push P Q xs ys q h to here back p = (
  λ c. ⊎_elim (λ x. ⊎_elim (λ y. inl y) (λ y. inr (to p y)) ((h p).0 x)) (λ e. inr (subst Q e here)) (Contains-push_cases ys q p c),
  λ e. ⊎_elim (λ x. Contains-append_left ys (q ∷ []) p ((h p).1 (inl x)))
      (λ x. ⊎_elim (λ y. Contains-append_left ys (q ∷ []) p ((h p).1 (inr y)))
      (λ y. subst (Contains (ys ++ q ∷ [])) y (Contains-push ys q)) (back p x))
      e,
)

-- ---- a function

-- no instruction stands before the function's start
pub none_before : (image : Image) (f : FnNote) (p : ℕ) → IsNamedBefore image f f.place p → ⊥
none_before image f p h = let low = start_first image f h.reached.0 h.from h.reached.1 in let less = h.before in absurd (omega arith)

-- those before the next place are those before this one, and the one here
module _ (image : Image) (f : FnNote) (at next : ℕ) (i : Insn) (reached : IsPlaceOf image f at) (d : IsDecoded image f at i next) where
  pub before_more : (p : ℕ) → IsNamedBefore image f at p → IsNamedBefore image f next p
  before_more p h = let later = decode_later image f at next i d in let less = h.before in record {
    from = h.from;
    reached = h.reached;
    before = omega arith;
    insn = h.insn;
    next = h.next;
    decode = h.decode;
    named = h.named;
  }

  pub before_here : (p : ℕ) → IsNamedIn image f next i p → IsNamedBefore image f next p
  before_here p h = record {
    from = at;
    reached = reached;
    before = decode_later image f at next i d;
    insn = i;
    next = next;
    decode = d;
    named = h;
  }

  pub before_cases : (p : ℕ) → IsNamedBefore image f next p → IsNamedBefore image f at p ⊎ IsNamedIn image f next i p
  before_cases p h =
      ⊎_elim (λ less. inl (record {
        from = h.from;
        reached = h.reached;
        before = less;
        insn = h.insn;
        next = h.next;
        decode = h.decode;
        named = h.named;
      }))
      (λ same.
      let there : IsDecoded image f at h.insn h.next = subst (λ x. IsDecoded image f x h.insn h.next) same h.decode in
      let once = decoded_once image f at h.insn i h.next next there d in
      inr (subst (λ j. IsNamedIn image f next j p) once.0 (subst (λ n. IsNamedIn image f n h.insn p) once.1 h.named)))
      (places_before image f reached.0 h.reached.0 at h.from next i reached.1 d h.reached.1 h.before)

-- an instruction names one place
pub named_once : (image : Image) (f : FnNote) (at next : ℕ) (i : Insn) (p q : ℕ) → IsNamedIn image f next i q
    → IsNamedBefore image f at p ⊎ IsNamedIn image f next i p → IsNamedBefore image f at p ⊎ (q ≡ p)
named_once image f at next i p q h e =
    ⊎_elim (λ x. inl x) (λ x. inr (pos_one q p (same_Some (pos q) (pos p) (sym h.names ∙ x.names)))) e
  where
    pos_one : (q p : ℕ) → pos q ≡ pos p → q ≡ p
    pos_one q p e = cc

-- a place that the function's instructions name
pub leader_from : (image : Image) (f : FnNote) (at p : ℕ) → IsNamedBefore image f at p → IsLeaderOf image f p
leader_from image f at p h = record {
  from = h.from;
  reached = h.reached;
  insn = h.insn;
  next = h.next;
  decode = h.decode;
  names = h.named.names;
  first = h.named.first;
  within = h.named.within;
}

named_by : (image : Image) (f : FnNote) (at p : ℕ) (l : IsLeaderOf image f p) → l.from < at → IsNamedBefore image f at p
named_by image f at p l less = record {
  from = l.from;
  reached = l.reached;
  before = less;
  insn = l.insn;
  next = l.next;
  decode = l.decode;
  named = record { names = l.names; first = l.first; within = l.within };
}

place_below : (image : Image) (f : FnNote) → f.place < f.end → (n p : ℕ) → Leads image f n p → p < f.end
unfolding Leads
place_below image f range zero p h = omega arith
place_below image f range (suc n) p h = h.within

-- at the function's end all are before
pub named_at-end : (image : Image) (f : FnNote) (at p : ℕ) → f.place < f.end → f.end ≤ at → IsLeaderOf image f p
    → IsNamedBefore image f at p
named_at-end image f at p range past l =
    named_by image f at p l (let h = place_below image f range l.reached.0 l.from l.reached.1 in omega arith)

-- past a place at which nothing decodes there is none
stops : (image : Image) (f : FnNote) (at : ℕ) → ((i : Insn) (next : ℕ) → IsDecoded image f at i next → ⊥) → (n m q : ℕ)
    → Leads image f n at → Leads image f m q → n < m → ⊥
unfolding Leads
stops image f at none n zero q a b less = absurd (omega arith)
stops image f at none n (suc m) q a b less =
    ⊎_elim (λ before. stops image f at none n m b.last a b.reached before)
    (λ from.
    let same : m ≡ n = omega arith in
    let reached : Leads image f n b.last = subst (λ k. Leads image f k b.last) same b.reached in
    let last : b.last ≡ at = leads_one image f n b.last at reached a in
    none b.insn q (subst (λ x. IsDecoded image f x b.insn q) last b.decode))
    (cases_lt n m)

pub named_at-stop : (image : Image) (f : FnNote) (at p : ℕ) → IsPlaceOf image f at
    → ((i : Insn) (next : ℕ) → IsDecoded image f at i next → ⊥) → IsLeaderOf image f p → IsNamedBefore image f at p
named_at-stop image f at p reached none l =
    named_by image f at p l
    (⊎_elim (λ less. less)
    (λ from. ⊎_elim (λ more.
    absurd (⊎_elim (λ less. stops image f at none reached.0 l.reached.0 l.from reached.1 l.reached.1 less)
    (λ back. ⊎_elim (λ less. let h = leads_further image f l.reached.0 reached.0 l.from at l.reached.1 reached.1 less in omega arith)
    (λ both.
    let same : l.reached.0 ≡ reached.0 = omega arith in
    let h = leads_one image f reached.0 l.from at (subst (λ k. Leads image f k l.from) same l.reached.1) reached.1 in omega arith)
    (cases_lt l.reached.0 reached.0))
    (cases_lt reached.0 l.reached.0)))
    (λ back. absurd (none l.insn l.next (subst (λ x. IsDecoded image f x l.insn l.next) {x = l.from} {y = at} (omega arith) l.decode)))
    (cases_lt at l.from))
    (cases_lt l.from at))

pub next_place : (image : Image) (f : FnNote) (at next : ℕ) (i : Insn) → IsPlaceOf image f at → IsDecoded image f at i next → next < f.end
    → IsPlaceOf image f next
unfolding Leads
next_place image f at next i reached d within = (
  suc reached.0,
  record { last = at; reached = reached.1; insn = i; decode = d; within = within },
)

pub start_place : (image : Image) (f : FnNote) → IsPlaceOf image f f.place
unfolding Leads
start_place image f = (0, refl)

-- ---- all functions

pub below_none : (image : Image) (notes : Notes) (p : ℕ) → IsLeaderBelow image notes 0 p → ⊥
below_none image notes p h = let less = h.below in absurd (omega arith)

pub below_more : (image : Image) (notes : Notes) (n : ℕ) (f : FnNote) (xs ys : List ℕ) → slice_get notes.function n ≡ Some f
    → ((p : ℕ) → Contains xs p → IsLeaderBelow image notes n p) → ((p : ℕ) → IsLeaderBelow image notes n p → Contains xs p)
    → Adds (IsLeaderOf image f) xs ys
    → ((p : ℕ) → Contains ys p → IsLeaderBelow image notes (n + 1) p) × ((p : ℕ) → IsLeaderBelow image notes (n + 1) p → Contains ys p)
below_more image notes n f xs ys there to from adds = (forth, back)
  where
    forth : (p : ℕ) → Contains ys p → IsLeaderBelow image notes (n + 1) p
    forth p c =
        ⊎_elim (λ x. let h = to p x in let less = h.below in
        record { number = h.number; below = omega arith; f = h.f; there = h.there; of = h.of })
        (λ x. record { number = n; below = omega arith; f = f; there = there; of = x })
        ((adds p).0 c)

    back : (p : ℕ) → IsLeaderBelow image notes (n + 1) p → Contains ys p
    back p h =
        ⊎_elim (λ less. (adds p).1 (inl (from p (record { number = h.number; below = less; f = h.f; there = h.there; of = h.of }))))
        (λ above.
        let less = h.below in
        let same : h.number ≡ n = omega arith in
        let at : slice_get notes.function n ≡ Some h.f = subst (λ k. slice_get notes.function k ≡ Some h.f) same h.there in
        let one : h.f ≡ f = same_Some h.f f (sym at ∙ there) in
        (adds p).1 (inr (subst (λ g. IsLeaderOf image g p) one h.of)))
        (cases_lt h.number n)

pub leader_of : (image : Image) (notes : Notes) (n p : ℕ) → IsLeaderBelow image notes n p → IsLeader image notes p
leader_of image notes n p h = record { number = h.number; f = h.f; there = h.there; of = h.of }

pub leader_below : (image : Image) (notes : Notes) (n p : ℕ) → length notes.function ≤ n → IsLeader image notes p
    → IsLeaderBelow image notes n p
leader_below image notes n p past l = record {
  number = l.number;
  below = let h = slice_get_within notes.function l.number l.f l.there in omega arith;
  f = l.f;
  there = l.there;
  of = l.of;
}

-- a function that is read from the list of the notes is there
pub function_there : (notes : Notes) (fs : List FnNote) (k : ℕ) (f : FnNote) → fs ≡ notes.function → k < length fs → f ≡ get_or fs k f
    → slice_get notes.function k ≡ Some f
function_there notes fs k f same within at =
    subst (λ (gs : List FnNote). slice_get gs k ≡ Some f) same (item_there (λ j (g : FnNote). Unit {0}) fs k f within at)

-- and has code, where the rule of functions holds
pub has_code : (image : Image) (notes : Notes) (k : ℕ) (f : FnNote) → ((j : ℕ) → FunctionHolds image notes j) → IsNotes notes
    → slice_get notes.function k ≡ Some f → HasCode image f
has_code image notes k f holds are there =
    let h = holds k f there in record { range = h.range; home = h.inside; small = (are.functions k f there).end }
