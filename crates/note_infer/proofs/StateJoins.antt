-- Laws of the join of two states.
use Rattle.note_infer.proofs.Joins.{◌≡◌, ◌⊎◌, ℕ, suc, ◌+◌, ◌<◌, ◌≤◌, Bool, true, false, List, [], ◌∷◌, ◌++◌, length, take, Option, None}
use Rattle.note_infer.proofs.Joins.{Some, slice_get, refl, ap, sym, subst, ◌∙◌, inl, inr, ⊎_elim, arith, bit_and, count_ones, and_parts}
use Rattle.note_infer.proofs.Joins.{and_from, eqb-true, eq-eqb, false≢true, Below, IsKnown, Item, Slot, Locals, FnNote, Notes, State, Ty}
use Rattle.note_infer.proofs.Joins.{join_types, agree, item_agrees, items_agree, join_item, joined, zipped, AreBothBelow, StateWeakens}
use Rattle.std.proofs.{Common.cond, Common.zero, Common.slice_index_or, lemmas.Bool.and_left, lemmas.Bool.and_right}
use Rattle.std.specs.{Prelude.count_by, Prelude.is_some, List.AllZip, List.fold}
use Rattle.note_types.specs.{Known.is_locals, Known.is_slot, States.ItemBelow, States.type_of}
use Rattle.note_types.specs.declared.{cell.SlotKind.SlotKind, state.Fact.Fact}
use Rattle.note_types.proofs.SameLaws.{same_kind-equal, same_kind-refl}
use Rattle.note_infer.specs.Ranks.{fact_rank, item_rank, register_rank, state_rank, summed}
use Rattle.note_infer.proofs.{Sets.and_self, Sets.both-fewer, Sets.both-first, Sets.both-second, TypeJoins.types_below}
use Rattle.note_infer.proofs.TypeJoins.{types_equal, types_known, types_weaken}
use Rattle.note_types.specs.declared.types.Ty.TheVariants as ty

-- ---- lists

-- a list joined with another one is the same, or less by the sum of a measure that is never 0
zipped-weakens : {A : Type 0} (f : A → A → A) (w : A → ℕ) → ((x : A) → 0 < w x) → ((x y : A) → (f x y ≡ x) ⊎ (w (f x y) < w x))
    → (xs ys : List A) → (zipped f xs ys ≡ xs) ⊎ (summed w (zipped f xs ys) < summed w xs)
unfolding zipped summed
zipped-weakens f w p h [] ys = inl refl
zipped-weakens f w p h (x ∷ xs) [] = inr (let q = p x in omega (arith, q))
zipped-weakens {A} f w p h (x ∷ xs) (y ∷ ys) = both (h x y) (zipped-weakens f w p h xs ys)
  where
    both : (f x y ≡ x) ⊎ (w (f x y) < w x) → (zipped f xs ys ≡ xs) ⊎ (summed w (zipped f xs ys) < summed w xs)
        → (zipped f (x ∷ xs) (y ∷ ys) ≡ x ∷ xs) ⊎ (summed w (zipped f (x ∷ xs) (y ∷ ys)) < summed w (x ∷ xs))
    both (inl e) (inl g) = inl (λ i. e i ∷ g i)
    both (inl e) (inr l) = inr (let q : w (f x y) ≡ w x = ap w e in omega (arith, q, l))
    both (inr l) (inl g) = inr (let q : summed w (zipped f xs ys) ≡ summed w xs = ap (summed w) g in omega (arith, q, l))
    both (inr l) (inr k) = inr (omega (arith, l, k))

register-weakens : (x y : Ty) → (join_types x y ≡ x) ⊎ (register_rank (join_types x y) < register_rank x)
register-weakens x y = ⊎_elim inl (λ l. inr (omega (arith, l))) (types_weaken x y)

item-weakens : (x y : Item) → (join_item x y ≡ x) ⊎ (item_rank (join_item x y) < item_rank x)
item-weakens (Slot k a) (Slot l b) = ⊎_elim (λ e. inl (ap (Slot k) e)) (λ l. inr (omega (arith, l))) (types_weaken a b)
item-weakens (Slot k a) Locals = inl refl
item-weakens Locals y = inl refl

item-positive : (x : Item) → 0 < item_rank x
item-positive (Slot k a) = omega arith
item-positive Locals = omega arith

fact-falls : (x : Option Fact) → (None ≡ x) ⊎ (0 < fact_rank x)
fact-falls None = inl refl
fact-falls (Some x) = inr (omega arith)

-- what is joined in makes a state weaker or leaves it
pub state_weakens : (s t : State) → StateWeakens s (joined s t)
unfolding joined state_rank
state_weakens s t =
    all (zipped-weakens join_types register_rank (λ x. omega arith) register-weakens s.regs t.regs)
    (zipped-weakens join_item item_rank item-positive item-weakens s.items t.items) (both-fewer s.written s.written t.written (omega arith))
    (fact-falls s.fact)
  where
    regs : List Ty
    regs = zipped join_types s.regs t.regs

    items : List Item
    items = zipped join_item s.items t.items

    written : ℕ
    written = bit_and s.written t.written

    most : {A : Type 0} (w : A → ℕ) {x y : A} → (x ≡ y) ⊎ (w x < w y) → w x ≤ w y
    most w {x} {y} (inl e) = let q : w x ≡ w y = ap w e in omega (arith, q)
    most w (inr l) = omega (arith, l)

    all : (regs ≡ s.regs) ⊎ (summed register_rank regs < summed register_rank s.regs) → (items ≡ s.items)
        ⊎ (summed item_rank items < summed item_rank s.items)
        → (written ≡ s.written) ⊎ (count_ones written < count_ones s.written) → (None ≡ s.fact) ⊎ (0 < fact_rank s.fact) → StateWeakens s
        (joined s t)
    all (inl a) (inl b) (inl c) (inl d) = inl (λ i. record { regs = a i; items = b i; written = c i; made = s.made; fact = d i })
    all (inr l) b c d = inr (let q = most (summed item_rank) b in let r = most count_ones c in omega (arith, l, q, r))
    all (inl a) (inr l) c d = inr (let p : summed register_rank regs ≡ summed register_rank s.regs = ap (summed register_rank) a in
        let r = most count_ones c in omega (arith, l, p, r))
    all (inl a) (inl b) (inr l) d =
        inr (let p : summed register_rank regs ≡ summed register_rank s.regs = ap (summed register_rank) a in
        let q : summed item_rank items ≡ summed item_rank s.items = ap (summed item_rank) b in omega (arith, l, p, q))
    all (inl a) (inl b) (inl c) (inr l) =
        inr (let p : summed register_rank regs ≡ summed register_rank s.regs = ap (summed register_rank) a in
        let q : summed item_rank items ≡ summed item_rank s.items = ap (summed item_rank) b in
        let r : count_ones written ≡ count_ones s.written = ap count_ones c in omega (arith, l, p, q, r))

-- ---- both are below

register_below : (xs ys : List Ty) (r : ℕ) → length xs ≡ length ys → slice_index_or (zipped join_types xs ys) r ty.Any
    ≡ join_types (slice_index_or xs r ty.Any) (slice_index_or ys r ty.Any)
unfolding zipped
register_below [] [] r e = sym (types_equal ty.Any ty.Any refl)
register_below [] (y ∷ ys) r e = absurd (omega (arith, e))
register_below (x ∷ xs) [] r e = absurd (omega (arith, e))
register_below (x ∷ xs) (y ∷ ys) zero e = refl
register_below (x ∷ xs) (y ∷ ys) (suc r) e = register_below xs ys r (omega (arith, e))

slot_type : {k l : SlotKind} {a b : Ty} → Some (Slot k a) ≡ Some (Slot l b) → a ≡ b
slot_type {k} {l} {a} {b} e = ap type_in e
  where
    type_in : Option Item → Ty
    type_in (Some (Slot k t)) = t
    type_in _ = a

-- the slots of items are known
abbrev SlotsKnown : Notes → FnNote → List Item → Type 0
SlotsKnown notes f xs = (k : ℕ) (kind : SlotKind) (t : Ty) → slice_get xs k ≡ Some (Slot kind t) → IsKnown notes f t

module _ (notes : Notes) (f : FnNote) where
  items_below : (xs ys : List Item) → items_agree xs ys ≡ true → SlotsKnown notes f xs → SlotsKnown notes f ys
      → AllZip ItemBelow xs (zipped join_item xs ys) × AllZip ItemBelow ys (zipped join_item xs ys)
  unfolding zipped items_agree
  items_below [] [] e h g = (tt, tt)
  items_below [] (y ∷ ys) e h g = absurd (false≢true e)
  items_below (x ∷ xs) [] e h g = absurd (false≢true e)
  items_below (x ∷ xs) (y ∷ ys) e h g =
      let p = and_parts _ _ e in
      let first = one x y p.0 (λ kind t q. h 0 kind t (ap Some q)) (λ kind t q. g 0 kind t (ap Some q)) in
      let rest = items_below xs ys p.1 (λ k. h (suc k)) (λ k. g (suc k)) in
      ((first.0, rest.0), (first.1, rest.1))
    where
      one : (x y : Item) → item_agrees x y ≡ true → ((kind : SlotKind) (t : Ty) → x ≡ Slot kind t → IsKnown notes f t)
          → ((kind : SlotKind) (t : Ty) → y ≡ Slot kind t → IsKnown notes f t)
          → ItemBelow x (join_item x y) × ItemBelow y (join_item x y)
      one (Slot k a) (Slot l b) e h g =
          let q = types_below a b (h k a refl).bounded (g l b refl).bounded in ((refl, q.0), (sym (same_kind-equal k l e), q.1))
      one (Slot k a) Locals e h g = absurd (false≢true e)
      one Locals (Slot k a) e h g = absurd (false≢true e)
      one Locals Locals e h g = (tt, tt)

  slots_known : (xs ys : List Item) → items_agree xs ys ≡ true → SlotsKnown notes f xs → SlotsKnown notes f ys
      → SlotsKnown notes f (zipped join_item xs ys)
  unfolding zipped items_agree
  slots_known [] ys e h g k kind t q = absurd cc
  slots_known (x ∷ xs) [] e h g k kind t q = absurd cc
  slots_known (x ∷ xs) (y ∷ ys) e h g zero kind t q = first x y (λ kind t q. h 0 kind t (ap Some q)) (λ kind t q. g 0 kind t (ap Some q))
      kind t q (and_parts _ _ e).0
    where
      first : (x y : Item) → ((kind : SlotKind) (t : Ty) → x ≡ Slot kind t → IsKnown notes f t)
          → ((kind : SlotKind) (t : Ty) → y ≡ Slot kind t → IsKnown notes f t)
          → (kind : SlotKind) (t : Ty) → Some (join_item x y) ≡ Some (Slot kind t) → item_agrees x y ≡ true → IsKnown notes f t
      first (Slot k a) (Slot l b) h g kind t q e = subst (IsKnown notes f) (slot_type q) (types_known a b notes f (h k a refl) (g l b refl))
      first (Slot k a) Locals h g kind t q e = absurd (false≢true e)
      first Locals y h g kind t q e = absurd cc
  slots_known (x ∷ xs) (y ∷ ys) e h g (suc k) kind t q = slots_known xs ys (and_parts _ _ e).1 (λ k. h (suc k)) (λ k. g (suc k)) k kind t q

  -- kinds of items stay
  item_kept : (p : Item → Bool) → ((k : SlotKind) (a b : Ty) → p (Slot k a) ≡ p (Slot k b)) → (x y : Item) → p (join_item x y) ≡ p x
  item_kept p h (Slot k a) (Slot l b) = h k (join_types a b) a
  item_kept p h (Slot k a) Locals = refl
  item_kept p h Locals y = refl

  counted : (p : Item → Bool) → ℕ → List Item → ℕ
  counted p n xs = fold {A = Item} {B = ℕ} (λ a x. a + cond (p x) 1 0) n xs

  counted_kept : (p : Item → Bool) → ((k : SlotKind) (a b : Ty) → p (Slot k a) ≡ p (Slot k b)) → (n : ℕ) (xs ys : List Item)
      → items_agree xs ys ≡ true → counted p n (zipped join_item xs ys) ≡ counted p n xs
  unfolding zipped items_agree counted
  counted_kept p h n [] ys e = refl
  counted_kept p h n (x ∷ xs) [] e = absurd (false≢true e)
  counted_kept p h n (x ∷ xs) (y ∷ ys) e =
      ap (λ (b : Bool). counted p (n + cond b 1 0) (zipped join_item xs ys)) (item_kept p h x y)
      ∙ counted_kept p h (n + cond (p x) 1 0) xs ys (and_parts _ _ e).1

  count_kept : (p : Item → Bool) → ((k : SlotKind) (a b : Ty) → p (Slot k a) ≡ p (Slot k b)) → (xs ys : List Item) → items_agree xs ys
      ≡ true → count_by p (zipped join_item xs ys) ≡ count_by p xs
  unfolding counted
  count_kept p h xs ys e = counted_kept p h 0 xs ys e

  there_kept : (P : Type 0) (xs ys : List Item) → items_agree xs ys ≡ true → ((k : ℕ) → slice_get xs k ≡ Some Locals → P) → (k : ℕ)
      → slice_get (zipped join_item xs ys) k ≡ Some Locals → P
  unfolding zipped items_agree
  there_kept P [] ys e h k q = absurd cc
  there_kept P (x ∷ xs) [] e h k q = absurd cc
  there_kept P (Slot k a ∷ xs) (Slot l b ∷ ys) e h zero q = absurd cc
  there_kept P (Slot k a ∷ xs) (Locals ∷ ys) e h zero q = absurd cc
  there_kept P (Locals ∷ xs) (y ∷ ys) e h zero q = h 0 refl
  there_kept P (x ∷ xs) (y ∷ ys) e h (suc k) q = there_kept P xs ys (and_parts _ _ e).1 (λ k. h (suc k)) k q

long : (xs ys : List Ty) → length xs ≡ length ys → length (zipped join_types xs ys) ≡ length xs
unfolding zipped
long [] ys e = refl
long (x ∷ xs) [] e = absurd (omega (arith, e))
long (x ∷ xs) (y ∷ ys) e = let q = long xs ys (omega (arith, e)) in omega (arith, q)

-- two states of a function are both below what they have in common, which is a state of the function
pub states_below : (s t : State) → agree s t ≡ true → AreBothBelow s t (joined s t)
unfolding agree joined
states_below s t e notes f h g =
    let p = and_parts _ _ e in
    let same : length s.regs ≡ length t.regs = h.eight ∙ sym g.eight in
    let at : (r : ℕ) → type_of (joined s t) r ≡ join_types (type_of s r) (type_of t r) = λ r. register_below s.regs t.regs r same in
    let items = items_below notes f s.items t.items p.0 h.slots g.slots in
    record {
      first = record {
        registers = λ r x l. subst (Below (type_of s r)) (sym (at r))
            (types_below (type_of s r) (type_of t r) (h.registers r).bounded (g.registers r).bounded).0;
        items = items.0;
        written = both-first s.written t.written;
        made = refl;
        fact = refl;
      };
      second = record {
        registers = λ r x l. subst (Below (type_of t r)) (sym (at r))
            (types_below (type_of s r) (type_of t r) (h.registers r).bounded (g.registers r).bounded).1;
        items = items.1;
        written = both-second s.written t.written;
        made = sym (eqb-true s.made t.made p.1);
        fact = refl;
      };
      state = record {
        eight = long s.regs t.regs same ∙ h.eight;
        unused = at 0 ∙ (types_equal (type_of s 0) (type_of t 0) (h.unused ∙ sym g.unused) ∙ h.unused);
        registers = λ r. subst (IsKnown notes f) (sym (at r))
            (types_known (type_of s r) (type_of t r) notes f (h.registers r) (g.registers r));
        slots = slots_known notes f s.items t.items p.0 h.slots g.slots;
        few = subst (λ n. n ≤ 64) (sym (count_kept notes f is_slot (λ k a b. refl) s.items t.items p.0)) h.few;
        once = subst (λ n. n ≤ 1) (sym (count_kept notes f is_locals (λ k a b. refl) s.items t.items p.0)) h.once;
        there = there_kept notes f (is_some f.locals ≡ true) s.items t.items p.0 h.there;
        fact = λ x q. absurd cc;
      };
      written = λ k x q. k x (both-first s.written t.written x q);
    }

-- ---- equal states

pub zipped-equal : {A : Type 0} (f : A → A → A) → ((x : A) → f x x ≡ x) → (xs : List A) → zipped f xs xs ≡ xs
unfolding zipped
zipped-equal f h [] = refl
zipped-equal f h (x ∷ xs) = λ i. h x i ∷ zipped-equal f h xs i

pub items_agree-equal : (xs : List Item) → items_agree xs xs ≡ true
unfolding items_agree
items_agree-equal [] = refl
items_agree-equal (Slot k a ∷ xs) = and_from _ _ (same_kind-refl k) (items_agree-equal xs)
items_agree-equal (Locals ∷ xs) = items_agree-equal xs

pub item-equal : (x : Item) → join_item x x ≡ x
item-equal (Slot k a) = ap (Slot k) (types_equal a a refl)
item-equal Locals = refl

states_agree : (s : State) → agree s s ≡ true
unfolding agree
states_agree s = and_from _ _ (items_agree-equal s.items) (eq-eqb s.made s.made refl)

-- a state with no fact, joined with itself, is that state
pub state_equal : (s : State) → s.fact ≡ None → joined s s ≡ s
unfolding joined
state_equal s e i =
    record {
      regs = zipped-equal join_types (λ t. types_equal t t refl) s.regs i;
      items = zipped-equal join_item item-equal s.items i;
      written = and_self s.written i;
      made = s.made;
      fact = sym e i;
    }

pub joined_equal : (s t : State) → s ≡ t → s.fact ≡ None → joined s t ≡ s
joined_equal s t e n = subst (λ (u : State). joined s u ≡ s) e (state_equal s n)

pub agree_equal : (s t : State) → s ≡ t → agree s t ≡ true
agree_equal s t e = subst (λ (u : State). agree s u ≡ true) e (states_agree s)

-- ---- loops

zipped-take : {A : Type 0} (f : A → A → A) (xs ys : List A) (n : ℕ) (d : A) → n < length xs → n < length ys
    → zipped f (take (n + 1) xs) (take (n + 1) ys) ≡ zipped f (take n xs) (take n ys)
    ++ (f (slice_index_or xs n d) (slice_index_or ys n d) ∷ [])
unfolding zipped
zipped-take f [] ys n d h g = absurd (omega (arith, h))
zipped-take f (x ∷ xs) [] n d h g = absurd (omega (arith, g))
zipped-take f (x ∷ xs) (y ∷ ys) zero d h g = refl
zipped-take {A} f (x ∷ xs) (y ∷ ys) (suc n) d h g =
    let e : suc n + 1 ≡ suc (n + 1) = omega arith in
    rw e (ap (λ (zs : List A). f x y ∷ zs) (zipped-take f xs ys n d (omega (arith, h)) (omega (arith, g))))

pub zipped_more : {A : Type 0} (f : A → A → A) (xs ys : List A) (n : ℕ) (d : A) → n < length xs → n < length ys
    → zipped f (take n xs) (take n ys) ++ (f (slice_index_or xs n d) (slice_index_or ys n d) ∷ [])
    ≡ zipped f (take (n + 1) xs) (take (n + 1) ys)
zipped_more f xs ys n d h g = sym (zipped-take f xs ys n d h g)

-- the items at one place, or else d, agree in kind
abbrev pub agree_at : Item → List Item → List Item → ℕ → Bool
agree_at d xs ys k = item_agrees (slice_index_or xs k d) (slice_index_or ys k d)

pub items_agree-all : (d : Item) (xs ys : List Item) → length xs ≡ length ys → ((k : ℕ) → k < length xs → agree_at d xs ys k ≡ true)
    → items_agree xs ys ≡ true
unfolding items_agree
items_agree-all d [] [] e h = refl
items_agree-all d [] (y ∷ ys) e h = absurd (omega (arith, e))
items_agree-all d (x ∷ xs) [] e h = absurd (omega (arith, e))
items_agree-all d (x ∷ xs) (y ∷ ys) e h =
    and_from _ _ (h 0 (omega arith)) (items_agree-all d xs ys (omega (arith, e)) (λ k l. h (suc k) (omega arith)))

pub items_agree-none : (d : Item) (xs ys : List Item) (k : ℕ) → k < length xs → length xs ≡ length ys → agree_at d xs ys k ≡ false
    → items_agree xs ys ≡ false
unfolding items_agree
items_agree-none d [] ys k l e h = absurd (omega arith)
items_agree-none d (x ∷ xs) [] k l e h = refl
items_agree-none d (x ∷ xs) (y ∷ ys) zero l e h = and_left _ _ h
items_agree-none d (x ∷ xs) (y ∷ ys) (suc k) l e h = and_right _ _ (items_agree-none d xs ys k (omega arith) (omega (arith, e)) h)

pub items_agree-lengths : (xs ys : List Item) → (length xs ≡ length ys → ⊥) → items_agree xs ys ≡ false
unfolding items_agree
items_agree-lengths [] [] n = absurd (n refl)
items_agree-lengths [] (y ∷ ys) n = refl
items_agree-lengths (x ∷ xs) [] n = refl
items_agree-lengths (x ∷ xs) (y ∷ ys) n = and_right _ _ (items_agree-lengths xs ys (λ e. n (omega (arith, e))))

-- items that agree are as many
pub agree-length : (xs ys : List Item) → items_agree xs ys ≡ true → length xs ≡ length ys
unfolding items_agree
agree-length [] [] e = refl
agree-length [] (y ∷ ys) e = absurd (false≢true e)
agree-length (x ∷ xs) [] e = absurd (false≢true e)
agree-length (x ∷ xs) (y ∷ ys) e = ap suc (agree-length xs ys (and_parts _ _ e).1)

pub states-length : (s t : State) → agree s t ≡ true → length s.items ≡ length t.items
unfolding agree
states-length s t e = agree-length s.items t.items (and_parts _ _ e).0

pub zipped_within : {A : Type 0} (f : A → A → A) (n : ℕ) (xs ys : List A) → length (zipped f (take n xs) ys) ≤ n
unfolding zipped
zipped_within f zero [] ys = omega arith
zipped_within f zero (x ∷ xs) ys = omega arith
zipped_within f (suc n) [] ys = omega arith
zipped_within f (suc n) (x ∷ xs) [] = omega arith
zipped_within f (suc n) (x ∷ xs) (y ∷ ys) = let q = zipped_within f n xs ys in omega (arith, q)

-- a list of so many values
abbrev pub row : {A : Type 0} → (ℕ → A) → ℕ → List A
row g zero = []
row g (suc n) = g 0 ∷ row (λ k. g (suc k)) n

pub zipped_row : {A : Type 0} (f : A → A → A) (d : A) (n : ℕ) (xs ys : List A) → length xs ≡ n → length ys ≡ n
    → row (λ k. f (slice_index_or xs k d) (slice_index_or ys k d)) n ≡ zipped f xs ys
unfolding zipped
zipped_row f d zero [] ys e g = refl
zipped_row f d zero (x ∷ xs) ys e g = absurd (omega (arith, e))
zipped_row f d (suc n) [] ys e g = absurd (omega (arith, e))
zipped_row f d (suc n) (x ∷ xs) [] e g = absurd (omega (arith, g))
zipped_row {A} f d (suc n) (x ∷ xs) (y ∷ ys) e g = ap (λ (zs : List A). f x y ∷ zs)
    (zipped_row f d n xs ys (omega (arith, e)) (omega (arith, g)))
