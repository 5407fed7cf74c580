-- A state that has had another one joined in takes it again without a change, whatever else was joined in since.
use Rattle.note_infer.proofs.Joins.{◌≡◌, ℕ, suc, Bool, true, false, List, [], ◌∷◌, length, Option, None, Some, slice_get, refl, ap, sym}
use Rattle.note_infer.proofs.Joins.{subst, ◌∙◌, arith, bit_and, min, bit_at, and_parts, and_from, eq-eqb, false≢true, bit_at_and}
use Rattle.note_infer.proofs.Joins.{same_from_bits, only_if, IsBounded, Item, Slot, Locals, FnNote, Notes, State, Ty, join_types, agree}
use Rattle.note_infer.proofs.Joins.{item_agrees, items_agree, join_item, joined, zipped}
use Rattle.std.proofs.lemmas.Option.{get_or_from_slice_get}
use Rattle.note_types.specs.Known.{IsState}
use Rattle.note_infer.specs.{JoinStates.join_states, JoinStates.without_fact, JoinLaws.FirstAgain, JoinLaws.StatesAgain}
use Rattle.note_infer.specs.{JoinLaws.StatesSettle}
use Rattle.note_infer.proofs.{Sets.and_self, SettledTypes.types_again, SettledTypes.types_settled, StateJoins.item-equal}
use Rattle.note_infer.proofs.{StateJoins.items_agree-equal, StateJoins.zipped-equal, TypeJoins.types_equal}
use Rattle.note_types.specs.declared.types.Ty.TheVariants as ty

-- ---- lists

-- what holds of each thing of a list
abbrev Each : {A : Type 0} → (A → Type 0) → List A → Type 0
Each {A} P xs = (k : ℕ) (x : A) → slice_get xs k ≡ Some x → P x

abbrev first_of : {A : Type 0} → A → List A → A
first_of d [] = d
first_of d (x ∷ xs) = x

abbrev rest_of : {A : Type 0} → List A → List A
rest_of [] = []
rest_of (x ∷ xs) = xs

module _ {A : Type 0} (f : A → A → A) (P : A → Type 0) where
  zipped_again : ((x y : A) → P x → P y → f (f x y) y ≡ f x y) → (xs ys : List A) → Each P xs → Each P ys
      → zipped f (zipped f xs ys) ys ≡ zipped f xs ys
  unfolding zipped
  zipped_again h [] ys p q = refl
  zipped_again h (x ∷ xs) [] p q = refl
  zipped_again h (x ∷ xs) (y ∷ ys) p q = λ i. h x y (p 0 x refl) (q 0 y refl) i ∷ zipped_again h xs ys (λ k. p (suc k)) (λ k. q (suc k)) i

  zipped_settled : ((x h y : A) → P x → P h → P y → f x y ≡ x → f (f x h) y ≡ f x h) → (xs hs ys : List A) → Each P xs → Each P hs
      → Each P ys → zipped f xs ys ≡ xs → zipped f (zipped f xs hs) ys ≡ zipped f xs hs
  unfolding zipped
  zipped_settled g [] hs ys p q r e = refl
  zipped_settled g (x ∷ xs) [] ys p q r e = refl
  zipped_settled g (x ∷ xs) (h ∷ hs) [] p q r e = absurd (let l = ap length e in omega (arith, l))
  zipped_settled g (x ∷ xs) (h ∷ hs) (y ∷ ys) p q r e =
      let first : f x y ≡ x = ap (first_of x) e in
      let rest : zipped f xs ys ≡ xs = ap rest_of e in
      λ i. g x h y (p 0 x refl) (q 0 h refl) (r 0 y refl) first i
      ∷ zipped_settled g xs hs ys (λ k. p (suc k)) (λ k. q (suc k)) (λ k. r (suc k)) rest i

-- ---- items

abbrev IsBoundedItem : Item → Type 0
IsBoundedItem (Slot kind t) = IsBounded t
IsBoundedItem Locals = Unit {0}

item_again : (x y : Item) → IsBoundedItem x → IsBoundedItem y → join_item (join_item x y) y ≡ join_item x y
item_again (Slot k a) (Slot l b) p q = ap (Slot k) (types_again a b p q)
item_again (Slot k a) Locals p q = refl
item_again Locals y p q = refl

abbrev slot_ty : Ty → Item → Ty
slot_ty d (Slot k t) = t
slot_ty d Locals = d

item_settled : (x h y : Item) → IsBoundedItem x → IsBoundedItem h → IsBoundedItem y → join_item x y ≡ x
    → join_item (join_item x h) y ≡ join_item x h
item_settled (Slot k a) (Slot l b) (Slot m c) p q r e = ap (Slot k) (types_settled a b c p q r (ap (slot_ty a) e))
item_settled (Slot k a) (Slot l b) Locals p q r e = refl
item_settled (Slot k a) Locals (Slot m c) p q r e = e
item_settled (Slot k a) Locals Locals p q r e = refl
item_settled Locals h y p q r e = refl

item_agrees-joined : (x h y : Item) → item_agrees x h ≡ true → item_agrees x y ≡ true → item_agrees (join_item x h) y ≡ true
item_agrees-joined (Slot k a) (Slot l b) (Slot m c) p q = q
item_agrees-joined (Slot k a) (Slot l b) Locals p q = q
item_agrees-joined (Slot k a) Locals y p q = absurd (false≢true p)
item_agrees-joined Locals h y p q = q

-- what agrees with items agrees with them where others were joined in
items_agree-joined : (xs hs ys : List Item) → items_agree xs hs ≡ true → items_agree xs ys ≡ true → items_agree (zipped join_item xs hs) ys
    ≡ true
unfolding zipped items_agree
items_agree-joined [] hs ys p q = q
items_agree-joined (x ∷ xs) [] ys p q = absurd (false≢true p)
items_agree-joined (x ∷ xs) (h ∷ hs) [] p q = absurd (false≢true q)
items_agree-joined (x ∷ xs) (h ∷ hs) (y ∷ ys) p q =
    let a = and_parts _ _ p in let b = and_parts _ _ q in
    and_from _ _ (item_agrees-joined x h y a.0 b.0) (items_agree-joined xs hs ys a.1 b.1)

-- ---- sets

sets_again : (a b : ℕ) → bit_and (bit_and a b) b ≡ bit_and a b
sets_again a b = same_from_bits _ _ (λ f. bit_at_and (bit_and a b) b f ∙ twice (bit_at (bit_and a b) f) (bit_at a f) (bit_at b f)
    (bit_at_and a b f))
  where
    twice : (z x y : ℕ) → z ≡ min x y → min z y ≡ z
    twice z x y e = omega (arith, e)

sets_settled : (a h b : ℕ) → bit_and a b ≡ a → bit_and (bit_and a h) b ≡ bit_and a h
sets_settled a h b e =
    same_from_bits _ _
    (λ f. bit_at_and (bit_and a h) b f
    ∙ kept (bit_at (bit_and a h) f) (bit_at a f) (bit_at h f) (bit_at b f) (bit_at_and a h f)
    (sym (bit_at_and a b f) ∙ ap (λ z. bit_at z f) e))
  where
    kept : (z x y w : ℕ) → z ≡ min x y → min x w ≡ x → min z w ≡ z
    kept z x y w p q = omega (arith, p, q)

-- ---- states

pub only_is : {A : Type 0} (b : Bool) (x y : A) → b ≡ true → x ≡ y → only_if b x ≡ Some y
only_is true x y e q = ap Some q
only_is false x y e q = absurd (false≢true e)

pub only_parts : {A : Type 0} (b : Bool) (x y : A) → only_if b x ≡ Some y → (b ≡ true) × (x ≡ y)
only_parts {A} true x y e = (refl, ap value e)
  where
    value : Option A → A
    value None = x
    value (Some z) = z
only_parts false x y e = absurd cc

-- what agrees with a state agrees with it where another one was joined in
agree_joined : (s h t : State) → agree s h ≡ true → agree s t ≡ true → agree (joined s h) t ≡ true
unfolding agree joined
agree_joined s h t p q =
    let a = and_parts _ _ p in let b = and_parts _ _ q in and_from _ _ (items_agree-joined s.items h.items t.items a.0 b.0) b.1

module _ (notes : Notes) (f : FnNote) where
  registers_bounded : (s : State) → IsState notes f s → Each IsBounded s.regs
  registers_bounded s h k x e = subst IsBounded (get_or_from_slice_get s.regs k x ty.Any e) (h.registers k).bounded

  items_bounded : (s : State) → IsState notes f s → Each IsBoundedItem s.items
  items_bounded s h k (Slot kind t) e = (h.slots k kind t e).bounded
  items_bounded s h k Locals e = tt

  joined_again : (s t : State) → IsState notes f s → IsState notes f t → joined (joined s t) t ≡ joined s t
  unfolding joined
  joined_again s t h g i =
      record {
        regs = zipped_again join_types IsBounded types_again s.regs t.regs (registers_bounded s h) (registers_bounded t g) i;
        items = zipped_again join_item IsBoundedItem item_again s.items t.items (items_bounded s h) (items_bounded t g) i;
        written = sets_again s.written t.written i;
        made = s.made;
        fact = None;
      }

  joined_settled : (s h t : State) → IsState notes f s → IsState notes f h → IsState notes f t → joined s t ≡ s
      → joined (joined s h) t ≡ joined s h
  unfolding joined
  joined_settled s h t x y z e i =
      record {
        regs = zipped_settled join_types IsBounded types_settled s.regs h.regs t.regs (registers_bounded s x) (registers_bounded h y)
            (registers_bounded t z) (ap (λ (u : State). u.regs) e) i;
        items = zipped_settled join_item IsBoundedItem item_settled s.items h.items t.items (items_bounded s x) (items_bounded h y)
            (items_bounded t z) (ap (λ (u : State). u.items) e) i;
        written = sets_settled s.written h.written t.written (ap (λ (u : State). u.written) e) i;
        made = s.made;
        fact = None;
      }

-- what was joined in is joined in again without a change
pub states_again : StatesAgain
states_again notes f s t u h g e =
    let p = only_parts (agree s t) (joined s t) u e in
    let P : State → Type 0 = λ v. join_states v t ≡ Some v in
    subst P p.1 (only_is (agree (joined s t) t) (joined (joined s t) t) (joined s t) (agree_joined s t t p.0 p.0)
    (joined_again notes f s t h g))

-- and where others were joined in since
pub states_settled : StatesSettle
states_settled notes f s h t u x y z e g =
    let p = only_parts (agree s t) (joined s t) s e in
    let q = only_parts (agree s h) (joined s h) u g in
    let P : State → Type 0 = λ v. join_states v t ≡ Some v in
    subst P q.1
    (only_is (agree (joined s h) t) (joined (joined s h) t) (joined s h) (agree_joined s h t q.0 p.0)
    (joined_settled notes f s h t x y z p.1))

-- the first state that comes is taken in again
pub first_again : FirstAgain
unfolding agree joined
first_again t =
    only_is (agree (without_fact t) t) (joined (without_fact t) t) (without_fact t)
    (and_from _ _ (items_agree-equal t.items) (eq-eqb t.made t.made refl))
    (λ i. record {
      regs = zipped-equal join_types (λ x. types_equal x x refl) t.regs i;
      items = zipped-equal join_item item-equal t.items i;
      written = and_self t.written i;
      made = t.made;
      fact = None;
    })
