-- Items dropped from the top: what the rules leave of the items of a state, the neutral machine leaves of a frame's.
use Rattle.typing_laws.proofs.Common.{◌≡◌, ℕ, ◌-◌, ◌≤◌, Bool, true, false, ◌&&◌, ◌||◌, if◌then◌else◌, nat_eq, nat_le, List, [], ◌∷◌, Option}
use Rattle.typing_laws.proofs.Common.{Some, None, count_by, refl, sym, ap, ap₂, ◌∙◌, subst, arith, AllZip, list_any, false≢true, true≢false}
use Rattle.typing_laws.proofs.Common.{none-some, is_locals, N, Item, Notes, Pair, Shape, item_size, left_after, dropped, StackItem, Pushed}
use Rattle.typing_laws.proofs.Common.{LocalsOf, FunctionFrame, locals_among, ItemFits, height, item_bytes, item_units, Memory, TypedObject}
use Rattle.typing_laws.proofs.Common.{frame_locals, SlotsKept}
use Rattle.std.proofs.lemmas.List.Sums.{sum_by-cons}
use Rattle.neutral_machine.specs.Rows.{Dropped, with_one}
use Rattle.typing_laws.proofs.OnStack.{units_are}
use Rattle.neutral_machine.specs.Rows as rows

-- the locals are among items at most once
abbrev pub Once : List Item → Type 0
Once [] = Unit {0}
Once (Item.Slot kind t ∷ xs) = Once xs
Once (Item.Locals ∷ xs) = list_any is_locals xs ≡ false

none_counted : (xs : List Item) → count_by is_locals xs ≤ 0 → list_any is_locals xs ≡ false
none_counted [] l = refl
none_counted (Item.Slot kind t ∷ xs) l = none_counted xs (let c = sum_by-cons (λ x. if is_locals x then 1 else 0) (Item.Slot kind t) xs in
    omega (arith, c, l))
none_counted (Item.Locals ∷ xs) l = absurd (let c = sum_by-cons (λ x. if is_locals x then 1 else 0) Item.Locals xs in omega (arith, c, l))

pub once_counted : (xs : List Item) → count_by is_locals xs ≤ 1 → Once xs
once_counted [] l = tt
once_counted (Item.Slot kind t ∷ xs) l = once_counted xs (let c = sum_by-cons (λ x. if is_locals x then 1 else 0) (Item.Slot kind t) xs in
    omega (arith, c, l))
once_counted (Item.Locals ∷ xs) l = none_counted xs (let c = sum_by-cons (λ x. if is_locals x then 1 else 0) Item.Locals xs in
    omega (arith, c, l))

-- what is left of natural slots
pub kept_rest : (notes : Notes) (os : List TypedObject) (i : StackItem) (is : List StackItem) → SlotsKept notes os (i ∷ is)
    → SlotsKept notes os is
kept_rest notes os (Pushed N v) is h = h.1
kept_rest notes os c is h = h

module _ (notes : Notes) (m : Memory) (d : ℕ) (f : FunctionFrame) (size : Pair)
    (same : (s : Shape) → frame_locals notes f.func ≡ Some s → (size.n ≡ s.n) × (size.c ≡ s.c)) where
  -- the items that are left
  pub record DropFound (n c : ℕ) (is : List StackItem) (xs left : List Item) : Type 0 where
    pub rest : List StackItem
    pub gone : Bool
    pub found : dropped n c is ≡ Some (record { items = rest; locals = gone })
    pub fits : AllZip (ItemFits notes m d f) rest left
    pub lower : (w : ℕ) → height w rest ≤ height w is
    pub kept : (os : List TypedObject) → SlotsKept notes os is → SlotsKept notes os rest
    pub stay : gone ≡ false → locals_among rest ≡ locals_among is
    pub any : list_any is_locals xs ≡ (gone || list_any is_locals left)
    pub once : gone ≡ true → Once xs → list_any is_locals left ≡ false

  units_same : (i : StackItem) (x : Item) → ItemFits notes m d f i x → (item_units i ≡ (item_size size x).n)
      × (item_bytes i ≡ (item_size size x).c)
  units_same (Pushed kind v) (Item.Slot k t) h = units_are kind k v h.0
  units_same (LocalsOf s) Item.Locals h = let e = same s h in (sym e.0, sym e.1)
  units_same (Pushed kind v) Item.Locals h = absurd h
  units_same (LocalsOf s) (Item.Slot k t) h = absurd h

  left_is : (x y : List Item) → ◌≡◌ {A = Option (List Item)} (Some x) (Some y) → x ≡ y
  left_is x y e = cc

  -- the item on top is dropped too
  more : (n c p q : ℕ) (i : StackItem) (x : Item) (is : List StackItem) (xs left : List Item) → ItemFits notes m d f i x
      → dropped n c (i ∷ is) ≡ with_one (rows.is_locals i) (dropped p q is) → DropFound p q is xs left
      → DropFound n c (i ∷ is) (x ∷ xs) left
  more n c p q (Pushed kind v) (Item.Slot k t) is xs left h e r = record {
    rest = r.rest;
    gone = r.gone;
    found = e ∙ ap (with_one false) r.found;
    fits = r.fits;
    lower = λ w. (let l = r.lower w in omega (arith, l));
    kept = λ os z. r.kept os (kept_rest notes os (Pushed kind v) is z);
    stay = r.stay;
    any = r.any;
    once = r.once;
  }
  more n c p q (LocalsOf s) Item.Locals is xs left h e r = record {
    rest = r.rest;
    gone = true;
    found = e ∙ ap (with_one true) r.found;
    fits = r.fits;
    lower = λ w. (let l = r.lower w in omega (arith, l));
    kept = λ os z. r.kept os (kept_rest notes os (LocalsOf s) is z);
    stay = λ g. absurd (true≢false g);
    any = refl;
    once = λ g z. others r.gone (list_any is_locals left) (sym r.any ∙ z);
  }
    where
      others : (a b : Bool) → (a || b) ≡ false → b ≡ false
      others true b e = absurd (true≢false e)
      others false b e = e
  more n c p q (Pushed kind v) Item.Locals is xs left h e r = absurd h
  more n c p q (LocalsOf s) (Item.Slot k t) is xs left h e r = absurd h

  -- nothing is dropped
  nothing_more : (n c : ℕ) (is : List StackItem) (xs left : List Item) → AllZip (ItemFits notes m d f) is xs
      → dropped n c is ≡ Some (record { items = is; locals = false }) → xs ≡ left → DropFound n c is xs left
  nothing_more n c is xs left z e q = record {
    rest = is;
    gone = false;
    found = e;
    fits = subst (AllZip (ItemFits notes m d f) is) q z;
    lower = λ w. omega arith;
    kept = λ os h. h;
    stay = λ g. refl;
    any = ap (list_any is_locals) q;
    once = λ g. absurd (false≢true g);
  }

  -- What the rules leave is what the neutral machine leaves.
  pub drop_found : (n c : ℕ) (is : List StackItem) (xs left : List Item) → AllZip (ItemFits notes m d f) is xs
      → left_after size xs n c ≡ Some left → DropFound n c is xs left
  unfolding left_after
  drop_found n c [] [] left z e = go (nat_eq n 0 && nat_eq c 0) refl e
    where
      go : (b : Bool) → (nat_eq n 0 && nat_eq c 0) ≡ b → (if b then Some [] else None) ≡ Some left → DropFound n c [] [] left
      go true g e = nothing_more n c [] [] left tt (ap (λ b. if b then Some (record { items = []; locals = false }) else None) g)
          (left_is [] left e)
      go false g e = absurd (none-some left e)
  drop_found n c [] (x ∷ xs) left z e = absurd z
  drop_found n c (i ∷ is) [] left z e = absurd z
  drop_found n c (i ∷ is) (x ∷ xs) left z e = go (λ p q h. drop_found p q is xs left z.1 h) (nat_eq n 0 && nat_eq c 0) refl e
    where
      u : (item_units i ≡ (item_size size x).n) × (item_bytes i ≡ (item_size size x).c)
      u = units_same i x z.0

      whole : Bool → Bool → ℕ → ℕ → Option Dropped
      whole b k p q = if b then Some (record { items = i ∷ is; locals = false })
          else (if k then with_one (rows.is_locals i) (dropped p q is) else None)

      next : ((p q : ℕ) → left_after size xs p q ≡ Some left → DropFound p q is xs left) → (nat_eq n 0 && nat_eq c 0) ≡ false → (k : Bool)
          → (nat_le (item_size size x).n n && nat_le (item_size size x).c c) ≡ k
          → (if k then left_after size xs (n - (item_size size x).n) (c - (item_size size x).c) else None) ≡ Some left
          → DropFound n c (i ∷ is) (x ∷ xs) left
      next again g false k e = absurd (none-some left e)
      next again g true k e =
          more n c (n - (item_size size x).n) (c - (item_size size x).c) i x is xs left z.0
          (ap (λ b. whole b (nat_le (item_units i) n && nat_le (item_bytes i) c) (n - item_units i) (c - item_bytes i)) g
          ∙ ap₂ (λ p q. whole false (nat_le p n && nat_le q c) (n - p) (c - q)) u.0 u.1
          ∙ ap (λ b. whole false b (n - (item_size size x).n) (c - (item_size size x).c)) k)
          (again (n - (item_size size x).n) (c - (item_size size x).c) e)

      go : ((p q : ℕ) → left_after size xs p q ≡ Some left → DropFound p q is xs left) → (b : Bool) → (nat_eq n 0 && nat_eq c 0) ≡ b
          → (if b then Some (x ∷ xs) else (if nat_le (item_size size x).n n && nat_le (item_size size x).c c then
          left_after size xs (n - (item_size size x).n) (c - (item_size size x).c) else None)) ≡ Some left
          → DropFound n c (i ∷ is) (x ∷ xs) left
      go again true g e = nothing_more n c (i ∷ is) (x ∷ xs) left z
          (ap (λ b. whole b (nat_le (item_units i) n && nat_le (item_bytes i) c) (n - item_units i) (c - item_bytes i)) g)
          (left_is (x ∷ xs) left e)
      go again false g e = next again g (nat_le (item_size size x).n n && nat_le (item_size size x).c c) refl e
