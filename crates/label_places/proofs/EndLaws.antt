-- The least of some ascending places above one, and the end of what begins there.
use Rattle.label_places.proofs.Common.{◌≡◌, ◌+◌, ◌<◌, ◌≤◌, true, false, cond, List, [], ◌∷◌, length, get_or, map, take, drop, refl, sym, ap}
use Rattle.label_places.proofs.Common.{◌∙◌, arith, All, leb, filter, ◌&&◌, get_or_default, take_all, Label, Position, AreByPlace, HasEnd}
use Rattle.std.proofs.lemmas.Bool.{and_cases, and_from, and_left, and_parts, and_right, cases_lt, le-ltb, leb-false, leb-true, eqb-true}
use Rattle.std.proofs.lemmas.Bool.{or_cases, or_parts}
use Rattle.std.proofs.Common.{ℕ, ◌-◌, Bool, ◌⊎◌, inl, inr, Contains, ltb, nat_eq}
use Rattle.std.proofs.lemmas.{Bool.ltb-false, Bool.true≢false, List.get_or-drop, List.get_or-take}
use Rattle.std.proofs.lemmas.List.{length-drop, length-take, take-append-drop, Elements.All-cons}
use Rattle.std.proofs.lemmas.List.{Elements.All-nil, Elements.Contains-append_right, Folds.list_any-append}
use Rattle.std.proofs.lemmas.List.Folds.{list_any_at, list_any_none}
use Rattle.std.specs.{Prelude.◌||◌, List.list_any, List.Sorted.IsNonDecreasing, List.Sorted.IsNonDecreasingBy, List.Sorted.IsPartitionPoint}
use Rattle.label_places.specs.{Ends.IsNext, Ends.is_in, Ends.places_in, Views.is_at, Views.is_between, Views.is_placed}

-- the values before number k have a key that isn't above a place, and the others have one that is
abbrev pub Parts : {X : Type 0} → (X → ℕ) → List X → ℕ → ℕ → Type 0
Parts n xs place k = IsPartitionPoint (λ x. leb (n x) place ≡ true) (λ x. leb (n x) place ≡ false) xs k

-- ---- places alone

pub next-some : (place bound k next : ℕ) (xs : List ℕ) → IsNonDecreasing xs → Parts (λ x. x) xs place k → k < length xs
    → next ≡ get_or xs k next → next < bound → IsNext place bound xs next
next-some place bound k next xs up parts inside is less = record {
  within = omega (arith, less);
  first = λ j d there above. elim (cases_lt j k) [
    | inl before ↦ let low = leb-true _ _ (parts.0 j d (omega arith) before) in absurd (omega (arith, low, above))
    | inr behind ↦
        let far = up k j next behind there in
        let same = get_or_default xs j d next there in omega (arith, far, same, is)
  ];
  one = inr ((k, inside, sym is), (let high = leb-false _ _ (parts.1 k next (omega arith) inside) in omega (arith, high, is)));
}

pub next-none : (place bound k : ℕ) (xs : List ℕ) → IsNonDecreasing xs → Parts (λ x. x) xs place k
    → ((d : ℕ) → k < length xs → bound ≤ get_or xs k d) → IsNext place bound xs bound
next-none place bound k xs up parts far = record {
  within = omega arith;
  first = λ j d there above. elim (cases_lt j k) [
    | inl before ↦ let low = leb-true _ _ (parts.0 j d (omega arith) before) in absurd (omega (arith, low, above))
    | inr behind ↦
        let here = far d (omega (arith, behind, there)) in
        let rise = up k j d behind there in omega (arith, here, rise)
  ];
  one = inl refl;
}

-- ---- positions

-- how a position is read of a list
unfoldable pub no_position : Position
no_position = record { object = 0; section = 0; place = 0 }

module _ (object section place bound : ℕ) where
  -- no position before number k is in the section
  abbrev pub NoneBefore : List Position → ℕ → Type 0
  NoneBefore ps k = (j : ℕ) (d : Position) → j < k → j < length ps → is_at object section (get_or ps j d) ≡ false

  -- where none before number k is in the section, and those from k on aren't before an end, none lies between
  none_between : (ps : List Position) (k end : ℕ) → NoneBefore ps k
      → ((j : ℕ) (d : Position) → k ≤ j → j < length ps → end ≤ (get_or ps j d).place)
      → list_any (is_between object section place end) ps ≡ false
  none_between ps k end before far =
      list_any_none (is_between object section place end) ps (λ j d there. elim (cases_lt j k) [
        | inl here ↦ and_left _ _ (before j d here there)
        | inr behind ↦ and_right _ _ (and_right _ _ (le-ltb _ _ (far j d behind there)))
      ])

  pub end-first : (ps : List Position) (k : ℕ) (p : Position) → IsNonDecreasingBy (λ (q : Position). q.place) ps
      → All (λ (q : Position). place < q.place) ps → k < length ps → p ≡ get_or ps k p → NoneBefore ps k → is_at object section p ≡ true
      → p.place < bound → HasEnd object section place bound ps p.place
  end-first ps k p up above inside is before here less =
      let at : (get_or ps k p).place ≡ p.place = ap (λ (q : Position). q.place) (sym is) in
      record {
        within = omega (arith, less);
        none = none_between ps k p.place before (λ j d behind there.
            let rise = up k j p behind there in
            let same = ap (λ (q : Position). q.place) (get_or_default ps j d p there) in omega (arith, rise, same, at));
        one = inr (
          list_any_at (is_placed object section p.place) ps k p inside
              (ap (is_placed object section p.place) (sym is) ∙ and_from _ _ here (grind arith)),
          (let higher = above k p inside in omega (arith, higher, at)),
        );
      }

  pub end-bound : (ps : List Position) (k : ℕ) → IsNonDecreasingBy (λ (q : Position). q.place) ps → NoneBefore ps k
      → ((d : Position) → k < length ps → bound ≤ (get_or ps k d).place) → HasEnd object section place bound ps bound
  end-bound ps k up before far = record {
    within = omega arith;
    none = none_between ps k bound before (λ j d behind there.
        let here = far d (omega (arith, behind, there)) in
        let rise = up k j d behind there in omega (arith, here, rise));
    one = inl refl;
  }

  -- what holds of the positions above a place holds of all
  pub end-all : (ps : List Position) (k end : ℕ) → Parts (λ (q : Position). q.place) ps place k → k ≤ length ps
      → HasEnd object section place bound (drop k ps) end → HasEnd object section place bound ps end
  end-all ps k end parts fits found =
      let split : (t : Position → Bool) → list_any t ps ≡ (list_any t (take k ps) || list_any t (drop k ps)) =
      λ t. ap (list_any t) (sym (take-append-drop k ps)) ∙ list_any-append t (take k ps) (drop k ps) in
      record {
        within = found.within;
        none = split (is_between object section place end) ∙ ap (λ b. b || list_any (is_between object section place end) (drop k ps))
            low ∙ found.none;
        one = elim found.one [
          | inl same ↦ inl same
          | inr (there, above) ↦
              inr (
                split (is_placed object section end) ∙ (ap (λ b. list_any (is_placed object section end) (take k ps) || b) there
                    ∙ or_true (list_any (is_placed object section end) (take k ps))),
                above,
              )
        ];
      }
    where
      or_true : (b : Bool) → (b || true) ≡ true
      or_true true = refl
      or_true false = refl

      not_above : (j : ℕ) (d : Position) → j < length (take k ps) → (get_or (take k ps) j d).place ≤ place
      not_above j d there =
          let shorter = length-take k ps in
          let inside : j < k = omega (arith, there, shorter) in
          let low = leb-true _ _ (parts.0 j d (omega arith) inside) in
          let same = ap (λ (q : Position). q.place) (get_or-take k ps j d inside) in omega (arith, low, same)

      low : list_any (is_between object section place end) (take k ps) ≡ false
      low = list_any_none (is_between object section place end) (take k ps) (λ j d there.
          and_right _ _ (and_left _ _ (le-ltb _ _ (not_above j d there))))

-- ---- the rest of a list, as it is cut off

pub rest_of : {X : Type 0} (k : ℕ) (xs : List X) → take (length xs - k) (drop k xs) ≡ drop k xs
rest_of k xs = take_all (length xs - k) (drop k xs) (let left = length-drop k xs in omega (arith, left))

-- those from number k on are above the place
pub above-rest : (place k : ℕ) (ps : List Position) → Parts (λ (q : Position). q.place) ps place k
    → All (λ (q : Position). place < q.place) (drop k ps)
above-rest place k ps parts j d there =
    let left = length-drop k ps in
    let high = leb-false _ _ (parts.1 (k + j) d (omega arith) (omega (arith, there, left))) in
    let same = ap (λ (q : Position). q.place) (get_or-drop k ps j d) in omega (arith, high, same)

-- ---- the labels of a section

not_between : (place end p : ℕ) (b : Bool) → (b && (ltb place p && ltb p end)) ≡ false → b ≡ true → place < p → end ≤ p
not_between place end p true none here above = elim (and_cases _ _ none) [
  | inl low ↦ let under = ltb-false place p low in omega (arith, under, above)
  | inr far ↦ ltb-false p end far
]
not_between place end p false none here above = absurd cc

module _ {X : Type 0} (f : X → ℕ) (g : X → Bool) where
  none_filtered : (place end : ℕ) (xs : List X) → list_any (λ x. g x && (ltb place (f x) && ltb (f x) end)) xs ≡ false
      → All (λ p. place < p → end ≤ p) (map f (filter g xs))
  none_filtered place end [] none = All-nil (λ p. place < p → end ≤ p)
  none_filtered place end (x ∷ xs) none =
      let parts = or_parts (g x && (ltb place (f x) && ltb (f x) end))
      (list_any (λ y. g y && (ltb place (f y) && ltb (f y) end)) xs) none in
      by_test (g x) refl parts.0 (none_filtered place end xs parts.1)
    where
      by_test : (b : Bool) → g x ≡ b → (g x && (ltb place (f x) && ltb (f x) end)) ≡ false
          → All (λ p. place < p → end ≤ p) (map f (filter g xs))
          → All (λ p. place < p → end ≤ p) (map f (cond b (x ∷ filter g xs) (filter g xs)))
      by_test true is here rest =
          All-cons (λ p. place < p → end ≤ p) (f x) (map f (filter g xs)) (λ above. not_between place end (f x) (g x) here is above) rest
      by_test false is here rest = rest

  filtered_has : (end : ℕ) (xs : List X) → list_any (λ x. g x && nat_eq (f x) end) xs ≡ true → Contains (map f (filter g xs)) end
  filtered_has end [] there = absurd cc
  filtered_has end (x ∷ xs) there =
      by_test (g x) refl (or_cases (g x && nat_eq (f x) end) (list_any (λ y. g y && nat_eq (f y) end) xs) there) (filtered_has end xs)
    where
      by_test : (b : Bool) → g x ≡ b
          → ((g x && nat_eq (f x) end) ≡ true) ⊎ (list_any (λ y. g y && nat_eq (f y) end) xs ≡ true)
          → (list_any (λ y. g y && nat_eq (f y) end) xs ≡ true → Contains (map f (filter g xs)) end)
          → Contains (map f (cond b (x ∷ filter g xs) (filter g xs))) end
      by_test true is (inl here) rest =
          let same : f x ≡ end = eqb-true (f x) end (and_parts (g x) (nat_eq (f x) end) here).1 in (0, omega arith, same)
      by_test true is (inr more) rest = Contains-append_right (f x ∷ []) (map f (filter g xs)) end (rest more)
      by_test false is (inl here) rest = absurd (true≢false (sym (and_parts (g x) (nat_eq (f x) end) here).0 ∙ is))
      by_test false is (inr more) rest = rest more

-- where an end is that of the positions of labels, it is that of the labels of the section
pub next-label : (object section place bound end : ℕ) (places : List Position) (labels : List Label) → AreByPlace places labels
    → HasEnd object section place bound places end → IsNext place bound (places_in object section labels) end
next-label object section place bound end places labels same found = record {
  within = found.within;
  first = none_filtered (λ (l : Label). l.position.place) (is_in object section) place end labels
      (sym (same (is_between object section place end)) ∙ found.none);
  one = elim found.one [
    | inl at ↦ inl at
    | inr (there, above) ↦
        inr (
          filtered_has (λ (l : Label). l.position.place) (is_in object section) end labels
              (sym (same (is_placed object section end)) ∙ there),
          above,
        )
  ];
}
