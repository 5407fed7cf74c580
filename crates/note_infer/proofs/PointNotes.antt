-- The points that are found are points of the notes, so the conditions on notes hold of the notes with these points.
use Rattle.note_infer.proofs.Common.{◌≡◌, ℕ, zero, suc, ◌≤◌, Bool, true, false, List, [], ◌∷◌, length, map, Option, None, Some, slice_get}
use Rattle.note_infer.proofs.Common.{refl, ap, sym, subst, ◌∙◌, arith, Contains, IsStrictlyIncreasing, le-leb, leb-true, same_Some}
use Rattle.note_infer.proofs.Common.{point_limit, entry_state, Each, IsNotes, IsPointNote, function_at, FnNote, Notes, Point, State, Image}
use Rattle.note_infer.proofs.Common.{points_of, with_point, AreLeaders, IsFound, AreAfter, IsWithin, States, mark, marked, with_points}
use Rattle.std.specs.{Prelude.cond, Prelude.filter, Prelude.is_some, List.find}
use Rattle.std.proofs.lemmas.Bool.{and_from, and_parts, lt-ltb, ltb-true}
use Rattle.std.proofs.lemmas.List.Kept.{IsStrictlyIncreasing-filter}
use Rattle.note_types.specs.Records.{has_place}
use Rattle.note_infer.proofs.{OtherPoints.notes_with, RoundStates.after_found, RoundStates.after_plain, RoundStates.entry_found}

-- ---- the function that a place belongs to

-- a thing that passes a test, by the first that does
record FindsFirst {A : Type 0} (p : A → Bool) (xs : List A) : Type 0 where
  x : A
  found : find p xs ≡ Some x
  passes : p x ≡ true
  number : ℕ
  there : slice_get xs number ≡ Some x

finds_first : {A : Type 0} (p : A → Bool) (xs : List A) (k : ℕ) (x : A) → slice_get xs k ≡ Some x → p x ≡ true → FindsFirst p xs
finds_first p [] k x e h = absurd cc
finds_first p (y ∷ ys) zero x e h =
    let q : p y ≡ true = ap p (same_Some y x e) ∙ h in record { x = y; found = rw q refl; passes = q; number = 0; there = refl }
finds_first {A} p (y ∷ ys) (suc k) x e h = by_test (finds_first p ys k x e h) (p y) refl
  where
    by_test : FindsFirst p ys → (b : Bool) → p y ≡ b → FindsFirst p (y ∷ ys)
    by_test r true q = record { x = y; found = rw q refl; passes = q; number = 0; there = refl }
    by_test r false q = record { x = r.x; found = rw q r.found; passes = r.passes; number = suc r.number; there = r.there }

-- ---- a point

module _ (notes : Notes) (n : IsNotes notes) where
  -- a state without a fact that is found for each function that has the place is one of a point there
  note_of : (k : ℕ) (f : FnNote) → slice_get notes.function k ≡ Some f → (place : ℕ) (s : State) → IsWithin f place
      → ((j : ℕ) (g : FnNote) → slice_get notes.function j ≡ Some g → IsWithin g place → IsFound notes g s) → s.fact ≡ None
      → IsPointNote notes (record { place = place; state = s })
  unfolding function_at
  note_of k f e place s w h plain =
      let r : FindsFirst (has_place place) notes.function =
      finds_first (has_place place) notes.function k f e (and_from _ _ (le-leb f.place place w.0) (lt-ltb place f.end w.1)) in
      let p = and_parts _ _ r.passes in
      let found = h r.number r.x r.there (leb-true r.x.place place p.0, ltb-true place r.x.end p.1) in
      let end = (n.functions k f e).end in
      let last = w.1 in
      record {
        place = omega (arith, end, last);
        owner = r.x;
        there = r.found;
        state = found.state;
        written = found.fields.written;
        set = found.fields.set;
        made = let m = found.fields.made in let t = n.few.thunks in omega (arith, m, t);
        fact = plain;
      }

  -- ---- marks

  marked_places : (xs : List ℕ) → map (λ (p : Point). p.place) (map (mark notes) xs) ≡ xs
  marked_places [] = refl
  marked_places (x ∷ xs) = ap (λ (ys : List ℕ). x ∷ ys) (marked_places xs)

  marked_long : (xs : List ℕ) → length (map (mark notes) xs) ≡ length xs
  marked_long [] = refl
  marked_long (x ∷ xs) = ap suc (marked_long xs)

  -- a list of points at places
  each_mark : (xs : List ℕ) → ((x : ℕ) → Contains xs x → IsPointNote notes (mark notes x)) → Each (IsPointNote notes) (map (mark notes) xs)
  each_mark [] h k p e = absurd cc
  each_mark (x ∷ xs) h zero p e = subst (IsPointNote notes) (same_Some (mark notes x) p e) (h x (0, omega arith, refl))
  each_mark (x ∷ xs) h (suc k) p e = each_mark xs (λ y c. h y (suc c.0, (let l = c.1 in omega (arith, l)), c.2)) k p e

  -- the conditions hold of the notes with the leaders as points, where these are within the limit
  pub marked_notes : (image : Image) (leaders : List ℕ) → AreLeaders image notes leaders → length leaders ≤ point_limit notes.version
      → IsNotes (marked notes leaders)
  marked_notes image leaders all few =
      notes_with notes (map (mark notes) leaders) n (subst (λ l. l ≤ point_limit notes.version) (sym (marked_long leaders)) few)
      (each_mark leaders (λ x c. let l = (all.all x).0 c in
      note_of l.number l.f l.there x (entry_state notes notes.entry) (l.of.first, l.of.within) (λ j g e w. entry_found notes notes.entry g)
      refl))
      (subst IsStrictlyIncreasing (sym (marked_places leaders)) all.ascend)

-- ---- the points that are found

places : List Point → List ℕ
places ps = map (λ (p : Point). p.place) ps

-- their places are those of the leaders that have a state
found_places : (states : States) (xs : List ℕ) → places (points_of states xs) ≡ filter (λ x. is_some (states x)) xs
unfolding points_of places
found_places states [] = refl
found_places states (x ∷ xs) = by_state (found_places states xs) (states x)
  where
    rest : List ℕ
    rest = filter (λ y. is_some (states y)) xs

    by_state : places (points_of states xs) ≡ rest → (o : Option State)
        → places (with_point x o (points_of states xs)) ≡ cond (is_some o) (x ∷ rest) rest
    by_state e None = e
    by_state e (Some s) = ap (λ (ys : List ℕ). x ∷ ys) e

found_rise : (states : States) (xs : List ℕ) → IsStrictlyIncreasing xs → IsStrictlyIncreasing (places (points_of states xs))
found_rise states xs up =
    subst IsStrictlyIncreasing (sym (found_places states xs)) (IsStrictlyIncreasing-filter (λ x. is_some (states x)) xs up)

found_few : (states : States) (xs : List ℕ) → length (points_of states xs) ≤ length xs
unfolding points_of
found_few states [] = omega arith
found_few states (x ∷ xs) = by_state (found_few states xs) (states x)
  where
    by_state : length (points_of states xs) ≤ length xs → (o : Option State) → length (with_point x o (points_of states xs))
        ≤ length (x ∷ xs)
    by_state r None = omega (arith, r)
    by_state r (Some s) = omega (arith, r)

each_found : (states : States) (P : Point → Type 0) (xs : List ℕ)
    → ((x : ℕ) (s : State) → Contains xs x → states x ≡ Some s → P (record { place = x; state = s })) → Each P (points_of states xs)
unfolding points_of
each_found states P [] h = λ k p e. absurd cc
each_found states P (x ∷ xs) h =
    by_state (each_found states P xs (λ y s c. h y s (suc c.0, (let l = c.1 in omega (arith, l)), c.2))) (states x)
    (λ s. h x s (0, omega arith, refl))
  where
    by_state : Each P (points_of states xs) → (o : Option State) → ((s : State) → o ≡ Some s → P (record { place = x; state = s }))
        → Each P (with_point x o (points_of states xs))
    by_state r None g k p e = r k p e
    by_state r (Some s) g zero p e = subst P (same_Some _ p e) (g s refl)
    by_state r (Some s) g (suc k) p e = r k p e

-- The conditions hold of the notes with the points that are found after any number of rounds.
pub found_notes : (image : Image) (notes : Notes) (leaders : List ℕ) (states : States) (rounds : ℕ) → IsNotes notes
    → AreLeaders image notes leaders
    → length leaders ≤ point_limit notes.version → AreAfter image notes leaders rounds states
    → IsNotes (with_points notes (points_of states leaders))
unfolding places
found_notes image notes leaders states rounds n all few after =
    let m : IsNotes (marked notes leaders) = marked_notes notes n image leaders all few in
    let found = after_found image notes leaders m rounds states after in
    notes_with notes (points_of states leaders) n (let q = found_few states leaders in omega (arith, q, few))
    (each_found states (IsPointNote notes) leaders (λ x s c e. let l = (all.all x).0 c in
    note_of notes n l.number l.f l.there x s (l.of.first, l.of.within) (λ j g q w. found j g q x s c w e)
    (after_plain image notes leaders rounds states after l.number l.f l.there x s c (l.of.first, l.of.within) e)))
    (found_rise states leaders all.ascend)
