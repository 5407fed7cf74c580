-- Comparisons of values that are defined are the machine's comparisons of their numbers.
use Rattle.neutral_machine.proofs.Common.{◌≡◌, ◌≢◌, ℕ, ◌+◌, ◌-◌, ◌*◌, ◌^◌, ◌<◌, ◌≤◌, Bool, true, false, ◌&&◌, ◌||◌, if◌then◌else◌, nat_eq}
use Rattle.neutral_machine.proofs.Common.{nat_lt, List, length, Option, Some, None, pos, refl, sym, ap, ap₂, ◌∙◌, subst, subst₂, arith, inl}
use Rattle.neutral_machine.proofs.Common.{inr, ⊎_elim, slice_get, mod-eq_of_lt, le_refl, add-mod-mod, ltb-true, eqb-true, eqb-false, eq-eqb}
use Rattle.neutral_machine.proofs.Common.{ne_eqb, and_parts, or_cases, lt-ltb, le-ltb, le-leb, cases_eq, cases_order, false≢true}
use Rattle.neutral_machine.proofs.Common.{true≢false, row_fits, same_Some, none-some, IsWidth, by_width, CmpOp, low, signed, compared}
use Rattle.neutral_machine.proofs.Common.{size_at, ObjectOf, Neutral, Num, At, Handle, Entry, Error, SignedError, Addresses, Shows, plain}
use Rattle.neutral_machine.proofs.Common.{word, error_at, signed_error_at, option_or, Frame, World, TypedObject, shape_of, made_objects}
use Rattle.neutral_machine.proofs.Common.{there, handle_count, handle_at, thunk_at, object_bytes, Placement, IsPlacement, object_address}
use Rattle.neutral_machine.proofs.Common.{addresses, Instance, instance_at, starts_if, instance_of, is_null, compared_as, WorldFits}
use Rattle.std.proofs.Common.{int_le}
use Rattle.neutral_machine.specs.Operations.{same_instance, equal_instances, equal_handle, equal_entry, unequal_code, equal_error}
use Rattle.neutral_machine.specs.Operations.{equal_first, error_at_most, error_at_least, compared_wide, compared_by}
use Rattle.neutral_machine.proofs.Placed.{lies, object_within, objects_off, object_positive}
use Rattle.neutral_machine.proofs.{Numbers.lin_mod, PlacedObjects.Lies, Locals.fits_at, Cells.shape_fits, Values.plain_shows, Alu.Word}
use Rattle.neutral_machine.proofs.{Bounds.in_native, Words.width_word}
use Rattle.ebc_insn.specs.declared.CmpOp.TheVariants as cmps

-- a test of equality that agrees with one on what the numbers are of
agrees : (x y : ℕ) (b : Bool) → (b ≡ true → x ≡ y) → (b ≡ false → x ≡ y → ⊥) → nat_eq x y ≡ b
agrees x y true f g = eq-eqb x y (f refl)
agrees x y false f g = ne_eqb x y (g refl)

turned : (x y : ℕ) → nat_eq x y ≡ nat_eq y x
turned x y = sym (agrees y x (nat_eq x y) (λ e. sym (eqb-true x y e)) (λ e f. eqb-false x y e (sym f)))

-- the start of an instance, as an address
pub record Starts (w : ℕ) (world : World) (P : Placement) (n : ℕ) (q : Instance) (x : ℕ) : Type 0 where
  pub object : TypedObject
  pub there : slice_get (made_objects world.notes world.script n) q.object ≡ Some object
  pub within : q.instance < object.count
  pub lies : Lies w world P n q.object object
  pub address : x ≡ lies.base + q.instance * size_at w (shape_of world.notes object.shape)
  pub inside : x + size_at w (shape_of world.notes object.shape) ≤ lies.base + object_bytes w world.notes object
  pub positive : 0 < size_at w (shape_of world.notes object.shape)

module _ (w : ℕ) (world : World) (P : Placement) (h : IsWidth w) (ok : WorldFits world) (pl : IsPlacement w world P) where
  starts : (n : ℕ) (fs : List Frame) (k a b : ℕ) (x : ℕ) (q : Instance) → Shows w (addresses w world.notes P fs) (At (ObjectOf k) a b) x
      → starts_if world.notes k a b (slice_get (made_objects world.notes world.script n) k) ≡ Some q → Starts w world P n q x
  starts n fs k a b x q s e = by_object (slice_get (made_objects world.notes world.script n) k) refl e
    where
      at : (o : TypedObject) → slice_get (made_objects world.notes world.script n) k ≡ Some o
          → instance_at (shape_of world.notes o.shape) a b < o.count
          → a ≡ word (instance_at (shape_of world.notes o.shape) a b * (shape_of world.notes o.shape).n)
          → b ≡ word (instance_at (shape_of world.notes o.shape) a b * (shape_of world.notes o.shape).c)
          → Starts w world P n (record { object = k; instance = instance_at (shape_of world.notes o.shape) a b }) x
      at o g l u v =
          let S = shape_of world.notes o.shape in
          let i = instance_at S a b in
          let y = lies w world P h ok pl n k o g in
          let fit = fits_at w S h (shape_fits world n k o ok g) in
          let row = row_fits i (size_at w S) o.count (size_at w S) l (le_refl _) in
          let from : s.from ≡ y.base = same_Some _ _ (sym s.there ∙ y.address) in
          let bound = object_within w world P h ok pl n k o y in
          let m = width_word w h in
          let e1 : x ≡ word (y.base + (word (i * S.n) * w + word (i * S.c))) = s.is ∙ ap (λ t. word (t + (a * w + b))) from
          ∙ ap₂ (λ p q. word (y.base + (p * w + q))) u v in
          let e2 : word (y.base + (word (i * S.n) * w + word (i * S.c))) ≡ word (y.base + (i * S.n * w + i * S.c)) =
          sym (add-mod-mod y.base _ (2 ^ 64)) ∙ ap (λ t. word (y.base + t)) (lin_mod (i * S.n) (i * S.c) w (2 ^ 64))
          ∙ add-mod-mod y.base _ (2 ^ 64) in
          let e3 : y.base + (i * S.n * w + i * S.c) ≡ y.base + i * size_at w S = omega arith in
          let e4 : x ≡ y.base + i * size_at w S = e1 ∙ e2 ∙ ap word e3 ∙ mod-eq_of_lt (omega (arith, row, bound, m, fit.positive)) in
          record { object = o; there = g; within = l; lies = y; address = e4; inside = omega (arith, e4, row); positive = fit.positive }

      by_test : (o : TypedObject) → slice_get (made_objects world.notes world.script n) k ≡ Some o → (t : Bool)
          → (nat_lt (instance_at (shape_of world.notes o.shape) a b) o.count
          && (nat_eq a (word (instance_at (shape_of world.notes o.shape) a b * (shape_of world.notes o.shape).n))
          && nat_eq b (word (instance_at (shape_of world.notes o.shape) a b * (shape_of world.notes o.shape).c)))) ≡ t
          → (if t then Some (record { object = k; instance = instance_at (shape_of world.notes o.shape) a b }) else None) ≡ Some q
          → Starts w world P n q x
      by_test o g true t e =
          let p = and_parts (nat_lt (instance_at (shape_of world.notes o.shape) a b) o.count) _ t in
          let r = and_parts (nat_eq a (word (instance_at (shape_of world.notes o.shape) a b * (shape_of world.notes o.shape).n))) _ p.1 in
          subst (λ z. Starts w world P n z x) (same_Some _ _ e) (at o g (ltb-true _ _ p.0) (eqb-true _ _ r.0) (eqb-true _ _ r.1))
      by_test o g false t e = absurd (none-some q e)

      by_object : (o : Option TypedObject) → slice_get (made_objects world.notes world.script n) k ≡ o
          → starts_if world.notes k a b o ≡ Some q → Starts w world P n q x
      by_object None g e = absurd (none-some q e)
      by_object (Some o) g e = by_test o g _ refl e

  pub starts_of : (n : ℕ) (fs : List Frame) (v : Neutral) (x : ℕ) (q : Instance) → Shows w (addresses w world.notes P fs) v x
      → instance_of world.notes (made_objects world.notes world.script n) v ≡ Some q → Starts w world P n q x
  unfolding instance_of
  starts_of n fs (At (ObjectOf k) a b) x q s e = starts n fs k a b x q s e
  starts_of n fs v x q s e = absurd (none-some q e)

  -- two starts are one address just where they are one instance
  same_start : (n : ℕ) (p q : Instance) (x y : ℕ) → Starts w world P n p x → Starts w world P n q y → nat_eq x y ≡ same_instance p q
  same_start n p q x y s t = agrees x y (same_instance p q) one other
    where
      equal_objects : p.object ≡ q.object → s.object ≡ t.object
      equal_objects e = same_Some _ _ (sym s.there ∙ ap (slice_get (made_objects world.notes world.script n)) e ∙ t.there)

      at_other : (e : p.object ≡ q.object) → y ≡ s.lies.base + q.instance * size_at w (shape_of world.notes s.object.shape)
      at_other e =
          let b : t.lies.base ≡ s.lies.base = same_Some _ _ (sym t.lies.address ∙ ap (object_address world.notes P) (sym e)
          ∙ s.lies.address) in
          t.address ∙ ap₂ (λ u (o : TypedObject). u + q.instance * size_at w (shape_of world.notes o.shape)) b (sym (equal_objects e))

      one : same_instance p q ≡ true → x ≡ y
      one e =
          let a = and_parts (nat_eq p.object q.object) (nat_eq p.instance q.instance) e in
          s.address ∙ ap (λ i. s.lies.base + i * size_at w (shape_of world.notes s.object.shape)) (eqb-true _ _ a.1)
          ∙ sym (at_other (eqb-true _ _ a.0))

      rows : (i j z : ℕ) → 0 < z → i ≢ j → i * z ≡ j * z → ⊥
      rows i j z some ne e = ⊎_elim ne (λ d. ⊎_elim (λ l. let r = row_fits i z j z l (le_refl _) in omega (arith, r, e, some))
          (λ l. let r = row_fits j z i z l (le_refl _) in omega (arith, r, e, some)) d) (cases_order i j)

      other : same_instance p q ≡ false → x ≡ y → ⊥
      other e f = ⊎_elim
          (λ k. ⊎_elim
          (λ i. true≢false (sym (subst₂ (λ u v. (u && v) ≡ true) (sym (eq-eqb _ _ k)) (sym (eq-eqb _ _ i)) refl) ∙ e))
          (λ i. let o = at_other k in let a = s.address in rows p.instance q.instance
          (size_at w (shape_of world.notes s.object.shape)) s.positive i (omega (arith, o, a, f)))
          (cases_eq p.instance q.instance))
          (λ k. let off = objects_off w world P h ok pl n p.object q.object s.object t.object s.lies t.lies k in
          let a = s.address in let b = t.address in
          ⊎_elim (λ l. omega (arith, l, a, b, f, s.inside, s.positive)) (λ l. omega (arith, l, a, b, f, t.inside, t.positive)) off)
          (cases_eq p.object q.object)

  not_null : (n : ℕ) (p : Instance) (x : ℕ) → Starts w world P n p x → 0 < x
  not_null n p x s = let a = s.address in let b = object_positive w world P h ok pl n p.object s.object s.lies s.there in
      omega (arith, a, b)

  null_shows : (A : Addresses) (u : Neutral) (y : ℕ) → Shows w A u y → is_null u ≡ true → y ≡ 0
  null_shows A (Num n c) y s e = let p = and_parts (nat_eq n 0) (nat_eq c 0) e in s
      ∙ ap₂ (λ i j. word (i * w + j)) (eqb-true n 0 p.0) (eqb-true c 0 p.1) ∙ (let z : word (0 * w + 0) ≡ 0 = omega arith in z)
  null_shows A _ y s e = absurd (false≢true e)

  -- one thing that is no null
  against_null : (A : Addresses) (u : Neutral) (x y : ℕ) (b : Bool) → 0 < x → Shows w A u y
      → (if is_null u then Some false else None) ≡ Some b → nat_eq x y ≡ b
  against_null A u x y b p s e = go (is_null u) refl e
    where
      go : (t : Bool) → is_null u ≡ t → (if t then Some false else None) ≡ Some b → nat_eq x y ≡ b
      go true t e = let z = null_shows A u y s t in ne_eqb x y (λ f. omega (arith, f, z, p)) ∙ same_Some _ _ e
      go false t e = absurd (none-some b e)

  instances_equal : (n : ℕ) (fs : List Frame) (u : Neutral) (x y : ℕ) (p o : Option Instance) (b : Bool)
      → ((q : Instance) → p ≡ Some q → Starts w world P n q x) → ((q : Instance) → o ≡ Some q → Starts w world P n q y)
      → Shows w (addresses w world.notes P fs) u y → equal_instances p o u ≡ Some b → nat_eq x y ≡ b
  instances_equal n fs u x y (Some p) (Some q) b f g s e = same_start n p q x y (f p refl) (g q refl) ∙ same_Some _ _ e
  instances_equal n fs u x y (Some p) None b f g s e = against_null (addresses w world.notes P fs) u x y b (not_null n p x (f p refl)) s e
  instances_equal n fs u x y None o b f g s e = absurd (none-some b e)

  -- two things of the native area are one where their numbers are
  named_equal : (count i j u v x y : ℕ) → (i ≡ j → u ≡ v) → (u ≡ v → i ≡ j) → there count i u ≡ Some x → there count j v ≡ Some y
      → nat_eq x y ≡ nat_eq i j
  named_equal count i j u v x y one other a b =
      let ex = at i u x a in
      let ey = at j v y b in
      agrees x y (nat_eq i j) (λ e. ex ∙ one (eqb-true i j e) ∙ sym ey) (λ e f. eqb-false i j e (other (sym ex ∙ f ∙ ey)))
    where
      at : (i u x : ℕ) → there count i u ≡ Some x → x ≡ u
      at i u x e = go (nat_lt i count) e
        where
          go : (t : Bool) → (if t then Some u else None) ≡ Some x → x ≡ u
          go true e = sym (same_Some _ _ e)
          go false e = absurd (none-some x e)

  error_above : (k : ℕ) → 2 ^ 31 ≤ error_at w k
  error_above k = by_width (λ v. 2 ^ 31 ≤ error_at v k) w h (omega arith) (omega arith)

  first_equal : (n : ℕ) (fs : List Frame) (v u : Neutral) (x y : ℕ) (b : Bool) → Shows w (addresses w world.notes P fs) v x
      → Shows w (addresses w world.notes P fs) u y → equal_first world.notes (made_objects world.notes world.script n) v u ≡ Some b
      → nat_eq x y ≡ b
  first_equal n fs (At a i c) u x y b s t e = instances_equal n fs u x y
      (instance_of world.notes (made_objects world.notes world.script n) (At a i c))
      (instance_of world.notes (made_objects world.notes world.script n) u) b (λ q f. starts_of n fs (At a i c) x q s f)
      (λ q f. starts_of n fs u y q t f) t e
  first_equal n fs (Handle k) u x y b s t e = handle_equal k u x y b s t e
    where
      null : (u : Neutral) (y : ℕ) → Shows w (addresses w world.notes P fs) u y → (if is_null u then Some false else None) ≡ Some b
          → nat_eq x y ≡ b
      null u y t e = let r = in_native w world P h ok pl fs x (inl (k, s)) in
          against_null (addresses w world.notes P fs) u x y b (omega (arith, r.0)) t e

      handle_equal : (k : ℕ) (u : Neutral) (x y : ℕ) (b : Bool) → Shows w (addresses w world.notes P fs) (Handle k) x
          → Shows w (addresses w world.notes P fs) u y → equal_handle k u ≡ Some b → nat_eq x y ≡ b
      handle_equal k (Handle j) x y b s t e = named_equal handle_count k j (handle_at world.notes P k) (handle_at world.notes P j) x y
          (λ e. omega (arith, e)) (λ e. omega (arith, e)) s t ∙ same_Some _ _ e
      handle_equal k u x y b s t e = let r = in_native w world P h ok pl fs x (inl (k, s)) in
          against_null (addresses w world.notes P fs) u x y b (omega (arith, r.0)) t e
  first_equal n fs (Entry k) u x y b s t e = entry_equal k u x y b s t e
    where
      entry_equal : (k : ℕ) (u : Neutral) (x y : ℕ) (b : Bool) → Shows w (addresses w world.notes P fs) (Entry k) x
          → Shows w (addresses w world.notes P fs) u y → equal_entry k u ≡ Some b → nat_eq x y ≡ b
      entry_equal k (Entry j) x y b s t e = named_equal (length world.notes.function) k j (thunk_at world.notes P k)
          (thunk_at world.notes P j) x y (λ e. omega (arith, e)) (λ e. omega (arith, e)) s t ∙ same_Some _ _ e
      entry_equal k u x y b s t e = let r = in_native w world P h ok pl fs x (inr (inr (k, s))) in
          against_null (addresses w world.notes P fs) u x y b (omega (arith, r.0)) t e
  first_equal n fs (Error k) u x y b s t e = error_equal k u x y b s t e
    where
      code : (x y : ℕ) (u : Neutral) (o : Option ℕ) (b : Bool) → 2 ^ 31 ≤ x → Shows w (addresses w world.notes P fs) u y → plain u ≡ o
          → unequal_code o ≡ Some b → nat_eq x y ≡ b
      code x y u None b l t p e = absurd (none-some b e)
      code x y u (Some c) b l t p e = go (nat_lt c (2 ^ 31)) refl e
        where
          go : (i : Bool) → nat_lt c (2 ^ 31) ≡ i → (if i then Some false else None) ≡ Some b → nat_eq x y ≡ b
          go true i e = let m = ltb-true _ _ i in let f = plain_shows w (addresses w world.notes P fs) u y c t p in
              ne_eqb x y (λ q. omega (arith, q, l, m, f)) ∙ same_Some _ _ e
          go false i e = absurd (none-some b e)

      error_equal : (k : ℕ) (u : Neutral) (x y : ℕ) (b : Bool) → Shows w (addresses w world.notes P fs) (Error k) x
          → Shows w (addresses w world.notes P fs) u y → equal_error k u ≡ Some b → nat_eq x y ≡ b
      error_equal k (Error j) x y b s t e =
          let p = s.1 in let q = t.1 in
          agrees x y (nat_eq k j) (λ f. p ∙ ap (error_at w) (eqb-true k j f) ∙ sym q) (λ f g. eqb-false k j f (omega (arith, p, q, g)))
          ∙ same_Some _ _ e
      error_equal k u x y b s t e = code x y u (plain u) b (let p = s.1 in let q = error_above k in omega (arith, p, q)) t refl e
  first_equal n fs v u x y b s t e = absurd (none-some b e)

  -- ---- orders

  signed_below : (k y : ℕ) → k < 2 ^ 31 → y < 2 ^ 31 → int_le (signed 64 (signed_error_at w k)) (signed 64 y) ≡ true
  signed_below k y l m = by_width (λ v. int_le (signed 64 (signed_error_at v k)) (signed 64 y) ≡ true) w h (four y m) (eight y m)
    where
      small : (y : ℕ) → y < 2 ^ 31 → signed 64 y ≡ pos y
      small y m = rw (lt-ltb (low 64 y) (2 ^ 63) (omega (arith, m))) (ap pos (omega (arith, m)))

      four : (y : ℕ) → y < 2 ^ 31 → int_le (signed 64 (signed_error_at 4 k)) (signed 64 y) ≡ true
      four y m = rw (small y m) (rw (le-ltb (low 64 (signed_error_at 4 k)) (2 ^ 63) (omega (arith, l))) refl)

      eight : (y : ℕ) → y < 2 ^ 31 → int_le (signed 64 (signed_error_at 8 k)) (signed 64 y) ≡ true
      eight y m = rw (small y m) (rw (le-ltb (low 64 (signed_error_at 8 k)) (2 ^ 63) (omega (arith, l))) refl)

  signed_above : (k y : ℕ) → k < 2 ^ 31 → y < 2 ^ 31 → int_le (signed 64 y) (signed 64 (signed_error_at w k)) ≡ false
  signed_above k y l m = by_width (λ v. int_le (signed 64 y) (signed 64 (signed_error_at v k)) ≡ false) w h (four y m) (eight y m)
    where
      small : (y : ℕ) → y < 2 ^ 31 → signed 64 y ≡ pos y
      small y m = rw (lt-ltb (low 64 y) (2 ^ 63) (omega (arith, m))) (ap pos (omega (arith, m)))

      four : (y : ℕ) → y < 2 ^ 31 → int_le (signed 64 y) (signed 64 (signed_error_at 4 k)) ≡ false
      four y m = rw (small y m) (rw (le-ltb (low 64 (signed_error_at 4 k)) (2 ^ 63) (omega (arith, l))) refl)

      eight : (y : ℕ) → y < 2 ^ 31 → int_le (signed 64 y) (signed 64 (signed_error_at 8 k)) ≡ false
      eight y m = rw (small y m) (rw (le-ltb (low 64 (signed_error_at 8 k)) (2 ^ 63) (omega (arith, l))) refl)

  -- at most -1
  signed_negative : (k : ℕ) → k < 2 ^ 31 → int_le (signed 64 (signed_error_at w k)) (signed 64 (2 ^ 64 - 1)) ≡ true
  signed_negative k l = by_width (λ v. int_le (signed 64 (signed_error_at v k)) (signed 64 (2 ^ 64 - 1)) ≡ true) w h
      (rw (le-ltb (low 64 (signed_error_at 4 k)) (2 ^ 63) (omega (arith, l))) (le-leb 0 _ (omega arith)))
      (rw (le-ltb (low 64 (signed_error_at 8 k)) (2 ^ 63) (omega (arith, l))) (le-leb 0 _ (omega arith)))

  -- ---- all of them

  equal_wide : (n : ℕ) (fs : List Frame) (v u : Neutral) (x y : ℕ) (b : Bool) → Shows w (addresses w world.notes P fs) v x
      → Shows w (addresses w world.notes P fs) u y → (c d : Option Bool)
      → equal_first world.notes (made_objects world.notes world.script n) v u ≡ c
      → equal_first world.notes (made_objects world.notes world.script n) u v ≡ d → option_or c d ≡ Some b → nat_eq x y ≡ b
  equal_wide n fs v u x y b s t (Some c) d p q e = first_equal n fs v u x y b s t (p ∙ e)
  equal_wide n fs v u x y b s t None d p q e = turned x y ∙ first_equal n fs u v y x b t s (q ∙ e)

  most : (A : Addresses) (v : Neutral) (x y : ℕ) (o : Option ℕ) (b : Bool) → Shows w A v x → y < 2 ^ 64 → ((c : ℕ) → o ≡ Some c → y ≡ c)
      → error_at_most v o ≡ Some b → int_le (signed 64 x) (signed 64 y) ≡ b
  most A (SignedError k) x y (Some c) b s l f e = go (nat_lt c (2 ^ 31) || nat_eq c (2 ^ 64 - 1)) refl e
    where
      go : (t : Bool) → (nat_lt c (2 ^ 31) || nat_eq c (2 ^ 64 - 1)) ≡ t → (if t then Some true else None) ≡ Some b
          → int_le (signed 64 x) (signed 64 y) ≡ b
      go true t e = ⊎_elim
          (λ m. ap₂ (λ i j. int_le (signed 64 i) (signed 64 j)) s.1 (f c refl) ∙ signed_below k c s.0 (ltb-true _ _ m))
          (λ m. ap₂ (λ i j. int_le (signed 64 i) (signed 64 j)) s.1 (f c refl ∙ eqb-true _ _ m) ∙ signed_negative k s.0)
          (or_cases (nat_lt c (2 ^ 31)) (nat_eq c (2 ^ 64 - 1)) t) ∙ same_Some _ _ e
      go false t e = absurd (none-some b e)
  most A v x y o b s l f e = absurd (none-some b e)

  least : (A : Addresses) (v : Neutral) (x y : ℕ) (o : Option ℕ) (b : Bool) → Shows w A v x → y < 2 ^ 64 → ((c : ℕ) → o ≡ Some c → y ≡ c)
      → error_at_least v o ≡ Some b → int_le (signed 64 y) (signed 64 x) ≡ b
  least A (SignedError k) x y (Some c) b s l f e = go (nat_lt c (2 ^ 31)) refl e
    where
      go : (t : Bool) → nat_lt c (2 ^ 31) ≡ t → (if t then Some false else None) ≡ Some b → int_le (signed 64 y) (signed 64 x) ≡ b
      go true t e = ap₂ (λ i j. int_le (signed 64 i) (signed 64 j)) (f c refl) s.1 ∙ signed_above k c s.0 (ltb-true _ _ t) ∙ same_Some _ _ e
      go false t e = absurd (none-some b e)
  least A v x y o b s l f e = absurd (none-some b e)

  wide_same : (n : ℕ) (fs : List Frame) (op : CmpOp) (v u : Neutral) (x y : ℕ) (b : Bool) → Word w (addresses w world.notes P fs) v x
      → Word w (addresses w world.notes P fs) u y → compared_wide world.notes (made_objects world.notes world.script n) op v u ≡ Some b
      → compared op true x y ≡ b
  unfolding compared
  wide_same n fs cmps.Eq v u x y b p q e = ap₂ nat_eq (mod-eq_of_lt p.0) (mod-eq_of_lt q.0)
      ∙ equal_wide n fs v u x y b p.1 q.1 _ _ refl refl e
  wide_same n fs cmps.Lte v u x y b p q e = most (addresses w world.notes P fs) v x y (plain u) b p.1 q.0
      (λ c f. plain_shows w (addresses w world.notes P fs) u y c q.1 f) e
  wide_same n fs cmps.Gte v u x y b p q e = least (addresses w world.notes P fs) v x y (plain u) b p.1 q.0
      (λ c f. plain_shows w (addresses w world.notes P fs) u y c q.1 f) e
  wide_same n fs cmps.Ulte v u x y b p q e = absurd (none-some b e)
  wide_same n fs cmps.Ugte v u x y b p q e = absurd (none-some b e)

  by_same : (n : ℕ) (fs : List Frame) (op : CmpOp) (wide : Bool) (v u : Neutral) (x y : ℕ) (b : Bool) (c d : Option ℕ)
      → Word w (addresses w world.notes P fs) v x → Word w (addresses w world.notes P fs) u y → plain v ≡ c → plain u ≡ d
      → compared_by world.notes (made_objects world.notes world.script n) op wide v u c d ≡ Some b → compared op wide x y ≡ b
  by_same n fs op wide v u x y b (Some c) (Some d) p q f g e = ap₂ (compared op wide) (plain_shows w _ v x c p.1 f)
      (plain_shows w _ u y d q.1 g) ∙ same_Some _ _ e
  by_same n fs op true v u x y b (Some c) None p q f g e = wide_same n fs op v u x y b p q e
  by_same n fs op true v u x y b None d p q f g e = wide_same n fs op v u x y b p q e
  by_same n fs op false v u x y b (Some c) None p q f g e = absurd (none-some b e)
  by_same n fs op false v u x y b None d p q f g e = absurd (none-some b e)

  -- A comparison that is defined is the machine's.
  pub compared_same : (n : ℕ) (fs : List Frame) (op : CmpOp) (wide : Bool) (v u : Neutral) (x y : ℕ) (b : Bool)
      → Word w (addresses w world.notes P fs) v x → Word w (addresses w world.notes P fs) u y
      → compared_as world.notes (made_objects world.notes world.script n) op wide v u ≡ Some b → compared op wide x y ≡ b
  unfolding compared_as
  compared_same n fs op wide v u x y b p q e = by_same n fs op wide v u x y b (plain v) (plain u) p q refl refl e
