-- Operations on values show as operations on numbers: sums, and what moves keep.
use Rattle.neutral_machine.proofs.Common.{◌≡◌, ℕ, zero, ◌+◌, ◌*◌, ◌%◌, ◌^◌, ◌<◌, ◌≤◌, Bool, true, false, ◌&&◌, if◌then◌else◌, nat_eq}
use Rattle.neutral_machine.proofs.Common.{nat_lt, List, Option, Some, None, refl, sym, ap, ap₂, ◌∙◌, subst, arith, slice_get, mod-eq_of_lt}
use Rattle.neutral_machine.proofs.Common.{ltb-true, eqb-true, and_parts, same_Some, none-some, IsWidth, by_width, Notes, ObjectOf, ThunkOf}
use Rattle.neutral_machine.proofs.Common.{LocalOf, Neutral, Num, At, Handle, Method, Entry, Error, SignedError, Junk, Addresses, Shows}
use Rattle.neutral_machine.proofs.Common.{ShowsIn, number, plain, word, error_at, signed_error_at, TypedObject, sum_of, kept_natural}
use Rattle.neutral_machine.proofs.Common.{extent_if, Access, Move, Form, Signed, kept}
use Rattle.std.proofs.{Common.add_comm, Math.Nat.mod-le}
use Rattle.host_model.specs.Values.{IsCode}
use Rattle.neutral_machine.specs.{Operations.narrowed, Operations.on_number, Locations.access_bytes}
use Rattle.neutral_machine.proofs.{Numbers.sum_num, Numbers.sum_at, Words.width_word}
use Rattle.ebc_insn.specs.declared.Size.TheVariants as sizes

-- a plain number is the number that shows
pub plain_shows : (w : ℕ) (A : Addresses) (v : Neutral) (x c : ℕ) → Shows w A v x → plain v ≡ Some c → x ≡ c
plain_shows w A (Num zero c) x d h p = let e = same_Some (word c) d p in omega (arith, h, e)
plain_shows w A v x d h p = absurd (none-some d p)

pub number_shows : (w : ℕ) (A : Addresses) (x : ℕ) → x < 2 ^ 64 → Shows w A (number x) x
number_shows w A x l = omega (arith, l)

-- sums
pub sum_shows : (w : ℕ) (A : Addresses) (v u : Neutral) (x y : ℕ) → Shows w A v x → Shows w A u y → Shows w A (sum_of v u) (word (x + y))
sum_shows w A (Num n c) (Num m d) x y p q = ap₂ (λ a b. word (a + b)) p q ∙ sym (sum_num w n c m d (2 ^ 64))
sum_shows w A (At a n c) (Num m d) x y p q = record {
  from = p.from;
  there = p.there;
  is = ap₂ (λ a b. word (a + b)) p.is q ∙ sym (sum_at w p.from n c m d (2 ^ 64));
}
sum_shows w A (Num n c) (At a m d) x y p q = record {
  from = q.from;
  there = q.there;
  is = ap₂ (λ a b. word (a + b)) p q.is ∙ ap word (add_comm _ _) ∙ sym (sum_at w q.from m d n c (2 ^ 64))
      ∙ ap₂ (λ a b. word (q.from + (word a * w + word b))) (add_comm m n) (add_comm d c);
}
sum_shows w A _ _ x y p q = tt

-- ---- what is kept

-- each address of a thing lies below the greatest one
pub record Bounded (w : ℕ) (A : Addresses) : Type 0 where
  pub thunk : (i p : ℕ) → A.anchor (ThunkOf i) ≡ Some p → p < 2 ^ (8 * w)
  pub local : (d f p : ℕ) → A.anchor (LocalOf d f) ≡ Some p → p < 2 ^ (8 * w)
  pub handle : (k p : ℕ) → A.handle k ≡ Some p → p < 2 ^ (8 * w)
  pub method : (k p : ℕ) → A.method k ≡ Some p → p < 2 ^ (8 * w)
  pub entry : (k p : ℕ) → A.entry k ≡ Some p → p < 2 ^ (8 * w)

-- a made object lies below 2 ^ 32 at width 4
abbrev pub ObjectsBelow : Notes → List TypedObject → Addresses → ℕ → Type 0
ObjectsBelow notes objects A w = (k p : ℕ) → A.anchor (ObjectOf k) ≡ Some p → w ≡ 4 → 0 < extent_if notes (slice_get objects k)
    → p + extent_if notes (slice_get objects k) ≤ 2 ^ 32

num_kept : (w n c x : ℕ) → IsWidth w → word (n * 4 + c) < 2 ^ 32 → x ≡ word (n * w + c) % 2 ^ (8 * w) → x ≡ word (n * w + c)
num_kept w n c x h t = by_width (λ v. x ≡ word (n * v + c) % 2 ^ (8 * v) → x ≡ word (n * v + c)) w h (λ e. omega arith) (λ e. omega arith)

at_kept4 : (b n c x z : ℕ) → word (n * 4 + c) < z → b + z ≤ 2 ^ 32 → x ≡ word (b + (n * 4 + c)) % 2 ^ 32 → x ≡ word (b + (n * 4 + c))
at_kept4 b n c x z t u e = omega arith

at_kept : (w b n c x z : ℕ) → IsWidth w → word (n * 4 + c) < z → (w ≡ 4 → b + z ≤ 2 ^ 32) → x ≡ word (b + (n * w + c)) % 2 ^ (8 * w)
    → x ≡ word (b + (n * w + c))
at_kept w b n c x z h t = by_width (λ v. (v ≡ 4 → b + z ≤ 2 ^ 32) → x ≡ word (b + (n * v + c)) % 2 ^ (8 * v)
    → x ≡ word (b + (n * v + c))) w h (λ u e. at_kept4 b n c x z t (u refl) e) (λ u e. omega arith)

zero_kept : (w b n c x : ℕ) → IsWidth w → b < 2 ^ (8 * w) → n ≡ 0 → c ≡ 0 → x ≡ word (b + (n * w + c)) % 2 ^ (8 * w)
    → x ≡ word (b + (n * w + c))
zero_kept w b n c x h l p q e =
    let f : b + (n * w + c) ≡ b = ap₂ (λ i j. b + (i * w + j)) p q ∙ (let z : b + (0 * w + 0) ≡ b = omega arith in z) in
    let m = width_word w h in
    let g : word (b + (n * w + c)) ≡ b = ap word f ∙ mod-eq_of_lt (omega (arith, l, m)) in
    e ∙ ap (λ z. z % 2 ^ (8 * w)) g ∙ mod-eq_of_lt l ∙ sym g

small_kept : (w x y : ℕ) → y < 2 ^ (8 * w) → x ≡ y % 2 ^ (8 * w) → x ≡ y
small_kept w x y l e = e ∙ mod-eq_of_lt l

error_small : (w k : ℕ) → IsWidth w → IsCode k → error_at w k < 2 ^ (8 * w)
error_small w k h l = by_width (λ v. error_at v k < 2 ^ (8 * v)) w h (omega (arith, l)) (omega (arith, l))

pub kept_natural_shows : (w : ℕ) (notes : Notes) (objects : List TypedObject) (A : Addresses) (v : Neutral) (x : ℕ) → IsWidth w
    → Bounded w A → ObjectsBelow notes objects A w → ShowsIn w A w v x → Shows w A (kept_natural notes objects v) x
unfolding kept_natural
kept_natural_shows w notes objects A (Num n c) x h b o s = go (nat_lt (word (n * 4 + c)) (2 ^ 32)) refl
  where
    go : (t : Bool) → nat_lt (word (n * 4 + c)) (2 ^ 32) ≡ t → Shows w A (if t then Num n c else Junk) x
    go true e = num_kept w n c x h (ltb-true _ _ e) (s.cut ∙ ap (λ z. z % 2 ^ (8 * w)) s.shows)
    go false e = tt
kept_natural_shows w notes objects A (At (ObjectOf k) n c) x h b o s =
    go (nat_lt (word (n * 4 + c)) (extent_if notes (slice_get objects k))) refl
  where
    go : (t : Bool) → nat_lt (word (n * 4 + c)) (extent_if notes (slice_get objects k)) ≡ t
        → Shows w A (if t then At (ObjectOf k) n c else Junk) x
    go true e =
        let l = ltb-true _ _ e in
        record {
          from = s.shows.from;
          there = s.shows.there;
          is = at_kept w s.shows.from n c x _ h l (λ q. o k s.shows.from s.shows.there q (omega (arith, l)))
              (s.cut ∙ ap (λ z. z % 2 ^ (8 * w)) s.shows.is);
        }
    go false e = tt
kept_natural_shows w notes objects A (At (ThunkOf i) n c) x h b o s = go (nat_eq n 0 && nat_eq c 0) refl
  where
    go : (t : Bool) → (nat_eq n 0 && nat_eq c 0) ≡ t → Shows w A (if t then At (ThunkOf i) n c else Junk) x
    go true e =
        let p = and_parts (nat_eq n 0) (nat_eq c 0) e in
        record {
          from = s.shows.from;
          there = s.shows.there;
          is = zero_kept w s.shows.from n c x h (b.thunk i s.shows.from s.shows.there) (eqb-true _ _ p.0) (eqb-true _ _ p.1)
              (s.cut ∙ ap (λ z. z % 2 ^ (8 * w)) s.shows.is);
        }
    go false e = tt
kept_natural_shows w notes objects A (At (LocalOf d f) n c) x h b o s = go (nat_eq n 0 && nat_eq c 0) refl
  where
    go : (t : Bool) → (nat_eq n 0 && nat_eq c 0) ≡ t → Shows w A (if t then At (LocalOf d f) n c else Junk) x
    go true e =
        let p = and_parts (nat_eq n 0) (nat_eq c 0) e in
        record {
          from = s.shows.from;
          there = s.shows.there;
          is = zero_kept w s.shows.from n c x h (b.local d f s.shows.from s.shows.there) (eqb-true _ _ p.0) (eqb-true _ _ p.1)
              (s.cut ∙ ap (λ z. z % 2 ^ (8 * w)) s.shows.is);
        }
    go false e = tt
kept_natural_shows w notes objects A (Handle k) x h b o s = s.shows
    ∙ ap Some (sym (small_kept w x s.whole (b.handle k s.whole s.shows) s.cut))
kept_natural_shows w notes objects A (Method k) x h b o s = s.shows
    ∙ ap Some (sym (small_kept w x s.whole (b.method k s.whole s.shows) s.cut))
kept_natural_shows w notes objects A (Entry k) x h b o s = s.shows
    ∙ ap Some (sym (small_kept w x s.whole (b.entry k s.whole s.shows) s.cut))
kept_natural_shows w notes objects A (Error k) x h b o s = (
  s.shows.0,
  small_kept w x (error_at w k) (error_small w k h s.shows.0) (s.cut ∙ ap (λ z. z % 2 ^ (8 * w)) s.shows.1),
)
kept_natural_shows w notes objects A (SignedError k) x h b o s = tt
kept_natural_shows w notes objects A Junk x h b o s = tt

pub narrowed_shows : (w bits : ℕ) (A : Addresses) (k : ℕ) (v : Neutral) (x : ℕ) → bits ≡ 8 * k → bits ≤ 64 → ShowsIn w A k v x
    → Shows w A (narrowed bits v) x
narrowed_shows w bits A k v x e l s = go (plain v) refl
  where
    go : (o : Option ℕ) → plain v ≡ o → Shows w A (on_number (λ z. z % 2 ^ bits) o) x
    go None p = tt
    go (Some c) p =
        let f = plain_shows w A v s.whole c s.shows p in
        let g : x ≡ c % 2 ^ bits = s.cut ∙ ap₂ (λ i j. i % 2 ^ j) f (sym e) in
        let m : c < 2 ^ 64 = plain_small v c p in
        subst (λ z. Shows w A (number z) x) g (number_shows w A x (omega (arith, g, m, mod-le c (2 ^ bits))))
      where
        plain_small : (v : Neutral) (c : ℕ) → plain v ≡ Some c → c < 2 ^ 64
        plain_small (Num zero d) c q = let r = same_Some (word d) c q in omega (arith, r)
        plain_small v c q = absurd (none-some c q)

-- numbers that show are below 2 ^ 64, but for junk; eight bytes keep all of them
pub whole_shows : (w : ℕ) (A : Addresses) (v : Neutral) (x : ℕ) → IsWidth w → Bounded w A → ShowsIn w A 8 v x → Shows w A v x
whole_shows w A (Num n c) x h b s = let e = s.shows in let f = s.cut in omega (arith, e, f)
whole_shows w A (At a n c) x h b s = record {
  from = s.shows.from;
  there = s.shows.there;
  is = let e = s.shows.is in let f = s.cut in
      omega (arith, e, f);
}
whole_shows w A (Handle k) x h b s = let l = b.handle k s.whole s.shows in let m = width_word w h in s.shows
    ∙ ap Some (let e = s.cut in omega (arith, e, l, m))
whole_shows w A (Method k) x h b s = let l = b.method k s.whole s.shows in let m = width_word w h in s.shows
    ∙ ap Some (let e = s.cut in omega (arith, e, l, m))
whole_shows w A (Entry k) x h b s = let l = b.entry k s.whole s.shows in let m = width_word w h in s.shows
    ∙ ap Some (let e = s.cut in omega (arith, e, l, m))
whole_shows w A (Error k) x h b s = let l = error_small w k h s.shows.0 in let m = width_word w h in
    (s.shows.0, (let e = s.cut in let f = s.shows.1 in omega (arith, e, f, l, m)))
whole_shows w A (SignedError k) x h b s = (s.shows.0, signed_whole w k x s.whole h s.shows.0 s.shows.1 s.cut)
  where
    signed_whole : (w k x y : ℕ) → IsWidth w → IsCode k → y ≡ signed_error_at w k → x ≡ y % 2 ^ (8 * 8) → x ≡ signed_error_at w k
    signed_whole w k x y h l p q = by_width (λ v. y ≡ signed_error_at v k → x ≡ signed_error_at v k) w h (λ p. omega arith)
        (λ p. omega arith) p
whole_shows w A Junk x h b s = tt

-- what an access keeps of what shows in its bytes, shows
pub kept_shows : (w : ℕ) (notes : Notes) (objects : List TypedObject) (A : Addresses) (access : Access) (v : Neutral) (x : ℕ) → IsWidth w
    → Bounded w A → ObjectsBelow notes objects A w → ShowsIn w A (access_bytes w access) v x → Shows w A (kept notes objects access v) x
kept_shows w notes objects A (Move sizes.Byte) v x h b o s = narrowed_shows w 8 A 1 v x refl (omega arith) s
kept_shows w notes objects A (Move sizes.Word) v x h b o s = narrowed_shows w 16 A 2 v x refl (omega arith) s
kept_shows w notes objects A (Move sizes.Dword) v x h b o s = narrowed_shows w 32 A 4 v x refl (omega arith) s
kept_shows w notes objects A (Move sizes.Qword) v x h b o s = whole_shows w A v x h b s
kept_shows w notes objects A (Move sizes.Natural) v x h b o s = kept_natural_shows w notes objects A v x h b o s
kept_shows w notes objects A (Form true) v x h b o s = whole_shows w A v x h b s
kept_shows w notes objects A (Form false) v x h b o s = narrowed_shows w 32 A 4 v x refl (omega arith) s
kept_shows w notes objects A Signed v x h b o s = kept_natural_shows w notes objects A v x h b o s
