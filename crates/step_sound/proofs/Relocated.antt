-- The bytes of a loaded image: those that aren't relocated are the image's, and a relocated number is moved with the image.
use Rattle.step_sound.proofs.Common.{◌≡◌, ℕ, zero, suc, ◌+◌, ◌-◌, ◌%◌, ◌^◌, ◌<◌, ◌≤◌, Bool, true, false, if◌then◌else◌, nat_le, nat_lt}
use Rattle.step_sound.proofs.Common.{List, [], ◌∷◌, length, Option, Some, None, refl, sym, ap, ◌∙◌, subst, subst₂, arith, ⊎_elim, and_from}
use Rattle.step_sound.proofs.Common.{and_parts, leb-true, ltb-true, lt-ltb, true≢false, find, Contains, option_map_or, little_endian}
use Rattle.step_sound.proofs.Common.{AreBytes, mapped, image_byte, named_place, Image, IsUnrelocated, word}
use Rattle.std.proofs.{Common.◌/◌, Common.slice_index_or, lemmas.Bool.le-leb, lemmas.Bool.cases_order, lemmas.List.get_or_default}
use Rattle.ebc_width.specs.{Bytes.put, Width.distance_of}
use Rattle.ebc_width.proofs.ByteLaws.{put-within, little_endian-agree, little_endian-same}
use Rattle.pe_image.specs.{Images.IsImage, Mapped.is_of, Mapped.laid, Mapped.moved, Mapped.moved_byte}

-- ---- what is found

-- the first of a list that passes a test is one of it that passes, and where none is found none passes
abbrev Finds : (t : ℕ → Bool) (xs : List ℕ) → Option ℕ → Type 0
Finds t xs None = (r : ℕ) → Contains xs r → t r ≡ false
Finds t xs (Some x) = Contains xs x × (t x ≡ true)

finds : (t : ℕ → Bool) (xs : List ℕ) → Finds t xs (find t xs)
finds t [] = λ r c. let l = c.1 in absurd (omega (arith, l))
finds t (y ∷ ys) = by_first (t y) refl (find t ys) (finds t ys)
  where
    later : (r : ℕ) → Contains ys r → Contains (y ∷ ys) r
    later r c = let l = c.1 in (suc c.0, (let n : suc c.0 < suc (length ys) = omega (arith, l) in n), c.2)

    none_passes : t y ≡ false → ((r : ℕ) → Contains ys r → t r ≡ false) → (r : ℕ) → Contains (y ∷ ys) r → t r ≡ false
    none_passes e f r (zero, l, same) = subst (λ z. t z ≡ false) same e
    none_passes e f r (suc k, l, same) = f r (k, (let n : k < length ys = omega (arith, l) in n), same)

    by_first : (b : Bool) → t y ≡ b → (o : Option ℕ) → Finds t ys o → Finds t (y ∷ ys) (if b then Some y else o)
    by_first true e o rest = ((0, (let l : 0 < suc (length ys) = omega arith in l), refl), e)
    by_first false e None rest = none_passes e rest
    by_first false e (Some x) rest = (later x rest.0, rest.1)

-- a relocation has the byte at a place
is_of-bounds : (x r : ℕ) → is_of x r ≡ true → (r ≤ x) × (x < r + 8)
is_of-bounds x r e = let b = and_parts (nat_le r x) (nat_lt x (r + 8)) e in (leb-true r x b.0, ltb-true x (r + 8) b.1)

is_of-true : (x r : ℕ) → r ≤ x → x < r + 8 → is_of x r ≡ true
is_of-true x r l m = and_from _ _ (le-leb r x l) (lt-ltb x (r + 8) m)

-- ---- bytes

module _ (image : Image) (base : ℕ) where
  abbrev byte_by : ℕ → Option ℕ → ℕ
  byte_by x o = option_map_or (moved_byte (laid image.sections) (distance_of base image.base) x) o (laid image.sections x)

  -- a byte that isn't relocated is the image's
  pub byte_kept : (from to x : ℕ) → IsUnrelocated image from to → from ≤ x → x < to → mapped image base x ≡ image_byte image x
  unfolding mapped moved
  byte_kept from to x free l m = by (find (is_of x) image.relocs) (finds (is_of x) image.relocs)
    where
      by : (o : Option ℕ) → Finds (is_of x) image.relocs o → byte_by x o ≡ laid image.sections x
      by None f = refl
      by (Some r) f = let b = is_of-bounds x r f.1 in let p = b.0 in let q = b.1 in
          absurd (free r f.0 (omega (arith, p, m), omega (arith, q, l)))

  -- and so are the numbers in such bytes
  pub number_kept : (from to p k : ℕ) → IsUnrelocated image from to → from ≤ p → p + k ≤ to
      → little_endian (mapped image base) p k ≡ little_endian (image_byte image) p k
  number_kept from to p k free l m = little_endian-agree (mapped image base) (image_byte image) p k
      (λ x a b. byte_kept from to x free (omega (arith, l, a)) (omega (arith, m, b)))

  -- two relocations that have one byte are one
  one_relocation : IsImage image → (x r q : ℕ) → Contains image.relocs r → Contains image.relocs q → is_of x r ≡ true → is_of x q ≡ true
      → r ≡ q
  one_relocation ok x r q c d e f =
      let a = is_of-bounds x r e in
      let b = is_of-bounds x q f in
      ⊎_elim
      (λ same. sym c.2 ∙ at_same same ∙ d.2)
      (λ o. ⊎_elim
      (λ l. let n = below c.0 d.0 r q c.2 d.2 l d.1 in absurd (omega (arith, n, a.1, b.0)))
      (λ l. let n = below d.0 c.0 q r d.2 c.2 l c.1 in absurd (omega (arith, n, a.0, b.1)))
      o)
      (cases_order c.0 d.0)
    where
      at_same : c.0 ≡ d.0 → slice_index_or image.relocs c.0 r ≡ slice_index_or image.relocs d.0 q
      at_same s = ap (λ k. slice_index_or image.relocs k r) s ∙ get_or_default image.relocs d.0 r q d.1

      below : (j k y z : ℕ) → slice_index_or image.relocs j y ≡ y → slice_index_or image.relocs k z ≡ z → j < k → k < length image.relocs
          → y + 8 ≤ z
      below j k y z g h l m = subst₂ (λ u v. u + 8 ≤ v) g (get_or_default image.relocs k y z m ∙ h) (ok.apart j k y l m)

  -- the number at a relocated place is moved with the image
  pub number_moved : IsImage image → (p : ℕ) → Contains image.relocs p
      → little_endian (mapped image base) p 8 ≡ word (base + named_place image p)
  unfolding named_place mapped moved
  number_moved ok p c =
      little_endian-agree (mapped image base) (put (λ x. 0) p 8 v) p 8 (λ x l m. byte x l m ∙ sym (put-within (λ x. 0) p 8 v x l m))
      ∙ little_endian-same (λ x. 0) p 8 v ∙ (let e : v % 256 ^ 8 ≡ word
      (base + (little_endian (image_byte image) p 8 + (2 ^ 64 - image.base)) % 2 ^ 64) = omega arith in e)
    where
      v : ℕ
      v = (little_endian (laid image.sections) p 8 + distance_of base image.base) % 2 ^ 64

      byte : (x : ℕ) → p ≤ x → x < p + 8 → mapped image base x ≡ v / 256 ^ (x - p) % 256
      byte x l m = by (find (is_of x) image.relocs) (finds (is_of x) image.relocs)
        where
          by : (o : Option ℕ) → Finds (is_of x) image.relocs o → byte_by x o ≡ v / 256 ^ (x - p) % 256
          by None f = absurd (true≢false (sym (is_of-true x p l m) ∙ f p c))
          by (Some r) f = ap (moved_byte (laid image.sections) (distance_of base image.base) x)
              (one_relocation ok x r p f.0 c f.1 (is_of-true x p l m))

  -- loaded bytes are bytes where the image's are
  pub bytes_loaded : AreBytes image → (x : ℕ) → mapped image base x < 256
  unfolding mapped moved
  bytes_loaded small x = by (find (is_of x) image.relocs)
    where
      by : (o : Option ℕ) → byte_by x o < 256
      by None = small x
      by (Some r) = omega arith
