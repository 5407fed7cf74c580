-- Pairs, ranges and what is made of them are read just where the grammar has them.
use Rattle.std.proofs.Common.{◌≡◌, ℕ, ◌^◌, ◌<◌, ◌≤◌, ℤ, pos, negsuc, List, [], ◌∷◌, zero, suc, get_or, Some, true, false, refl, subst, ◌∙◌}
use Rattle.std.proofs.Common.{arith, inl, inr}
use Rattle.std.proofs.lemmas.Bool.Decides.{nat_tests}
use Rattle.std.proofs.lemmas.Bool.{cases_Bool}
use Rattle.std.proofs.lemmas.Option.{cond_some, option_and_then_some}
use Rattle.std.proofs.lemmas.Fmt.{decimal_digit, first_decimal}
use Rattle.std.specs.Prelude.{option_map, nat_le, ◌==◌, neg_ℤ}
use Rattle.std.specs.Fmt.{decimal, signed_decimal}
use Rattle.note_types.specs.Types.{IsNear, IsUnits}
use Rattle.ebc_base.specs.Names.{is_digit}
use Rattle.note_texts.specs.Numbers.{near_of, number_in, units_of}
use Rattle.note_texts.specs.Ranges.{after_dot, pair_of, range_of}
use Rattle.note_texts.specs.TypeGrammar.{range_text, pair_text, IsPairText, IsRangeText}
use Rattle.note_texts.proofs.NumberLaws.{number_of-decimal, decimal-number_of}
use Rattle.note_texts.proofs.NumberRanges.{number_in-sound, number_in-complete, decimal_lacks}
use Rattle.note_texts.proofs.SplitLaws.{split_cases, lacks, lacks-append, split_at-mark}
use Rattle.note_texts.proofs.Tables.{moved, map_some, none_read}

pub units_of-sound : (low : ℕ) (text : List ℕ) (z : ℤ) → units_of low text ≡ Some z → (text ≡ signed_decimal z) × IsUnits low z
units_of-sound low text z h = map_some (λ n. pos n) (number_in low (2 ^ 20) text) z h (λ n found e.
    moved (λ z. (text ≡ signed_decimal z) × IsUnits low z) (pos n) z e
    (let p = number_in-sound low (2 ^ 20) text n found in (p.0, (p.1, p.2))))

pub units_of-complete : (low : ℕ) (text : List ℕ) (z : ℤ) → text ≡ signed_decimal z → IsUnits low z → units_of low text ≡ Some z
units_of-complete low text (pos n) whole h = rw (number_in-complete low (2 ^ 20) text n (omega arith) (whole, h.0, h.1)) refl
units_of-complete low text (negsuc n) whole h = absurd h

minus_sound : (n : ℕ) (text : List ℕ) (z : ℤ) → text ≡ 45 ∷ decimal n → 1 ≤ n → n ≤ 2 ^ 20 → Some (neg_ℤ (pos n)) ≡ Some z
    → (text ≡ signed_decimal z) × IsNear z
minus_sound zero text z whole low high e = absurd (omega arith)
minus_sound (suc m) text z whole low high e = moved (λ z. (text ≡ signed_decimal z) × IsNear z) (negsuc m) z e (whole, omega arith)

pub near_of-sound : (text : List ℕ) (z : ℤ) → near_of text ≡ Some z → (text ≡ signed_decimal z) × IsNear z
unfolding near_of
near_of-sound [] z h = none_read z h
near_of-sound (b ∷ bs) z h = elim (cases_Bool (b == 45)) [
  | inl minus ↦
      let sign : b ≡ 45 = grind (arith, nat_tests) in
      map_some (λ n. neg_ℤ (pos n)) (number_in 1 (2 ^ 20) bs) z (rw minus at h) (λ n found e.
      let p = number_in-sound 1 (2 ^ 20) bs n found in
      minus_sound n (b ∷ bs) z (rw (sign, p.0) refl) p.1 p.2 e)
  | inr plain ↦
      map_some (λ n. pos n) (number_in 0 (2 ^ 20) (b ∷ bs)) z (rw plain at h) (λ n found e.
      let p = number_in-sound 0 (2 ^ 20) (b ∷ bs) n found in
      moved (λ z. (b ∷ bs ≡ signed_decimal z) × IsNear z) (pos n) z e (p.0, p.2))
]

first_digit : (n : ℕ) → n < 2 ^ 64 → 48 ≤ get_or (decimal n) 0 0
first_digit zero fits = rw (decimal_digit 0 (omega arith)) (omega arith)
first_digit (suc n) fits = let f = first_decimal (suc n) (omega arith) fits in omega arith

no_sign : (ds : List ℕ) → 48 ≤ get_or ds 0 0 → near_of ds ≡ option_map (λ n. pos n) (number_in 0 (2 ^ 20) ds)
unfolding near_of
no_sign [] above = absurd (omega arith)
no_sign (b ∷ bs) above =
    let other : (b == 45) ≡ false = grind (arith, nat_tests) in
    rw other refl

pub near_of-complete : (text : List ℕ) (z : ℤ) → text ≡ signed_decimal z → IsNear z → near_of text ≡ Some z
unfolding near_of
near_of-complete text (pos n) whole h =
    rw whole (no_sign (decimal n) (first_digit n (omega (arith, h)))
    ∙ rw (number_in-complete 0 (2 ^ 20) (decimal n) n (omega arith) (refl, omega arith, h)) refl)
near_of-complete text (negsuc n) whole h =
    rw (whole, number_in-complete 1 (2 ^ 20) (decimal (suc n)) (suc n) (omega arith) (refl, omega arith, omega (arith, h))) refl

pub signed_lacks : (mark : ℕ) (z : ℤ) → is_digit mark ≡ false → (45 == mark) ≡ false → IsNear z → lacks mark (signed_decimal z) ≡ true
signed_lacks mark (pos n) bad sign h = decimal_lacks mark n bad (omega (arith, h))
signed_lacks mark (negsuc n) bad sign h = rw (sign, decimal_lacks mark (suc n) bad (omega (arith, h))) refl

units_near : (low : ℕ) (z : ℤ) → IsUnits low z → IsNear z
units_near low (pos n) h = h.1
units_near low (negsuc n) h = absurd h

pub pair_of-sound : (low : ℕ) (text : List ℕ) (p : ℤ × ℤ) → pair_of low text ≡ Some p → IsPairText low text p.0 p.1
unfolding pair_of
pair_of-sound low text p h = elim (split_cases 44 text) [
  | inl parts ↦
      let g = (rw parts.split at h) in
      option_and_then_some _ _ p g (λ n units rest.
      option_and_then_some _ _ p rest (λ c bytes e.
      let u = units_of-sound low parts.before n units in
      let b = near_of-sound parts.after c bytes in
      let whole : text ≡ pair_text n c = parts.whole ∙ (rw (u.0, b.0) refl) in
      moved (λ p. IsPairText low text p.0 p.1) (n, c) p e (whole, u.1, b.1)))
  | inr none ↦ none_read p (rw none.0 at h)
]

pub pair_of-complete : (low : ℕ) (text : List ℕ) (n c : ℤ) → IsPairText low text n c → pair_of low text ≡ Some (n, c)
unfolding pair_of
pair_of-complete low text n c h =
    let split = split_at-mark 44 (signed_decimal n) (signed_decimal c) (signed_lacks 44 n refl refl (units_near low n h.1)) in
    rw (h.0, split, units_of-complete low (signed_decimal n) n refl h.1, near_of-complete (signed_decimal c) c refl h.2) refl

after_dot-sound : (text top : List ℕ) → after_dot text ≡ Some top → text ≡ 46 ∷ top
after_dot-sound [] top h = none_read top h
after_dot-sound (b ∷ bs) top h =
    let p = cond_some (b == 46) bs top h in
    let p0 = p.0 in
    let dot : b ≡ 46 = grind (arith, nat_tests) in
    rw (dot, p.1) refl

pub range_of-sound : (text : List ℕ) (r : ℕ × ℕ) → range_of text ≡ Some r → IsRangeText text r.0 r.1
unfolding range_of
range_of-sound text r h = elim (split_cases 46 text) [
  | inl parts ↦
      let g = (rw parts.split at h) in
      option_and_then_some _ _ r g (λ top dotted rest.
      option_and_then_some _ _ r rest (λ lo first rest.
      option_and_then_some _ _ r rest (λ hi second e.
      let p = cond_some (nat_le lo hi) (lo, hi) r e in
      let p0 = p.0 in
      let ordered : lo ≤ hi = grind (arith, nat_tests) in
      let a = decimal-number_of parts.before lo first in
      let b = decimal-number_of top hi second in
      let whole : text ≡ range_text lo hi = parts.whole ∙ (rw (a.0, after_dot-sound parts.after top dotted, b.0) refl) in
      subst (λ r. IsRangeText text r.0 r.1) p.1 (whole, ordered, b.1))))
  | inr none ↦ none_read r (rw none.0 at h)
]

pub range_of-complete : (text : List ℕ) (lo hi : ℕ) → IsRangeText text lo hi → range_of text ≡ Some (lo, hi)
unfolding range_of
range_of-complete text lo hi h =
    let low : lo < 2 ^ 64 = omega (arith, h.1, h.2) in
    let split = split_at-mark 46 (decimal lo) (46 ∷ decimal hi) (decimal_lacks 46 lo refl low) in
    let ordered : nat_le lo hi ≡ true = let l = h.1 in grind (arith, nat_tests) in
    rw (h.0, split, number_of-decimal lo low, number_of-decimal hi h.2, ordered) refl

pub range_lacks : (lo hi : ℕ) → lo ≤ hi → hi < 2 ^ 64 → lacks 47 (range_text lo hi) ≡ true
range_lacks lo hi ordered fits = lacks-append 47 (decimal lo) (46 ∷ 46 ∷ decimal hi) (decimal_lacks 47 lo refl (omega arith))
    (rw (decimal_lacks 47 hi refl fits) refl)
