-- What moves keep of a value fits what the rules keep of its type.
use Rattle.typing_laws.proofs.Common.{◌≡◌, ℕ, ◌+◌, ◌*◌, ◌%◌, ◌^◌, ◌<◌, ◌≤◌, Bool, true, false, ◌&&◌, if◌then◌else◌, nat_lt, sym, ap, ◌∙◌}
use Rattle.typing_laws.proofs.Common.{subst, arith, inl, inr, ⊎_elim, mod-eq_of_lt, ℤ, pos, negsuc, int_le, int_eq, mul-le-mul_right}
use Rattle.typing_laws.proofs.Common.{ltb-true, and_parts, false≢true, lt-ltb, Decides-int_eq, mod_below, pow_pos, Size, wrap64, IsBounded}
use Rattle.typing_laws.proofs.Common.{Ty, Any, Int, Lin, Scaled, Ptr, Local, Lent, Status, Mask, Handle, Entry, ThunkAt, full, Neutral, Num}
use Rattle.typing_laws.proofs.Common.{At, Junk, ObjectOf, number, null, word, IsPointer, OrNull, is_kept_at, kept_natural, narrowed}
use Rattle.typing_laws.proofs.Common.{sign_extended, Move, kept}
use Rattle.note_types.specs.declared.types.Ty.TheVariants.{Method}
use Rattle.typing_laws.proofs.{Rows.one_divides, Rows.number_fits, Rows.choice_fits, Objects.ObjectsFit, Objects.start_is}
use Rattle.typing_laws.proofs.{Objects.start_kept, Views.View, Views.FitsIn}
use Rattle.rules_base.specs.Kept as rules

module _ (view : View) (ok : ObjectsFit view.notes view.m.objects) where
  open view use {notes, m}

  -- ---- natural size

  -- a pair whose number at 4 bytes is small stays
  num_stays : (n c : ℕ) → word (n * 4 + c) < 2 ^ 32 → kept_natural notes m.objects (Num n c) ≡ Num n c
  unfolding kept_natural
  num_stays n c l = ap (λ b. if b then Num n c else Junk) (lt-ltb _ _ l)

  at_stays : (v : Neutral) (k n c : ℕ) → v ≡ At (ObjectOf k) n c → is_kept_at notes m.objects (ObjectOf k) n c ≡ true
      → kept_natural notes m.objects v ≡ v
  unfolding kept_natural
  at_stays v k n c e h = ap (kept_natural notes m.objects) e ∙ ap (λ b. if b then At (ObjectOf k) n c else Junk) h ∙ sym e

  pub number_stays : (x : ℕ) → x < 2 ^ 32 → kept_natural notes m.objects (number x) ≡ number x
  number_stays x l = num_stays 0 x (omega (arith, l))

  start_stays : (s k : ℕ) (n c : ℤ) (v : Neutral) → 1 ≤ k → n ≡ pos 0 → c ≡ pos 0 → IsPointer notes m.objects s k n c v
      → kept_natural notes m.objects v ≡ v
  start_stays s k n c v l en ec f =
      let g : IsPointer notes m.objects s k (pos 0) (pos 0) v =
      subst (λ z. IsPointer notes m.objects s k (pos 0) z v) ec (subst (λ z. IsPointer notes m.objects s k z c v) en f) in
      let q = start_is notes m.objects ok s k v l g in
      at_stays v q.k _ _ q.is (start_kept notes m.objects ok s k v q)

  null_stays : (v : Neutral) → v ≡ null → kept_natural notes m.objects v ≡ v
  unfolding kept_natural
  null_stays v e = ap (kept_natural notes m.objects) e ∙ sym e

  -- what is kept of a value that stays
  stays : (t : Ty) (v : Neutral) → kept_natural notes m.objects v ≡ v → FitsIn view t v → FitsIn view t (kept_natural notes m.objects v)
  stays t v e f = subst (λ z. FitsIn view t z) (sym e) f

  or_null_stays : (s k : ℕ) (n c : ℤ) (may : Bool) (v : Neutral) → 1 ≤ k → n ≡ pos 0 → c ≡ pos 0
      → OrNull may v (IsPointer notes m.objects s k n c v) → kept_natural notes m.objects v ≡ v
  or_null_stays s k n c true v l en ec f = ⊎_elim (λ g. start_stays s k n c v l en ec g) (λ e. null_stays v e) f
  or_null_stays s k n c false v l en ec f = start_stays s k n c v l en ec f

  lin_small : (n c : ℤ) → IsBounded (Lin n c) → int_le (pos 0) c ≡ true → word (wrap64 n * 4 + wrap64 c) < 2 ^ 32
  lin_small (pos i) (pos j) b h = let x = b.0.1 in let y = b.1 in omega (arith, x, y)
  lin_small (pos i) (negsuc j) b h = absurd (false≢true h)
  lin_small (negsuc i) c b h = absurd b.0

  pub natural_fits : (t : Ty) (v : Neutral) → IsBounded t → FitsIn view t v
      → FitsIn view (rules.kept_natural t) (kept_natural notes m.objects v)
  unfolding kept_natural
  natural_fits (Int lo hi div) v b f =
      choice_fits view (nat_lt hi (2 ^ 32)) (Int lo hi div) Any (kept_natural notes m.objects v) (λ h.
      let l = ltb-true hi (2 ^ 32) h in
      stays (Int lo hi div) v (ap (kept_natural notes m.objects) f.is ∙ number_stays f.x (omega (arith, f.to, l)) ∙ sym f.is) f) (λ _. tt)
  natural_fits (Lin n c) v b f = choice_fits view (int_le (pos 0) c) (Lin n c) Any (kept_natural notes m.objects v) (λ h. stays (Lin n c) v
      (ap (kept_natural notes m.objects) f ∙ num_stays (wrap64 n) (wrap64 c) (lin_small n c b h) ∙ sym f) f) (λ _. tt)
  natural_fits (Scaled n c hi) v b f =
      let e : f.i * (8 * n + c) ≤ hi * (8 * n + c) = mul-le-mul_right (8 * n + c) f.to in
      let g : f.i * (8 * n + c) ≡ 8 * (f.i * n) + f.i * c = omega arith in
      let h = b.1 in
      stays (Scaled n c hi) v (ap (kept_natural notes m.objects) f.is ∙ num_stays (f.i * n) (f.i * c) (omega (arith, e, g, h)) ∙ sym f.is) f
  natural_fits (Ptr s k n c may) v b f =
      choice_fits view (int_eq n (pos 0) && int_eq c (pos 0)) (Ptr s k n c may) Any (kept_natural notes m.objects v) (λ h.
      let p = and_parts (int_eq n (pos 0)) (int_eq c (pos 0)) h in
      stays (Ptr s k n c may) v
      (or_null_stays s k n c may v b.0 ((Decides-int_eq n (pos 0)).0 p.0) ((Decides-int_eq c (pos 0)).0 p.1) f) f) (λ _. tt)
  natural_fits (Local x) v b f = stays (Local x) v (ap (kept_natural notes m.objects) f.is ∙ sym f.is) f
  natural_fits (Lent cell) v b f = stays (Lent cell) v (ap (kept_natural notes m.objects) f.cell_below.is ∙ sym f.cell_below.is) f
  natural_fits (Status g) v b f = stays (Status g) v (⊎_elim (λ e. ap (kept_natural notes m.objects) e.is ∙ sym e.is)
      (λ s. let l = s.0.small in ap (kept_natural notes m.objects) s.0.is ∙ number_stays s.0.code (omega (arith, l)) ∙ sym s.0.is) f) f
  natural_fits Mask v b f = stays Mask v (ap (kept_natural notes m.objects) f ∙ sym f) f
  natural_fits Handle v b f = stays Handle v (⊎_elim (λ e. ap (kept_natural notes m.objects) e.is ∙ sym e.is) (λ e. null_stays v e) f) f
  natural_fits Entry v b f = stays Entry v (⊎_elim (λ e. ap (kept_natural notes m.objects) e.is ∙ sym e.is) (λ e. null_stays v e) f) f
  natural_fits (Method k) v b f = stays (Method k) v (ap (kept_natural notes m.objects) f ∙ sym f) f
  natural_fits (ThunkAt i) v b f = stays (ThunkAt i) v (ap (kept_natural notes m.objects) f ∙ sym f) f
  natural_fits t v b f = tt

  -- ---- narrow moves

  pub low_fits : (bits : ℕ) (t : Ty) (v : Neutral) → 2 ^ bits ≤ 2 ^ 64 → FitsIn view t v
      → FitsIn view (rules.kept_low bits t) (narrowed bits v)
  low_fits bits (Int lo hi div) v p f = choice_fits view (nat_lt hi (2 ^ bits)) (Int lo hi div) (full bits) (narrowed bits v)
      (λ h.
      let l = ltb-true hi (2 ^ bits) h in
      let w : word f.x ≡ f.x = omega (arith, f.to, l, p) in
      let e : word f.x % 2 ^ bits ≡ f.x = ap (λ z. z % 2 ^ bits) w ∙ mod-eq_of_lt (omega (arith, f.to, l)) in
      subst (λ z. FitsIn view (Int lo hi div) z) (sym (ap (narrowed bits) f.is ∙ ap number e ∙ sym f.is)) f)
      (λ h. let q = mod_below (word f.x) (2 ^ bits) (pow_pos bits) in
      number_fits view (word f.x % 2 ^ bits) 0 _ 1 _ (ap (narrowed bits) f.is) (omega arith) (omega (arith, q)) (one_divides _))
  low_fits bits t v p f = tt

  -- What a move keeps of a value fits what it keeps of its type.
  pub kept_fits : (size : Size) (t : Ty) (v : Neutral) → IsBounded t → FitsIn view t v
      → FitsIn view (rules.kept size t) (kept notes m.objects (Move size) v)
  kept_fits Size.Byte t v b f = low_fits 8 t v (omega arith) f
  kept_fits Size.Word t v b f = low_fits 16 t v (omega arith) f
  kept_fits Size.Dword t v b f = low_fits 32 t v (omega arith) f
  kept_fits Size.Qword t v b f = f
  kept_fits Size.Natural t v b f = natural_fits t v b f

  -- ---- sign extension

  extended_number : (x : ℕ) → x < 2 ^ 31 → sign_extended (number x) ≡ number x
  unfolding sign_extended
  extended_number x l =
      let e : word x ≡ x = omega (arith, l) in
      ap (λ b. if b then number (word x) else Junk) (lt-ltb (word x) (2 ^ 31) (omega (arith, l))) ∙ ap number e

  pub signed_fits : (t : Ty) (v : Neutral) → FitsIn view t v → FitsIn view (rules.kept_signed t) (sign_extended v)
  unfolding sign_extended
  signed_fits (Status g) v f = ⊎_elim
      (λ e. inl (record { code = e.code; is = ap sign_extended e.is; small = e.small }))
      (λ s. let l = s.0.small in inr (
        record { code = s.0.code; is = ap sign_extended s.0.is ∙ extended_number s.0.code l; small = l },
        s.1,
      )) f
  signed_fits (Int lo hi div) v f = choice_fits view (nat_lt hi (2 ^ 31)) (Int lo hi div) Any (sign_extended v)
      (λ h. let l = ltb-true hi (2 ^ 31) h in subst (λ z. FitsIn view (Int lo hi div) z)
      (sym (ap sign_extended f.is ∙ extended_number f.x (omega (arith, f.to, l)) ∙ sym f.is)) f) (λ _. tt)
  signed_fits t v f = tt
