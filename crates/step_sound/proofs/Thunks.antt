-- A thunk cell that keeps its rule names its function wherever the image is loaded.
use Rattle.step_sound.proofs.Common.{◌≡◌, ℕ, zero, suc, ◌+◌, ◌*◌, ◌%◌, ◌^◌, ◌<◌, ◌≤◌, Bool, true, false, ◌&&◌, if◌then◌else◌, nat_eq}
use Rattle.step_sound.proofs.Common.{nat_lt, List, [], ◌∷◌, length, get_or, Option, Some, None, refl, sym, ap, ◌∙◌, subst, arith}
use Rattle.step_sound.proofs.Common.{mod-eq_of_lt, ◌-◌, ⊎_elim, slice_get, and_from, eq-eqb, ne_eqb, cases_lt, lt-ltb, ltb-true, same_Some}
use Rattle.step_sound.proofs.Common.{none-some, slice_get_within, slice_get-get_or, get_or_from_slice_get, position, little_endian}
use Rattle.step_sound.proofs.Common.{little_endian-below, FnNote, mapped, image_byte}
use Rattle.std.proofs.lemmas.{Bool.ltb-false, List.Sums.position_or_len_is}
use Rattle.std.specs.List.{position_or_len}
use Rattle.ebc_width.specs.Width.{extended_at}
use Rattle.rules_image.specs.Images.{IsThunk}
use Rattle.step_sound.specs.Loaded.{ThunksAreLoaded}
use Rattle.step_sound.proofs.Relocated.{number_kept}

-- ---- the function that begins at a place

-- functions ascend, each past the one before it
abbrev Ascends : List FnNote → Type 0
Ascends fs = (k : ℕ) (f : FnNote) → slice_get fs k ≡ Some f → (f.place < f.end)
    × ((j : ℕ) (g : FnNote) → j + 1 ≡ k → slice_get fs j ≡ Some g → g.end ≤ f.place)

-- so each lies past all before it
past_all : (fs : List FnNote) → Ascends fs → (k j : ℕ) (f g : FnNote) → slice_get fs k ≡ Some f → slice_get fs j ≡ Some g → j < k
    → g.end ≤ f.place
past_all fs up zero j f g a b l = absurd (omega (arith, l))
past_all fs up (suc k) j f g a b l = by_before (slice_get fs k) refl (λ h e m. past_all fs up k j h g e b m)
  where
    none_before : (xs : List FnNote) (n : ℕ) (x : FnNote) → slice_get xs n ≡ None → slice_get xs (suc n) ≡ Some x → ⊥
    none_before [] n x e q = none-some x q
    none_before (y ∷ ys) zero x e q = none-some y (sym e)
    none_before (y ∷ ys) (suc n) x e q = none_before ys n x e q

    by_before : (o : Option FnNote) → slice_get fs k ≡ o → ((h : FnNote) → slice_get fs k ≡ Some h → j < k → g.end ≤ h.place)
        → g.end ≤ f.place
    by_before None e before = absurd (none_before fs k f e a)
    by_before (Some h) e before =
        let near = (up (suc k) f a).1 k h (omega arith) e in
        let range = (up k h e).0 in
        ⊎_elim
        (λ m. let far = before h e m in omega (arith, far, near, range))
        (λ m. let same : j ≡ k = omega (arith, l, m) in let is : g ≡ h = same_Some g h (sym b ∙ ap (slice_get fs) same ∙ e) in
        subst (λ (x : FnNote). x.end ≤ f.place) (sym is) near)
        (cases_lt j k)

-- the first of a list that passes a test is found, where none before it passes
pub first_found : {X : Type 0} (t : X → Bool) (xs : List X) (k : ℕ) (x : X) → slice_get xs k ≡ Some x → t x ≡ true
    → ((j : ℕ) (y : X) → j < k → slice_get xs j ≡ Some y → t y ≡ false) → position t xs ≡ Some k
first_found t xs k x g e before =
    let l = slice_get_within xs k x g in
    let at : position_or_len t xs ≡ k = position_or_len_is t xs k x (omega (arith, l))
    (λ j m. before j (get_or xs j x) m (slice_get-get_or xs j x (omega (arith, m, l))))
    (λ m. subst (λ y. t y ≡ true) (sym (get_or_from_slice_get xs k x x g)) e) in
    ap (λ n. if nat_lt n (length xs) then Some n else None) at ∙ ap (λ b. if b then Some k else None) (lt-ltb k (length xs) l)

-- ---- the offset

-- a distance of 32 bits with its sign leads to the place that it leads to without it, where both places are small
offset_signed : (v p f : ℕ) → v < 2 ^ 32 → p < 2 ^ 23 → f < 2 ^ 22 → (v + p) % 2 ^ 32 ≡ f → (extended_at 4 v + p) % 2 ^ 64 ≡ f
offset_signed v p f l m n e = ap (λ c. (shape c + p) % 2 ^ 64) cut ∙ go (nat_lt (2 * v) (2 ^ 32)) refl
  where
    shape : ℕ → ℕ
    shape c = if nat_lt (2 * c) (2 ^ 32) then c else c + (2 ^ 64 - 2 ^ 32)

    cut : v % 2 ^ 32 ≡ v
    cut = mod-eq_of_lt l

    go : (b : Bool) → nat_lt (2 * v) (2 ^ 32) ≡ b → ((if b then v else v + (2 ^ 64 - 2 ^ 32)) + p) % 2 ^ 64 ≡ f
    go true s = let q = ltb-true (2 * v) (2 ^ 32) s in omega (arith, q, l, m, n, e)
    go false s = let q = ltb-false (2 * v) (2 ^ 32) s in omega (arith, q, l, m, n, e)

pub thunks_are_loaded : ThunksAreLoaded
thunks_are_loaded image world base run bytes i t g = record {
  note = rule.f;
  there = rule.there;
  found = first_found (λ (f : FnNote). nat_eq f.place rule.f.place && f.enter) world.notes.function t.function rule.f rule.there
      (and_from _ _ (eq-eqb rule.f.place rule.f.place refl) rule.enter) before;
  names = λ x e. named x e;
}
  where
    rule : IsThunk image world.notes i t
    rule = run.thunks i t g

    up : Ascends world.notes.function
    up k f h = let r = run.functions k f h in (r.range, r.past)

    before : (j : ℕ) (y : FnNote) → j < t.function → slice_get world.notes.function j ≡ Some y
        → (nat_eq y.place rule.f.place && y.enter) ≡ false
    before j y l h =
        let far = past_all world.notes.function up t.function j rule.f y rule.there h l in
        let range = (up j y h).0 in
        ap (λ b. b && y.enter) (ne_eqb y.place rule.f.place (λ e. omega (arith, far, range, e)))

    named : (x : ℕ) → x ≡ little_endian (mapped image base) t.place 4 → (extended_at 4 x + t.place + 4) % 2 ^ 64 ≡ rule.f.place
    named x e =
        let same : x ≡ little_endian (image_byte image) t.place 4 = e
        ∙ number_kept image base t.place (t.place + 8) t.place 4 rule.unrelocated (omega arith) (omega arith) in
        let small = run.notes.thunks i t g in
        let spot = small.place in
        let f = run.notes.functions t.function rule.f rule.there in
        let at = f.place in
        let sum : (x + (t.place + 4)) % 2 ^ 32 ≡ rule.f.place = ap (λ y. (y + (t.place + 4)) % 2 ^ 32) same ∙ rule.offset in
        (let z : (extended_at 4 x + t.place + 4) % 2 ^ 64 ≡ (extended_at 4 x + (t.place + 4)) % 2 ^ 64 = omega arith in z)
        ∙ offset_signed x (t.place + 4) rule.f.place (small_number x same) (omega (arith, spot)) (omega (arith, at)) sum
      where
        small_number : (x : ℕ) → x ≡ little_endian (image_byte image) t.place 4 → x < 2 ^ 32
        small_number x e = let l = little_endian-below (image_byte image) t.place 4 bytes in omega (arith, e, l)
