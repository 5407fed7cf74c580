-- Laws of bytes by their addresses, for the crates above.
use Rattle.std.proofs.Common.{◌≡◌, ℕ, zero, suc, ◌+◌, ◌-◌, ◌*◌, ◌/◌, ◌%◌, ◌^◌, ◌<◌, ◌≤◌, ◌⊎◌, inl, inr, ⊎_elim, if◌then◌else◌, ◌&&◌, List}
use Rattle.std.proofs.Common.{◌∷◌, length, get_or, refl, sym, ap, ap₂, subst, ◌∙◌, arith, ◌++◌, take}
use Rattle.std.specs.Prelude.{nat_le, nat_lt, slice_index}
use Rattle.std.proofs.Math.Nat.{pow-suc, div-div-eq-div-mul, one-le-pow}
use Rattle.std.proofs.Math.Arith.{mod-mul}
use Rattle.std.proofs.lemmas.Bool.{cases_lt, cond_both}
use Rattle.std.proofs.lemmas.Bool.Decides.{nat_tests}
use Rattle.ebc_width.specs.Bytes.{little_endian, put, overlaid, window}

-- ---- a byte after a store

pub put-within : (b : ℕ → ℕ) (a k v x : ℕ) → a ≤ x → x < a + k → put b a k v x ≡ v / 256 ^ (x - a) % 256
unfolding put
put-within b a k v x from to = grind (arith, nat_tests)

pub put-apart : (b : ℕ → ℕ) (a k v x : ℕ) → (x < a) ⊎ (a + k ≤ x) → put b a k v x ≡ b x
unfolding put
put-apart b a k v x apart = grind (arith, nat_tests)

-- the byte put at x depends on no byte but that at x
pub put-agree : (b c : ℕ → ℕ) (a k v x : ℕ) → b x ≡ c x → put b a k v x ≡ put c a k v x
unfolding put
put-agree b c a k v x same = ap (λ y. if nat_le a x && nat_lt x (a + k) then v / 256 ^ (x - a) % 256 else y) same

-- the same a number of bytes further up
pub put-moved : (b c : ℕ → ℕ) (d a k v x : ℕ) → b (d + x) ≡ c x → put b (d + a) k v (d + x) ≡ put c a k v x
put-moved b c d a k v x same =
    ⊎_elim
    (λ below. put-apart b (d + a) k v (d + x) (inl (omega arith)) ∙ (same ∙ sym (put-apart c a k v x (inl below))))
    (λ from. ⊎_elim
    (λ to. put-within b (d + a) k v (d + x) (omega arith) (omega arith)
    ∙ (ap (λ i. v / 256 ^ i % 256) (omega arith) ∙ sym (put-within c a k v x from to)))
    (λ above. put-apart b (d + a) k v (d + x) (inr (omega arith)) ∙ (same ∙ sym (put-apart c a k v x (inr above))))
    (cases_lt x (a + k)))
    (cases_lt x a)

pub put-below : (b : ℕ → ℕ) (a k v x : ℕ) → b x < 256 → put b a k v x < 256
unfolding put
put-below b a k v x below = cond_both (nat_le a x && nat_lt x (a + k)) _ _ (λ y. y < 256) (λ e. omega arith) (λ e. below)

-- ---- a byte once a list of bytes lies over the others

pub overlaid-within : (b : ℕ → ℕ) (a : ℕ) (over : List ℕ) (x : ℕ) → a ≤ x → x < a + length over
    → overlaid b a over x ≡ slice_index over (x - a)
unfolding overlaid
overlaid-within b a over x from to = grind (arith, nat_tests)

pub overlaid-apart : (b : ℕ → ℕ) (a : ℕ) (over : List ℕ) (x : ℕ) → (x < a) ⊎ (a + length over ≤ x) → overlaid b a over x ≡ b x
unfolding overlaid
overlaid-apart b a over x apart = grind (arith, nat_tests)

-- what lies over the byte at x depends on no byte but that at x
pub overlaid-agree : (b c : ℕ → ℕ) (a : ℕ) (over : List ℕ) (x : ℕ) → b x ≡ c x → overlaid b a over x ≡ overlaid c a over x
unfolding overlaid
overlaid-agree b c a over x same = ap (λ y. if nat_le a x && nat_lt x (a + length over) then slice_index over (x - a) else y) same

-- the same a number of bytes further up
pub overlaid-moved : (b c : ℕ → ℕ) (d a : ℕ) (over : List ℕ) (x : ℕ) → b (d + x) ≡ c x
    → overlaid b (d + a) over (d + x) ≡ overlaid c a over x
overlaid-moved b c d a over x same =
    ⊎_elim
    (λ below. overlaid-apart b (d + a) over (d + x) (inl (omega arith)) ∙ (same ∙ sym (overlaid-apart c a over x (inl below))))
    (λ from. ⊎_elim
    (λ to. overlaid-within b (d + a) over (d + x) (omega arith) (omega arith)
    ∙ (ap (slice_index over) (omega arith) ∙ sym (overlaid-within c a over x from to)))
    (λ above. overlaid-apart b (d + a) over (d + x) (inr (omega arith)) ∙ (same ∙ sym (overlaid-apart c a over x (inr above))))
    (cases_lt x (a + length over)))
    (cases_lt x a)

pub overlaid-below : (b : ℕ → ℕ) (a : ℕ) (over : List ℕ) (x : ℕ) → ((i : ℕ) → slice_index over i < 256) → b x < 256
    → overlaid b a over x < 256
unfolding overlaid
overlaid-below b a over x each below = cond_both (nat_le a x && nat_lt x (a + length over)) _ _ (λ y. y < 256) (λ e. each (x - a))
    (λ e. below)

-- ---- what bytes spell

-- equal bytes, maybe elsewhere, spell equal numbers
pub little_endian-moved : (b c : ℕ → ℕ) (a d k : ℕ) → ((i : ℕ) → i < k → b (a + i) ≡ c (d + i)) → little_endian b a k ≡ little_endian c d k
unfolding little_endian
little_endian-moved b c a d zero same = refl
little_endian-moved b c a d (suc k) same =
    let first : b a ≡ c d = subst (λ x. b x ≡ c d) (omega arith) (subst (λ y. b (a + 0) ≡ c y) (omega arith) (same 0 (omega arith))) in
    let rest : little_endian b (a + 1) k ≡ little_endian c (d + 1) k = little_endian-moved b c (a + 1) (d + 1) k (λ i below.
    let e : a + 1 + i ≡ a + (i + 1) = omega arith in
    let f : d + 1 + i ≡ d + (i + 1) = omega arith in
    rw (e, f) (same (i + 1) (omega arith))) in
    ap₂ (λ x y. x + 256 * y) first rest

pub little_endian-agree : (b c : ℕ → ℕ) (a k : ℕ) → ((x : ℕ) → a ≤ x → x < a + k → b x ≡ c x) → little_endian b a k ≡ little_endian c a k
little_endian-agree b c a k same = little_endian-moved b c a a k (λ i below. same (a + i) (omega arith) (omega arith))

pub little_endian-apart : (b : ℕ → ℕ) (a k v c n : ℕ) → (c + n ≤ a) ⊎ (a + k ≤ c) → little_endian (put b a k v) c n ≡ little_endian b c n
little_endian-apart b a k v c n apart =
    little_endian-agree (put b a k v) b c n (λ x from to. put-apart b a k v x
    (⊎_elim (λ below. inl (omega arith)) (λ above. inr (omega arith)) apart))

low_byte : (u k : ℕ) → u % 256 + 256 * (u / 256 % 256 ^ k) ≡ u % 256 ^ suc k
low_byte u k =
    let some : 0 < 256 ^ k = one-le-pow k 256 (omega arith) in
    let byte : 0 < 256 = omega arith in
    let split = mod-mul u some byte in
    rw (pow-suc 256 k) (omega (arith, split))

little_endian-put : (b : ℕ → ℕ) (a n v j k : ℕ) → j + k ≤ n → little_endian (put b a n v) (a + j) k ≡ v / 256 ^ j % 256 ^ k
unfolding little_endian
little_endian-put b a n v j zero within = omega arith
little_endian-put b a n v j (suc k) within =
    let here : a + j - a ≡ j = omega arith in
    let next : a + suc j ≡ a + j + 1 = omega arith in
    let quotient : v / 256 ^ suc j ≡ v / 256 ^ j / 256 = ap (λ z. v / z) (pow-suc 256 j) ∙ sym (div-div-eq-div-mul v (256 ^ j) 256) in
    let rest : little_endian (put b a n v) (a + j + 1) k ≡ v / 256 ^ j / 256 % 256 ^ k =
    rw (← next) (rw (← quotient) (little_endian-put b a n v (suc j) k (omega arith))) in
    let first : put b a n v (a + j) ≡ v / 256 ^ j % 256 = rw here at (put-within b a n v (a + j) (omega arith) (omega arith)) in
    ap₂ (λ x y. x + 256 * y) first rest ∙ low_byte (v / 256 ^ j) k

-- what is memory_after is little_endian back
pub little_endian-same : (b : ℕ → ℕ) (a k v : ℕ) → little_endian (put b a k v) a k ≡ v % 256 ^ k
little_endian-same b a k v =
    let here : a + 0 ≡ a = omega arith in
    let whole : v / 256 ^ 0 ≡ v = omega arith in
    rw here at (rw whole at (little_endian-put b a k v 0 k (omega arith)))

pub little_endian-below : (b : ℕ → ℕ) (a k : ℕ) → ((x : ℕ) → b x < 256) → little_endian b a k < 256 ^ k
unfolding little_endian
little_endian-below b a zero below = omega arith
little_endian-below b a (suc k) below =
    rw (pow-suc 256 k) (omega (arith, little_endian-below b (a + 1) k below, below a))

-- zeros above add nothing
pub little_endian-zeros : (b : ℕ → ℕ) (a n k : ℕ) → k ≤ n → ((i : ℕ) → k ≤ i → i < n → b (a + i) ≡ 0)
    → little_endian b a n ≡ little_endian b a k
unfolding little_endian
little_endian-zeros b a zero zero within none = refl
little_endian-zeros b a zero (suc k) within none = absurd (omega arith)
little_endian-zeros b a (suc n) zero within none =
    let here : b a ≡ 0 = subst (λ x. b x ≡ 0) (omega arith) (none 0 (omega arith) (omega arith)) in
    let rest : little_endian b (a + 1) n ≡ 0 = little_endian-zeros b (a + 1) n 0 (omega arith)
    (λ i from to. subst (λ x. b x ≡ 0) (omega arith) (none (i + 1) (omega arith) (omega arith))) in
    rw (here, rest) refl
little_endian-zeros b a (suc n) (suc k) within none =
    ap (λ y. b a + 256 * y) (little_endian-zeros b (a + 1) n k (omega arith)
    (λ i from to. subst (λ x. b x ≡ 0) (omega arith) (none (i + 1) (omega arith) (omega arith))))

-- ---- a list of bytes

pub length-window : (b : ℕ → ℕ) (a n : ℕ) → length (window b a n) ≡ n
unfolding window
length-window b a zero = refl
length-window b a (suc n) = ap suc (length-window b (a + 1) n)

pub get_or-window : (b : ℕ → ℕ) (a n i d : ℕ) → i < n → get_or (window b a n) i d ≡ b (a + i)
unfolding window
get_or-window b a zero i d below = absurd (omega arith)
get_or-window b a (suc n) zero d below = ap b (omega arith)
get_or-window b a (suc n) (suc i) d below = get_or-window b (a + 1) n i d (omega arith) ∙ ap b (omega arith)

pub window-agree : (f g : ℕ → ℕ) (a n : ℕ) → ((x : ℕ) → a ≤ x → x < a + n → f x ≡ g x) → window f a n ≡ window g a n
unfolding window
window-agree f g a zero same = refl
window-agree f g a (suc n) same =
    ap₂ (λ y ys. y ∷ ys) (same a (omega arith) (omega arith)) (window-agree f g (a + 1) n (λ x from to. same x (omega arith) (omega arith)))

pub window-append : (b : ℕ → ℕ) (a n m : ℕ) → window b a (n + m) ≡ window b a n ++ window b (a + n) m
unfolding window
window-append b a zero m = ap (λ k. window b a k) {x = 0 + m} {y = m} (omega arith)
    ∙ ap (λ k. window b k m) {x = a} {y = a + 0} (omega arith)
window-append b a (suc n) m =
    ap (λ k. window b a k) {x = suc n + m} {y = suc (n + m)} (omega arith)
    ∙ ap (λ ys. b a ∷ ys) (window-append b (a + 1) n m ∙ ap (λ k. window b (a + 1) n ++ window b k m) {x = a + 1 + n} {y = a + suc n}
    (omega arith))

pub take-window : (b : ℕ → ℕ) (a n m : ℕ) → n ≤ m → take n (window b a m) ≡ window b a n
unfolding window
take-window b a zero m h = refl
take-window b a (suc n) zero h = absurd (omega arith)
take-window b a (suc n) (suc m) h = ap (λ ys. b a ∷ ys) (take-window b (a + 1) n m (omega arith))
