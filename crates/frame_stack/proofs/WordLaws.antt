-- Laws of words in bytes: which bytes tell them, and words that are read and written one after another.
use Rattle.std.proofs.Common.{◌≡◌, ℕ, zero, suc, ◌+◌, ◌*◌, ◌^◌, ◌<◌, ◌≤◌, inl, inr, ⊎_elim, take, List, [], ◌∷◌, ◌++◌, length, set, get_or}
use Rattle.std.proofs.Common.{refl, sym, ap, ap₂, ◌∙◌, arith}
use Rattle.std.specs.Prelude.{slice_index}
use Rattle.ebc_width.specs.Bytes.{little_endian, put}
use Rattle.ebc_width.proofs.ByteLaws.{little_endian-agree, little_endian-same, put-apart}
use Rattle.frame_stack.specs.Words.{words_at, SameApart}

pub words-agree : (b c : ℕ → ℕ) (a n : ℕ) → ((x : ℕ) → a ≤ x → x < a + 8 * n → c x ≡ b x) → words_at c a n ≡ words_at b a n
unfolding words_at
words-agree b c a zero same = refl
words-agree b c a (suc n) same =
    ap₂ (λ w ws. w ∷ ws) (little_endian-agree c b a 8 (λ x from to. same x from (omega arith)))
    (words-agree b c (a + 8) n (λ x from to. same x (omega arith) (omega arith)))

pub length-words : (b : ℕ → ℕ) (a n : ℕ) → length (words_at b a n) ≡ n
unfolding words_at
length-words b a zero = refl
length-words b a (suc n) = ap suc (length-words b (a + 8) n)

-- one word more
pub words-push : (b : ℕ → ℕ) (a n : ℕ) → words_at b a (suc n) ≡ words_at b a n ++ little_endian b (a + 8 * n) 8 ∷ []
unfolding words_at
words-push b a zero = let here : a ≡ a + 8 * 0 = omega arith in ap (λ k. little_endian b k 8 ∷ []) here
words-push b a (suc n) =
    let there : a + 8 + 8 * n ≡ a + 8 * suc n = omega arith in
    ap (λ ws. little_endian b a 8 ∷ ws) (words-push b (a + 8) n ∙ ap (λ k. words_at b (a + 8) n ++ little_endian b k 8 ∷ []) there)

-- the word at a place of them
pub word-index : (b : ℕ → ℕ) (a n j : ℕ) → j < n → slice_index (words_at b a n) j ≡ little_endian b (a + 8 * j) 8
unfolding words_at
word-index b a zero j less = absurd (omega arith)
word-index b a (suc n) zero less = let here : a ≡ a + 8 * 0 = omega arith in ap (λ k. little_endian b k 8) here
word-index b a (suc n) (suc j) less =
    let there : a + 8 + 8 * j ≡ a + 8 * suc j = omega arith in
    word-index b (a + 8) n j (omega arith) ∙ ap (λ k. little_endian b k 8) there

-- one word written over
pub words-put : (b c : ℕ → ℕ) (a n j v : ℕ) → j < n → v < 2 ^ 64 → ((x : ℕ) → c x ≡ put b (a + 8 * j) 8 v x)
    → words_at c a n ≡ set (words_at b a n) j v
unfolding words_at
words-put b c a zero j v less small is = absurd (omega arith)
words-put b c a (suc n) zero v less small is =
    let here : a + 8 * 0 ≡ a = omega arith in
    ap₂ (λ w ws. w ∷ ws)
    (little_endian-agree c (put b a 8 v) a 8 (λ x from to. is x ∙ ap (λ k. put b k 8 v x) here) ∙ little_endian-same b a 8 v ∙ omega arith)
    (words-agree b c (a + 8) n (λ x from to. is x ∙ put-apart b (a + 8 * 0) 8 v x (inr (omega arith))))
words-put b c a (suc n) (suc j) v less small is =
    let there : a + 8 * suc j ≡ a + 8 + 8 * j = omega arith in
    ap₂ (λ w ws. w ∷ ws)
    (little_endian-agree c b a 8 (λ x from to. is x ∙ put-apart b (a + 8 * suc j) 8 v x (inl (omega arith))))
    (words-put b c (a + 8) n j v (omega arith) small (λ x. is x ∙ ap (λ k. put b k 8 v x) there))

-- ---- words that are read and written one after another

take-push : (xs : List ℕ) (k : ℕ) → k < length xs → take (suc k) xs ≡ take k xs ++ get_or xs k 0 ∷ []
take-push [] k less = absurd (omega arith)
take-push (x ∷ xs) zero less = refl
take-push (x ∷ xs) (suc k) less = ap (λ ys. x ∷ ys) (take-push xs k (omega arith))

take-set-push : (xs : List ℕ) (k w : ℕ) → k < length xs → take (suc k) (set xs k w) ≡ take k xs ++ w ∷ []
take-set-push [] k w less = absurd (omega arith)
take-set-push (x ∷ xs) zero w less = refl
take-set-push (x ∷ xs) (suc k) w less = ap (λ ys. x ∷ ys) (take-set-push xs k w (omega arith))

pub words_none : (b : ℕ → ℕ) (a : ℕ) → words_at b a 0 ≡ []
unfolding words_at
words_none b a = refl

pub read-next : (b : ℕ → ℕ) (a k w : ℕ) (xs : List ℕ) → k < length xs → take k xs ≡ words_at b a k → w ≡ little_endian b (a + 8 * k) 8
    → take (k + 1) (set xs k w) ≡ words_at b a (k + 1)
read-next b a k w xs less so_far is =
    let next : k + 1 ≡ suc k = omega arith in
    ap (λ n. take n (set xs k w)) next ∙ take-set-push xs k w less ∙ ap₂ (λ ws v. ws ++ v ∷ []) so_far is ∙ sym (words-push b a k) ∙ ap
    (words_at b a) (sym next)

pub written-next : (b c : ℕ → ℕ) (a k : ℕ) (ws : List ℕ) → k < length ws → get_or ws k 0 < 2 ^ 64 → words_at b a k ≡ take k ws
    → ((x : ℕ) → c x ≡ put b (a + 8 * k) 8 (get_or ws k 0) x) → words_at c a (k + 1) ≡ take (k + 1) ws
written-next b c a k ws less small so_far is =
    let next : k + 1 ≡ suc k = omega arith in let v = get_or ws k 0 in
    ap (words_at c a) next ∙ words-push c a k
    ∙ ap₂ (λ xs w. xs ++ w ∷ [])
    (words-agree b c a k (λ x from to. is x ∙ put-apart b (a + 8 * k) 8 v x (inl to)) ∙ so_far)
    (little_endian-agree c (put b (a + 8 * k) 8 v) (a + 8 * k) 8 (λ x from to. is x) ∙ little_endian-same b (a + 8 * k) 8 v ∙ omega arith)
    ∙ sym (take-push ws k less) ∙ ap (λ n. take n ws) (sym next)

pub same_none : (b : ℕ → ℕ) (a : ℕ) → SameApart b b a 0
unfolding SameApart
same_none b a = λ i e. refl

pub same-next : (o b c : ℕ → ℕ) (a k v : ℕ) → SameApart o b a (8 * k) → ((x : ℕ) → c x ≡ put b (a + 8 * k) 8 v x)
    → SameApart o c a (8 * (k + 1))
unfolding SameApart
same-next o b c a k v same is = λ i e. ⊎_elim
    (λ low. is i ∙ put-apart b (a + 8 * k) 8 v i (inl (omega arith)) ∙ same i (inl low))
    (λ high. is i ∙ put-apart b (a + 8 * k) 8 v i (inr (omega arith)) ∙ same i (inr (omega arith)))
    e

-- bytes below what is written are as they were
pub same_below : (b c : ℕ → ℕ) (a n : ℕ) → SameApart b c a n → (x : ℕ) → x < a → c x ≡ b x
unfolding SameApart
same_below b c a n same x less = same x (inl less)
