-- What a search in ascending numbers finds.
use Rattle.note_infer.proofs.Common.{◌≡◌, ℕ, zero, suc, ◌-◌, ◌<◌, ◌≤◌, Bool, true, false, nat_eq, List, [], ◌∷◌, length, get_or, refl, sym}
use Rattle.note_infer.proofs.Common.{ap, subst, ◌∙◌, ⊎_elim, arith, Err, None, Ok, Some, Contains, IsStrictlyIncreasing, cases_lt}
use Rattle.note_infer.proofs.Common.{nat_tests, AllPairs-from_increasing, Image, reloc_at}
use Rattle.std.proofs.{Common.◌||◌, lemmas.List.Sorted.searched}
use Rattle.std.specs.{List.list_any, List.Sorted.IsBinarySearchResult, Ordering.nat_cmp}
use Rattle.pe_image.specs.{Images.IsImage, Mapped.named_place}
use Rattle.rules_image.specs.Images.{is_relocated, named_at}

-- numbers that don't fall
abbrev pub Climb : List ℕ → Type 0
Climb xs = (i j : ℕ) → i ≤ j → j < length xs → get_or xs i 0 ≤ get_or xs j 0

pub climb_of : (xs : List ℕ) → IsStrictlyIncreasing xs → Climb xs
climb_of xs up i j low short =
    ⊎_elim (λ less. let h = AllPairs-from_increasing xs up i j 0 less short in omega arith)
    (λ back. let same : i ≡ j = omega arith in let e : get_or xs i 0 ≡ get_or xs j 0 = ap (λ k. get_or xs k 0) same in omega arith)
    (cases_lt i j)

default_free : (xs : List ℕ) (k : ℕ) → k < length xs → (d : ℕ) → get_or xs k d ≡ get_or xs k 0
default_free [] k h d = absurd (omega arith)
default_free (x ∷ xs) zero h d = refl
default_free (x ∷ xs) (suc k) h d = default_free xs k (omega arith) d

-- a number that isn't found isn't there
pub not_there : (xs : List ℕ) (x i : ℕ) → IsBinarySearchResult (λ y. nat_cmp y x) xs (Err i) → Climb xs → Contains xs x → ⊥
not_there xs x i h up c =
    let s = searched xs x (Err i) h up in
    let e : get_or xs c.0 0 ≡ x = sym (default_free xs c.0 c.1 x) ∙ c.2 in
    ⊎_elim (λ less. let q = s.1 c.0 less in omega arith) (λ from. let q = s.2 c.0 from c.1 in omega arith) (cases_lt c.0 i)

pub there_at : (xs : List ℕ) (x k : ℕ) → k < length xs → get_or xs k 0 ≡ x → Contains xs x
there_at xs x k h e = (k, h, default_free xs k h x ∙ e)

-- ---- relocations

any_at : (xs : List ℕ) (r k : ℕ) → k < length xs → get_or xs k 0 ≡ r → list_any (nat_eq r) xs ≡ true
any_at [] r k h e = absurd (omega arith)
any_at (x ∷ xs) r zero h e = let yes : nat_eq r x ≡ true = grind (arith, nat_tests) in rw yes refl
any_at (x ∷ xs) r (suc k) h e = or_right (nat_eq r x) _ (any_at xs r k (omega arith) e)
  where
    or_right : (a b : Bool) → b ≡ true → (a || b) ≡ true
    or_right true b e = refl
    or_right false b e = e

any_none : (xs : List ℕ) (r : ℕ) → ((k : ℕ) → k < length xs → get_or xs k 0 ≡ r → ⊥) → list_any (nat_eq r) xs ≡ false
any_none [] r none = refl
any_none (x ∷ xs) r none =
    let other : x ≡ r → ⊥ = λ e. none 0 (omega arith) e in
    let other_is : nat_eq r x ≡ false = grind (arith, nat_tests) in
    let rest = any_none xs r (λ k h. none (suc k) (omega arith)) in
    rw other_is rest

relocs_climb : (image : Image) → IsImage image → Climb image.relocs
relocs_climb image sound i j low short =
    ⊎_elim (λ less. let h = sound.apart i j 0 less short in omega arith)
    (λ back. let same : i ≡ j = omega arith in let e : get_or image.relocs i 0 ≡ get_or image.relocs j 0 =
    ap (λ k. get_or image.relocs k 0) same in omega arith)
    (cases_lt i j)

pub reloc_found : (image : Image) (next place i : ℕ) (xs : List ℕ) → IsImage image → xs ≡ image.relocs → place ≡ next - 8
    → IsBinarySearchResult (λ y. nat_cmp y place) xs (Ok i) → Some (named_place image place) ≡ reloc_at image next
unfolding reloc_at
reloc_found image next place i xs sound same at h =
    let there : IsBinarySearchResult (λ y. nat_cmp y place) image.relocs (Ok i) =
    subst (λ ys. IsBinarySearchResult (λ y. nat_cmp y place) ys (Ok i)) same h in
    let s = searched image.relocs place (Ok i) there (relocs_climb image sound) in
    let yes : is_relocated image next ≡ true =
    subst (λ p. list_any (nat_eq p) image.relocs ≡ true) at (any_at image.relocs place i s.0 s.1) in
    ap (λ p. Some (named_place image p)) at ∙ sym (ap (named_at image next) yes)

pub reloc_none : (image : Image) (next place i : ℕ) (xs : List ℕ) → IsImage image → xs ≡ image.relocs → place ≡ next - 8
    → IsBinarySearchResult (λ y. nat_cmp y place) xs (Err i) → None ≡ reloc_at image next
unfolding reloc_at
reloc_none image next place i xs sound same at h =
    let there : IsBinarySearchResult (λ y. nat_cmp y place) image.relocs (Err i) =
    subst (λ ys. IsBinarySearchResult (λ y. nat_cmp y place) ys (Err i)) same h in
    let up = relocs_climb image sound in
    let s = searched image.relocs place (Err i) there up in
    let no : is_relocated image next ≡ false =
    subst (λ p. list_any (nat_eq p) image.relocs ≡ false) at
    (any_none image.relocs place (λ k short e.
    ⊎_elim (λ less. let q = s.1 k less in omega arith) (λ from. let q = s.2 k from short in omega arith) (cases_lt k i))) in
    sym (ap (named_at image next) no)
