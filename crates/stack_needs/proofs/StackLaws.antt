-- The functions whose calls are being looked at, one more and one less.
use Rattle.stack_needs.proofs.Common.{◌≡◌, ℕ, zero, suc, List, [], ◌∷◌, ◌++◌, length, Some, refl, sym, ap, subst, ◌∙◌, inl, inr, ⊎_elim}
use Rattle.stack_needs.proofs.Common.{arith, slice_get, IsStack, functions_of, Mark, Open}
use Rattle.std.proofs.{Common.◌⊎◌, Common.◌<◌, lemmas.List.map-append}
use Rattle.std.specs.Prelude.{slice_set}
use Rattle.ebc_base.proofs.Lists.{slice_get-front}
use Rattle.stack_needs.specs.{Calls.HasChain, Calls.LeadsIn, Walks.LastCalls}
use Rattle.stack_needs.specs.declared.order.Visit.{Visit}

-- ---- steps

pub leads-one : (R : ℕ → ℕ → Type 0) (k j : ℕ) → R k j → HasChain R k j
unfolding LeadsIn
leads-one R k j r = (zero, r)

pub leads-more : (R : ℕ → ℕ → Type 0) (k m j : ℕ) → HasChain R k m → R m j → HasChain R k j
unfolding LeadsIn
leads-more R k m j (n, l) r = (suc n, (m, (l, r)))

-- one relation in place of another
leads_in : (R S : ℕ → ℕ → Type 0) → ((k j : ℕ) → R k j → S k j) → (n k j : ℕ) → LeadsIn R n k j → LeadsIn S n k j
unfolding LeadsIn
leads_in R S to zero k j l = to k j l
leads_in R S to (suc n) k j (m, (l, r)) = (m, (leads_in R S to n k m l, to m j r))

pub leads-by : (R S : ℕ → ℕ → Type 0) → ((k j : ℕ) → R k j → S k j) → (k j : ℕ) → HasChain R k j → HasChain S k j
leads-by R S to k j (n, l) = (n, leads_in R S to n k j l)

-- ---- lists

-- an element of a list with one more is one of the list, or the last
pub push-cases : {X : Type 0} (xs : List X) (x a : X) (i : ℕ) → slice_get (xs ++ x ∷ []) i ≡ Some a
    → ((i < length xs) × (slice_get xs i ≡ Some a)) ⊎ ((i ≡ length xs) × (a ≡ x))
push-cases [] x a zero is = inr (refl, cc)
push-cases [] x a (suc i) is = absurd cc
push-cases (y ∷ xs) x a zero is = inl (omega arith, is)
push-cases (y ∷ xs) x a (suc i) is = elim (push-cases xs x a i is) [
  | inl p ↦ let less = p.0 in inl (omega arith, p.1)
  | inr p ↦ let same = p.0 in inr (omega arith, p.1)
]

pub push-last : {X : Type 0} (xs : List X) (x : X) → slice_get (xs ++ x ∷ []) (length xs) ≡ Some x
push-last [] x = refl
push-last (y ∷ xs) x = push-last xs x

pub push-front : {X : Type 0} (xs : List X) (x a : X) (i : ℕ) → slice_get xs i ≡ Some a → slice_get (xs ++ x ∷ []) i ≡ Some a
push-front xs x a i is = slice_get-front xs (x ∷ []) i a is

-- ---- the functions whose calls are being looked at

pub stack-none : (R : ℕ → ℕ → Type 0) (marks : List Mark) → ((k : ℕ) → slice_get marks k ≡ Some Open → ⊥) → IsStack R marks []
stack-none R marks none = record {
  leads = λ i j k l less here there. absurd cc;
  opened = λ k is. absurd (none k is);
}

-- a function that is opens calls back to itself, where the last of the functions calls it
pub stack-back : (R : ℕ → ℕ → Type 0) (marks : List Mark) (stack : List ℕ) (k : ℕ) → IsStack R marks stack → LastCalls R stack k
    → slice_get marks k ≡ Some Open → HasChain R k k
stack-back R marks stack k s (inl empty) opens =
    let found = s.opened k opens in
    let gone : slice_get [] found.0 ≡ Some k = ap (λ xs. slice_get xs found.0) (sym empty) ∙ found.1 in
    absurd cc
stack-back R marks stack k s (inr (before, (last, (is, calls)))) opens =
    let found = s.opened k opens in
    by_cases before last found.0 is calls (push-cases before last k found.0 (ap (λ xs. slice_get xs found.0) (sym is) ∙ found.1)) found.1
  where
    by_cases : (before : List ℕ) (last i : ℕ) → stack ≡ before ++ last ∷ [] → R last k
        → ((i < length before) × (slice_get before i ≡ Some k)) ⊎ ((i ≡ length before) × (k ≡ last)) → slice_get stack i ≡ Some k
        → HasChain R k k
    by_cases before last i is calls (inl p) here =
        leads-more R k last k (s.leads i (length before) k last p.0 here
        (ap (λ xs. slice_get xs (length before)) is ∙ push-last before last)) calls
    by_cases before last i is calls (inr p) here = leads-one R k k (subst (λ m. R m k) (sym p.1) calls)

-- one function more
pub stack-more : (R : ℕ → ℕ → Type 0) (marks new : List Mark) (stack : List ℕ) (k : ℕ) → IsStack R marks stack → LastCalls R stack k
    → ((m : ℕ) → slice_get new m ≡ Some Open → (slice_get marks m ≡ Some Open) ⊎ (m ≡ k)) → IsStack R new (stack ++ k ∷ [])
stack-more R marks new stack k s last marked = record {
  leads = λ i j a b less here there. lead i j a b less (push-cases stack k a i here) (push-cases stack k b j there);
  opened = λ m opens. ⊎_elim
      (λ before. let found = s.opened m before in (found.0, push-front stack k m found.0 found.1))
      (λ same. (length stack, subst (λ x. slice_get (stack ++ k ∷ []) (length stack) ≡ Some x) (sym same) (push-last stack k)))
      (marked m opens);
}
  where
    to_last : (a i : ℕ) → slice_get stack i ≡ Some a → LastCalls R stack k → HasChain R a k
    to_last a i here (inl empty) =
        let gone : slice_get [] i ≡ Some a = ap (λ xs. slice_get xs i) (sym empty) ∙ here in absurd cc
    to_last a i here (inr (before, (top, (is, calls)))) =
        ⊎_elim
        (λ p. leads-more R a top k (s.leads i (length before) a top p.0 here
        (ap (λ xs. slice_get xs (length before)) is ∙ push-last before top)) calls)
        (λ p. leads-one R a k (subst (λ m. R m k) (sym p.1) calls))
        (push-cases before top a i (ap (λ xs. slice_get xs i) (sym is) ∙ here))

    lead : (i j a b : ℕ) → i < j → ((i < length stack) × (slice_get stack i ≡ Some a)) ⊎ ((i ≡ length stack) × (a ≡ k))
        → ((j < length stack) × (slice_get stack j ≡ Some b)) ⊎ ((j ≡ length stack) × (b ≡ k)) → HasChain R a b
    lead i j a b less (inl p) (inl q) = s.leads i j a b less p.1 q.1
    lead i j a b less (inl p) (inr q) = subst (HasChain R a) (sym q.1) (to_last a i p.1 last)
    lead i j a b less (inr p) (inl q) = let x = p.0 in let y = q.0 in absurd (omega arith)
    lead i j a b less (inr p) (inr q) = let x = p.0 in let y = q.0 in absurd (omega arith)

-- the last function less, which isn't opens any more
pub stack-less : (R : ℕ → ℕ → Type 0) (marks new : List Mark) (stack : List ℕ) (k : ℕ) → IsStack R marks (stack ++ k ∷ [])
    → ((m : ℕ) → slice_get new m ≡ Some Open → (slice_get marks m ≡ Some Open) × (m ≡ k → ⊥)) → IsStack R new stack
stack-less R marks new stack k s marked = record {
  leads = λ i j a b less here there. s.leads i j a b less (push-front stack k a i here) (push-front stack k b j there);
  opened = λ m opens.
      let still = marked m opens in
      let found = s.opened m still.0 in
      ⊎_elim (λ p. (found.0, p.1)) (λ p. absurd (still.1 p.1)) (push-cases stack k m found.0 found.1);
}

-- ---- the same of visits

-- an element of a list with one set is one of the list, or the one that was set
pub set-cases : {X : Type 0} (xs : List X) (k m : ℕ) (x a : X) → slice_get (slice_set xs k x) m ≡ Some a
    → (slice_get xs m ≡ Some a) ⊎ ((m ≡ k) × (a ≡ x))
set-cases [] k m x a is = inl is
set-cases (y ∷ ys) zero zero x a is = inr (refl, cc)
set-cases (y ∷ ys) zero (suc m) x a is = inl is
set-cases (y ∷ ys) (suc k) zero x a is = inl is
set-cases (y ∷ ys) (suc k) (suc m) x a is = ⊎_elim (λ p. inl p) (λ p. inr (ap suc p.0, p.1)) (set-cases ys k m x a is)

functions-more : (visits new : List Visit) (v : Visit) → new ≡ visits ++ v ∷ [] → functions_of new ≡ functions_of visits ++ v.function ∷ []
functions-more visits new v is = ap functions_of is ∙ map-append (λ (x : Visit). x.function) visits (v ∷ [])

pub stack-begun : (R : ℕ → ℕ → Type 0) (marks : List Mark) (visits new : List Visit) (v : Visit) → IsStack R marks (functions_of visits)
    → LastCalls R (functions_of visits) v.function → new ≡ visits ++ v ∷ []
    → IsStack R (slice_set marks v.function Open) (functions_of new)
stack-begun R marks visits new v s last is =
    subst (IsStack R (slice_set marks v.function Open)) (sym (functions-more visits new v is))
    (stack-more R marks (slice_set marks v.function Open) (functions_of visits) v.function s last
    (λ m opens. ⊎_elim (λ p. inl p) (λ p. inr p.0) (set-cases marks v.function m Open Open opens)))

pub stack-popped : (R : ℕ → ℕ → Type 0) (marks : List Mark) (visits new : List Visit) (v : Visit) → IsStack R marks (functions_of visits)
    → visits ≡ new ++ v ∷ [] → IsStack R marks (functions_of new ++ v.function ∷ [])
stack-popped R marks visits new v s is = subst (IsStack R marks) (functions-more new visits v is) s

pub none-pushed : (marks : List Mark) (x : Mark) → ((k : ℕ) → slice_get marks k ≡ Some Open → ⊥) → (x ≡ Open → ⊥) → (k : ℕ)
    → slice_get (marks ++ x ∷ []) k ≡ Some Open → ⊥
none-pushed marks x none other k is = ⊎_elim (λ p. none k p.1) (λ p. other (sym p.1)) (push-cases marks x Open k is)
