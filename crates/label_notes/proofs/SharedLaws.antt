-- The names that several labels have, one label more.
use Rattle.std.proofs.Common.{◌≡◌, ℕ, ◌+◌, List, [], ◌∷◌, ◌++◌, Bool, true, false, cond, refl, sym, ap, ◌∙◌, arith}
use Rattle.std.specs.Prelude.{bytes_eq, nat_lt, ◌||◌}
use Rattle.std.specs.List.{count_by}
use Rattle.std.proofs.lemmas.Bool.Decides.{nat_tests}
use Rattle.std.proofs.lemmas.List.Folds.{list_any-append}
use Rattle.std.proofs.lemmas.List.Sums.{sum_by-append}
use Rattle.ebc_base.proofs.TableLaws.{same_name}
use Rattle.ebc_base.specs.Tables.{is_named, with_name}
use Rattle.label_places.specs.declared.label.Label.{Label}
use Rattle.label_notes.specs.Maps.{AreShared, has_name}
use Rattle.label_notes.specs.Steps.{shared_with}

-- the names of labels, and those that two of them have
pub record AreSoFar (labels : List Label) (all shared : List (List ℕ)) : Type 0 where
  pub names : (name : List ℕ) → is_named name all ≡ nat_lt 0 (count_by (has_name name) labels)
  pub again : (name : List ℕ) → is_named name shared ≡ nat_lt 1 (count_by (has_name name) labels)

pub so-far-none : AreSoFar [] [] []
so-far-none = record { names = λ name. refl; again = λ name. refl }

-- ---- one name more in a table

swapped : (a b : Bool) → (a || (b || false)) ≡ (b || a)
swapped true true = refl
swapped true false = refl
swapped false true = refl
swapped false false = refl

there : (k n : List ℕ) (ns : List (List ℕ)) (t : Bool) → bytes_eq k n ≡ t → is_named n ns ≡ true → is_named k ns ≡ (t || is_named k ns)
there k n ns true same is = ap (λ x. is_named x ns) (same_name k n same) ∙ is
there k n ns false same is = refl

named-with : (k n : List ℕ) (ns : List (List ℕ)) → is_named k (with_name n ns) ≡ (bytes_eq k n || is_named k ns)
named-with k n ns = go (is_named n ns) refl
  where
    go : (b : Bool) → is_named n ns ≡ b → is_named k (cond b ns (ns ++ n ∷ [])) ≡ (bytes_eq k n || is_named k ns)
    go true is = there k n ns (bytes_eq k n) refl is
    go false is = list_any-append (bytes_eq k) ns (n ∷ []) ∙ swapped (is_named k ns) (bytes_eq k n)

named-again : (k n : List ℕ) (ns : List (List ℕ)) (b : Bool)
    → is_named k (cond b (with_name n ns) ns) ≡ cond b (bytes_eq k n || is_named k ns) (is_named k ns)
named-again k n ns true = named-with k n ns
named-again k n ns false = refl

-- ---- one label more

count-more : (name : List ℕ) (labels : List Label) (l : Label)
    → count_by (has_name name) (labels ++ l ∷ []) ≡ count_by (has_name name) labels + cond (bytes_eq name l.name) 1 0
count-more name labels l =
    let both = sum_by-append (λ (k : Label). cond (has_name name k) 1 0) labels (l ∷ []) in omega (arith, both)

one-more : (t b : Bool) (c : ℕ) → b ≡ nat_lt 0 c → (t || b) ≡ nat_lt 0 (c + cond t 1 0)
one-more true b c e = grind (arith, nat_tests)
one-more false b c e = e ∙ ap (nat_lt 0) (omega arith)

two-more : (t before b : Bool) (c : ℕ) → b ≡ nat_lt 1 c → (t ≡ true → before ≡ nat_lt 0 c)
    → cond before (t || b) b ≡ nat_lt 1 (c + cond t 1 0)
two-more true true b c e named = let some = named refl in grind (arith, nat_tests, some)
two-more true false b c e named = let none = named refl in grind (arith, nat_tests, none, e)
two-more false true b c e named = e ∙ ap (nat_lt 1) (omega arith)
two-more false false b c e named = e ∙ ap (nat_lt 1) (omega arith)

pub so-far-more : (labels : List Label) (l : Label) (all shared more again : List (List ℕ)) → AreSoFar labels all shared
    → more ≡ with_name l.name all → again ≡ shared_with l.name all shared → AreSoFar (labels ++ l ∷ []) more again
so-far-more labels l all shared more again so_far put put_again = record {
  names = λ name. ap (is_named name) put
      ∙ (named-with name l.name all
      ∙ (one-more (bytes_eq name l.name) (is_named name all) (count_by (has_name name) labels) (so_far.names name)
      ∙ ap (nat_lt 0) (sym (count-more name labels l))));
  again = λ name. ap (is_named name) put_again
      ∙ (named-again name l.name shared (is_named l.name all)
      ∙ (two-more (bytes_eq name l.name) (is_named l.name all) (is_named name shared) (count_by (has_name name) labels)
      (so_far.again name) (λ same. ap (λ n. is_named n all) (sym (same_name name l.name same)) ∙ so_far.names name)
      ∙ ap (nat_lt 1) (sym (count-more name labels l))));
}

pub shared-all : (labels : List Label) (all shared : List (List ℕ)) → AreSoFar labels all shared → AreShared labels shared
shared-all labels all shared so_far = record { several = so_far.again }
