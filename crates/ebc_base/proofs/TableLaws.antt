-- The texts of a table, as names.
use Rattle.std.proofs.Common.{◌≡◌, ℕ, ◌+◌, List, [], ◌∷◌, ◌++◌, length, map, cond, true, false, Bool, String, Global, string_bytes, refl}
use Rattle.std.proofs.Common.{ap, sym, ◌∙◌, arith}
use Rattle.std.proofs.lemmas.Bool.Decides.{nat_tests}
use Rattle.std.proofs.lemmas.List.{map-append}
use Rattle.std.proofs.lemmas.List.Sums.{prefix_len-le-length}
use Rattle.std.proofs.lemmas.Option.{same_Some, none-some}
use Rattle.std.specs.Prelude.{bytes_eq, not, None, Some}
use Rattle.std.specs.String.{string_eq}
use Rattle.std.specs.List.{list_any, position, position_or_len}
use Rattle.indexmap.specs.IndexSet.{insert_key}
use Rattle.ebc_base.specs.Tables.{with_name}
use Rattle.std.proofs.lemmas.Slice.Eq.{bytes_eq-Decides}

-- a test passes at one of the images where it does so at what they are images of
pub list_any-map : {A B : Type 0} (p : B → Bool) (v : A → B) (xs : List A) → list_any (λ x. p (v x)) xs ≡ list_any p (map v xs)
list_any-map p v [] = refl
list_any-map p v (x ∷ xs) = rw (list_any-map p v xs)

-- and first at the same place
pub position_or_len-map : {A B : Type 0} (p : B → Bool) (v : A → B) (xs : List A)
    → position_or_len (λ x. p (v x)) xs ≡ position_or_len p (map v xs)
position_or_len-map p v [] = refl
position_or_len-map p v (x ∷ xs) = ap (λ i. cond (not (p (v x))) (1 + i) 0) (position_or_len-map p v xs)

by_test : (b : Bool) (k : String Global) (ks : List (String Global))
    → map string_bytes (cond b ks (ks ++ k ∷ [])) ≡ cond b (map string_bytes ks) (map string_bytes ks ++ string_bytes k ∷ [])
by_test true k ks = refl
by_test false k ks = map-append string_bytes ks (k ∷ [])

-- the names after a text is inserted
pub names-insert_key : (k : String Global) (ks : List (String Global))
    → map string_bytes (insert_key string_eq ks k) ≡ with_name (string_bytes k) (map string_bytes ks)
names-insert_key k ks = by_test (list_any (string_eq k) ks) k ks ∙ rw (list_any-map (bytes_eq (string_bytes k)) string_bytes ks)

found : (b : Bool) (p i : ℕ) → cond b (Some p) None ≡ Some i → i ≡ p
found true p i e = sym (same_Some _ _ e)
found false p i e = absurd (none-some i e)

missing : (b : Bool) (p : ℕ) → cond b (Some p) None ≡ None → b ≡ false
missing true p e = absurd (none-some p (sym e))
missing false p e = refl

-- the index that a search finds is the first place that passes
pub position_or_len-found : {A : Type 0} (p : A → Bool) (xs : List A) (i : ℕ) → position p xs ≡ Some i → i ≡ position_or_len p xs
position_or_len-found p xs i e = found _ _ i e

-- where it finds none, that is the length
pub position_or_len-missing : {A : Type 0} (p : A → Bool) (xs : List A) → position p xs ≡ None → length xs ≡ position_or_len p xs
position_or_len-missing p xs e =
    let q = missing _ _ e in
    let le = prefix_len-le-length (λ x. not (p x)) xs in
    grind (arith, nat_tests, le)

pub same_name : (n x : List ℕ) → bytes_eq n x ≡ true → n ≡ x
same_name n x h = (bytes_eq-Decides n x).0 h
