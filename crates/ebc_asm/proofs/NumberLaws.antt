-- Names, their numbers and their places.
use Rattle.std.proofs.Common.{◌≡◌, ℕ, suc, ◌+◌, ◌<◌, List, [], ◌∷◌, ◌++◌, length, Bool, true, false, not, cond, eqb, refl, arith, ◌∙◌}
use Rattle.std.proofs.lemmas.Bool.Decides.{nat_tests}
use Rattle.std.proofs.lemmas.List.{length-append}
use Rattle.std.proofs.lemmas.List.Folds.{position_or_len_push}
use Rattle.std.specs.Prelude.{bytes_eq, ◌||◌}
use Rattle.std.specs.List.{list_any, position_or_len}
use Rattle.ebc_base.specs.Tables.{is_named, name_number, with_name}
use Rattle.ebc_asm.specs.declared.names.Standing.{Standing}
use Rattle.ebc_asm.specs.Held.{and_place, nowhere, number_of}
use Rattle.ebc_base.proofs.Lists.{found_within}
use Rattle.std.proofs.lemmas.Bool.{or_right}

pub same_bytes : (xs : List ℕ) → bytes_eq xs xs ≡ true
same_bytes [] = refl
same_bytes (x ∷ xs) = let rest = same_bytes xs in grind (arith, nat_tests, rest)

any_last : {A : Type 0} (p : A → Bool) (xs : List A) (y : A) → p y ≡ true → list_any p (xs ++ y ∷ []) ≡ true
any_last p [] y h = rw h refl
any_last p (x ∷ xs) y h = or_right (p x) (list_any p (xs ++ y ∷ [])) (any_last p xs y h)

pub is_there : (name : List ℕ) (names : List (List ℕ)) → is_named name (with_name name names) ≡ true
is_there name names = go (is_named name names) refl
  where
    go : (b : Bool) → is_named name names ≡ b → is_named name (cond b names (names ++ name ∷ [])) ≡ true
    go true h = h
    go false h = any_last (bytes_eq name) names name (same_bytes name)

beside : (b : Bool) (name : List ℕ) (names : List (List ℕ)) (places : List Standing) → length places ≡ length names
    → length (cond b places (places ++ nowhere ∷ [])) ≡ length (cond b names (names ++ name ∷ []))
beside true name names places h = h
beside false name names places h =
    let a = length-append places (nowhere ∷ []) in
    let b = length-append names (name ∷ []) in
    omega (arith, a, b, h)

-- the number of a name is that of a place
pub number_within : (name : List ℕ) (names : List (List ℕ)) (places : List Standing) → length places ≡ length names
    → number_of name names < length (and_place name names places)
number_within name names places h =
    let within = found_within (bytes_eq name) (with_name name names) (is_there name names) in
    let same = beside (is_named name names) name names places h in
    omega (arith, within, same)

any_by : (b r : Bool) (n m : ℕ) → (n < m → r ≡ true) → cond (not b) (1 + n) 0 < suc m → (b || r) ≡ true
any_by true r n m h l = refl
any_by false r n m h l = let less : n < m = omega (arith, l) in h less

any_within : {A : Type 0} (p : A → Bool) (xs : List A) → position_or_len p xs < length xs → list_any p xs ≡ true
any_within p [] l = absurd (omega (arith, l))
any_within p (x ∷ xs) l = any_by (p x) (list_any p xs) (position_or_len p xs) (length xs) (any_within p xs) l

-- a number below the count is that of a name that is there
pub known_name : (name : List ℕ) (names : List (List ℕ)) → name_number name names < length names → is_named name names ≡ true
known_name name names l = any_within (bytes_eq name) names l

-- a name that is added has the number that it had where it was missing
pub same_number : (name : List ℕ) (names : List (List ℕ)) → number_of name names ≡ name_number name names
same_number name names = go (is_named name names) refl
  where
    go : (b : Bool) → is_named name names ≡ b → name_number name (cond b names (names ++ name ∷ [])) ≡ name_number name names
    go true h = refl
    go false h = position_or_len_push (bytes_eq name) names name ∙ rw (same_bytes name) last
      where
        last : cond (eqb (name_number name names) (length names)) (length names + 0) (name_number name names) ≡ name_number name names
        last = grind (arith, nat_tests)
