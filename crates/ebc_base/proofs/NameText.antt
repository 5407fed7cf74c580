-- A name is ASCII.
use Rattle.std.proofs.Common.{◌≡◌, ℕ, zero, suc, ◌<◌, ◌≤◌, List, [], ◌∷◌, length, true, arith, lit<}
use Rattle.std.proofs.lemmas.Bool.Decides.{nat_tests}
use Rattle.std.specs.Prelude.{◌&&◌, nat_le}
use Rattle.std.specs.List.{list_all}
use Rattle.std.specs.Str.{IsAscii, IsUtf8}
use Rattle.std.proofs.lemmas.Str.{IsUtf8-from_ascii}
use Rattle.ebc_base.specs.Names.{begins_name, continues_name, is_name}
use Rattle.ebc_base.proofs.Truth.{second_true, first_true}

continues-ascii : (b : ℕ) → continues_name b ≡ true → b < 128
continues-ascii b h = grind (arith, nat_tests, h)

begins-ascii : (b : ℕ) → begins_name b ≡ true → b < 128
begins-ascii b h = grind (arith, nat_tests, h)

all-ascii : (bs : List ℕ) → list_all continues_name bs ≡ true → IsAscii bs
all-ascii [] h i = lit< tt
all-ascii (b ∷ bs) h zero = continues-ascii b (first_true _ _ h)
all-ascii (b ∷ bs) h (suc i) = all-ascii bs (second_true _ _ h) i

-- so it is UTF-8
pub name_utf8 : (bs : List ℕ) → is_name bs ≡ true → IsUtf8 bs
unfolding is_name
name_utf8 [] h = cc h
name_utf8 (b ∷ bs) h = IsUtf8-from_ascii _ (go)
  where
    go : IsAscii (b ∷ bs)
    go zero = begins-ascii b (first_true _ _ h)
    go (suc i) = all-ascii bs (second_true _ _ (second_true _ _ h)) i

-- it has 1 to 63 bytes
pub name_len : (bs : List ℕ) → is_name bs ≡ true → (1 ≤ length bs) × (length bs ≤ 63)
unfolding is_name
name_len [] h = cc h
name_len (b ∷ bs) h =
    let few : nat_le (length bs) 62 ≡ true = first_true (nat_le (length bs) 62) (list_all continues_name bs)
    (second_true (begins_name b) (nat_le (length bs) 62 && list_all continues_name bs) h) in
    (omega arith, grind (arith, nat_tests, few))
