-- The places of names: one that is replaced by the number of its name, as a function of names.
use Rattle.std.proofs.Common.{◌≡◌, ℕ, suc, ◌+◌, List, [], ◌∷◌, ◌++◌, map, set, get_or, Option, Some, None, Bool, true, false, cond, refl}
use Rattle.std.proofs.Common.{sym, ap, ◌∙◌, arith}
use Rattle.std.proofs.lemmas.List.{map-append}
use Rattle.std.proofs.lemmas.List.Folds.{list_any-append}
use Rattle.std.specs.Prelude.{bytes_eq, not, ◌||◌}
use Rattle.ebc_base.specs.Tables.{is_named, name_number, with_name}
use Rattle.asm_text.specs.Lines.{Line}
use Rattle.ebc_asm.specs.declared.names.Standing.{Standing}
use Rattle.ebc_asm.specs.Held.{and_place, nowhere, replaced, standing_of}
use Rattle.ebc_asm.specs.Pieces.{use_of}
use Rattle.ebc_asm.specs.Symbols.{and_name, and_names, global_of, used_name}
use Rattle.ebc_asm.proofs.NumberLaws.{is_there, same_bytes}
use Rattle.ebc_asm.proofs.StateLaws.{Apart, map_same}
use Rattle.ebc_base.proofs.TableLaws.{same_name}
use Rattle.std.proofs.lemmas.Bool.{or_parts}

-- ---- names apart

pub other_way : (n x : List ℕ) (b : Bool) → bytes_eq x n ≡ b → bytes_eq n x ≡ false → b ≡ false
other_way n x true e h =
    let is : x ≡ n = same_name x n e in
    let t : bytes_eq n x ≡ true = rw is (same_bytes n) in
    cc (t, h)
other_way n x false e h = refl

none_last : (n x : List ℕ) (xs : List (List ℕ)) → is_named x xs ≡ false → bytes_eq n x ≡ false → is_named x (xs ++ n ∷ []) ≡ false
none_last n x xs h d = rw (list_any-append (bytes_eq x) xs (n ∷ []), h, other_way n x (bytes_eq x n) refl d) refl

apart_last : (n : List ℕ) (ns : List (List ℕ)) → Apart ns → is_named n ns ≡ false → Apart (ns ++ n ∷ [])
apart_last n [] h new = (refl, tt)
apart_last n (x ∷ xs) h new =
    let p = or_parts (bytes_eq n x) (is_named n xs) new in
    (none_last n x xs h.0 p.0, apart_last n xs h.1 p.1)

apart_or_not : (n : List ℕ) (ns : List (List ℕ)) (b : Bool) → is_named n ns ≡ b → Apart ns → Apart (cond b ns (ns ++ n ∷ []))
apart_or_not n ns true e h = h
apart_or_not n ns false e h = apart_last n ns h e

-- names stay apart as one is added
pub apart_with : (n : List ℕ) (ns : List (List ℕ)) → Apart ns → Apart (with_name n ns)
apart_with n ns h = apart_or_not n ns (is_named n ns) refl h

pub apart_name : (o : Option (List ℕ)) (ns : List (List ℕ)) → Apart ns → Apart (and_name o ns)
apart_name None ns h = h
apart_name (Some n) ns h = apart_with n ns h

-- and as those of a line are added
pub apart_names : (l : Line) (ns : List (List ℕ)) → Apart ns → Apart (and_names l ns)
apart_names l ns h = apart_name (used_name (use_of l.statement)) (and_name (global_of l.statement) (and_name l.label ns))
    (apart_name (global_of l.statement) (and_name l.label ns) (apart_name l.label ns h))

-- ---- one place by the number of its name

set_next : {A : Type 0} (y : A) (ys : List A) (k : ℕ) (v : A) → set (y ∷ ys) (1 + k) v ≡ y ∷ set ys k v
set_next y ys k v = let e : 1 + k ≡ suc k = omega arith in rw e refl

set_one : {A : Type 0} (f g : List ℕ → A) (n x : List ℕ) (xs : List (List ℕ)) (b : Bool) → bytes_eq n x ≡ b → is_named x xs ≡ false
    → ((m : List ℕ) → bytes_eq n m ≡ false → f m ≡ g m)
    → (b ≡ false → set (map f xs) (name_number n xs) (g n) ≡ map g xs)
    → set (f x ∷ map f xs) (cond (not b) (1 + name_number n xs) 0) (g n) ≡ g x ∷ map g xs
set_one f g n x xs true e apart same rest =
    let is : n ≡ x = same_name n x e in
    let none : is_named n xs ≡ false = rw is apart in
    let tail : map f xs ≡ map g xs = map_same f g (bytes_eq n) xs none same in
    rw tail (ap (λ m. g m ∷ map g xs) is)
set_one f g n x xs false e apart same rest =
    set_next (f x) (map f xs) (name_number n xs) (g n) ∙ ap (λ t. f x ∷ t) (rest refl) ∙ ap (λ y. y ∷ map g xs) (same x e)

second : (a b : Bool) → (a || b) ≡ true → a ≡ false → b ≡ true
second true b h n = cc n
second false b h n = h

-- what is put at the number of a name changes it alone
pub set_name : {A : Type 0} (f g : List ℕ → A) (n : List ℕ) (ns : List (List ℕ)) → Apart ns → is_named n ns ≡ true
    → ((m : List ℕ) → bytes_eq n m ≡ false → f m ≡ g m)
    → set (map f ns) (name_number n ns) (g n) ≡ map g ns
set_name f g n [] apart there same = cc there
set_name f g n (x ∷ xs) apart there same = set_one f g n x xs (bytes_eq n x) refl apart.0 same
    (λ e. set_name f g n xs apart.1 (second (bytes_eq n x) (is_named n xs) there e) same)

get_next : {A : Type 0} (y : A) (ys : List A) (k : ℕ) (d : A) → get_or (y ∷ ys) (1 + k) d ≡ get_or ys k d
get_next y ys k d = let e : 1 + k ≡ suc k = omega arith in rw e refl

get_one : {A : Type 0} (f : List ℕ → A) (d : A) (n x : List ℕ) (xs : List (List ℕ)) (b : Bool) → bytes_eq n x ≡ b
    → (b ≡ false → get_or (map f xs) (name_number n xs) d ≡ f n)
    → get_or (f x ∷ map f xs) (cond (not b) (1 + name_number n xs) 0) d ≡ f n
get_one f d n x xs true e rest = ap f (sym (same_name n x e))
get_one f d n x xs false e rest = get_next (f x) (map f xs) (name_number n xs) d ∙ rest refl

-- what stands at the number of a name is that of the name
pub get_name : {A : Type 0} (f : List ℕ → A) (d : A) (n : List ℕ) (ns : List (List ℕ)) → is_named n ns ≡ true
    → get_or (map f ns) (name_number n ns) d ≡ f n
get_name f d n [] there = cc there
get_name f d n (x ∷ xs) there = get_one f d n x xs (bytes_eq n x) refl
    (λ e. get_name f d n xs (second (bytes_eq n x) (is_named n xs) there e))

-- ---- places of names

place_or_not : (f : List ℕ → Standing) (n : List ℕ) (ns : List (List ℕ)) (b : Bool) → (b ≡ false → f n ≡ nowhere)
    → cond b (map f ns) (map f ns ++ nowhere ∷ []) ≡ map f (cond b ns (ns ++ n ∷ []))
place_or_not f n ns true new = refl
place_or_not f n ns false new = ap (λ p. map f ns ++ p ∷ []) (sym (new refl)) ∙ sym (map-append f ns (n ∷ []))

-- a name is added that stands nowhere yet, unless it is there
pub places_with : (f : List ℕ → Standing) (n : List ℕ) (ns : List (List ℕ)) → (is_named n ns ≡ false → f n ≡ nowhere)
    → and_place n ns (map f ns) ≡ map f (with_name n ns)
places_with f n ns new = place_or_not f n ns (is_named n ns) new

-- where it stands
pub standing_is : (f : List ℕ → Standing) (n : List ℕ) (ns : List (List ℕ)) → (is_named n ns ≡ false → f n ≡ nowhere)
    → standing_of n ns (map f ns) ≡ f n
standing_is f n ns new = rw (places_with f n ns new) (get_name f nowhere n (with_name n ns) (is_there n ns))

-- it gets another place, and all others keep theirs
pub replaced_is : (f g : List ℕ → Standing) (n : List ℕ) (ns : List (List ℕ)) → Apart ns → (is_named n ns ≡ false → f n ≡ nowhere)
    → ((m : List ℕ) → bytes_eq n m ≡ false → f m ≡ g m)
    → replaced n ns (map f ns) (g n) ≡ map g (with_name n ns)
replaced_is f g n ns apart new same = rw (places_with f n ns new)
    (set_name f g n (with_name n ns) (apart_with n ns apart) (is_there n ns) same)
