-- Objects and where they stand, by their numbers.
use Rattle.ebc_link.proofs.Common.{◌≡◌, ℕ, zero, suc, ◌+◌, ◌<◌, List, [], ◌∷◌, ◌++◌, length, get_or, map, take, drop, refl, sym, ap, ◌∙◌}
use Rattle.ebc_link.proofs.Common.{arith, drop_more, get_or-map, get_or_default, Object, Home, Laid, laid_with}
use Rattle.std.proofs.lemmas.List.{take_more}

-- ---- in any list

pub at_hand : {X : Type 0} → (xs : List X) (i : ℕ) (x : X) → i < length xs → x ≡ get_or xs i x → drop i xs ≡ x ∷ drop (i + 1) xs
at_hand xs i x within is = drop_more xs i x within ∙ ap (λ y. y ∷ drop (i + 1) xs) (sym is)

pub taken : {X : Type 0} → (xs : List X) (i : ℕ) (x : X) → i < length xs → x ≡ get_or xs i x → take (i + 1) xs ≡ take i xs ++ x ∷ []
taken xs i x within is = take_more xs i x within ∙ ap (λ y. take i xs ++ y ∷ []) (sym is)

-- ---- in objects and their homes

abbrev pub laid_at : Object → Home → Laid
laid_at o h = record { object = o; home = h }

pub length-laid : (os : List Object) (hs : List Home) → length hs ≡ length os → length (laid_with os hs) ≡ length os
length-laid [] hs e = refl
length-laid (o ∷ os) [] e = absurd (omega (arith, e))
length-laid (o ∷ os) (h ∷ hs) e = ap suc (length-laid os hs (omega (arith, e)))

get-laid : (os : List Object) (hs : List Home) (i : ℕ) (d : Laid) (o : Object) (h : Home) → i < length os → length hs ≡ length os
    → get_or (laid_with os hs) i d ≡ laid_at (get_or os i o) (get_or hs i h)
get-laid [] hs i d o h within e = absurd (omega arith)
get-laid (p ∷ os) [] i d o h within e = absurd (omega (arith, e))
get-laid (p ∷ os) (g ∷ hs) zero d o h within e = refl
get-laid (p ∷ os) (g ∷ hs) (suc i) d o h within e = get-laid os hs i d o h (omega (arith, within)) (omega (arith, e))

-- The object of a number, and its home.
pub record IsAt (os : List Object) (hs : List Home) (i : ℕ) (o : Object) (h : Home) : Type 0 where
  pub within : i < length os
  pub homes : length hs ≡ length os
  pub object : o ≡ get_or os i o
  pub home : h ≡ get_or hs i h

pub at_number : (os : List Object) (hs : List Home) (i : ℕ) (o : Object) (d : Home) → i < length os → length hs ≡ length os
    → o ≡ get_or os i o → IsAt os hs i o (get_or hs i d)
at_number os hs i o d within homes is =
    record {
      within = within;
      homes = homes;
      object = is;
      home = get_or_default hs i d (get_or hs i d) (omega (arith, within, homes));
    }

abbrev pub no_home : Home
no_home = record { code = 0; contents = 0 }

pub laid_within : (os : List Object) (hs : List Home) (i : ℕ) (o : Object) (h : Home) → IsAt os hs i o h → i < length (laid_with os hs)
laid_within os hs i o h at = omega (arith, at.within, length-laid os hs at.homes)

pub laid_is : (os : List Object) (hs : List Home) (i : ℕ) (o : Object) (h : Home) → IsAt os hs i o h
    → laid_at o h ≡ get_or (laid_with os hs) i (laid_at o h)
laid_is os hs i o h at =
    sym (get-laid os hs i (laid_at o h) o h at.within at.homes
    ∙ (ap (λ p. laid_at p (get_or hs i h)) (sym at.object) ∙ ap (laid_at o) (sym at.home)))

-- it is followed by those behind it
pub laid_more : (os : List Object) (hs : List Home) (i : ℕ) (o : Object) (h : Home) → IsAt os hs i o h
    → drop i (laid_with os hs) ≡ laid_at o h ∷ drop (i + 1) (laid_with os hs)
laid_more os hs i o h at = at_hand (laid_with os hs) i (laid_at o h) (laid_within os hs i o h at) (laid_is os hs i o h at)

pub laid_taken : (os : List Object) (hs : List Home) (i : ℕ) (o : Object) (h : Home) → IsAt os hs i o h
    → take (i + 1) (laid_with os hs) ≡ take i (laid_with os hs) ++ laid_at o h ∷ []
laid_taken os hs i o h at = taken (laid_with os hs) i (laid_at o h) (laid_within os hs i o h at) (laid_is os hs i o h at)

-- what the list of its number is, where lists are made of objects
pub made_at : {Y : Type 0} → (f : Laid → Y) (os : List Object) (hs : List Home) (ys : List Y) (i : ℕ) (o : Object) (h : Home) (y : Y)
    → IsAt os hs i o h → ys ≡ map f (laid_with os hs) → y ≡ get_or ys i y → y ≡ f (laid_at o h)
made_at f os hs ys i o h y at all is =
    is
    ∙ (ap (λ zs. get_or zs i y) all
    ∙ (get_or-map f (laid_with os hs) i (laid_at o h) y (laid_within os hs i o h at) ∙ ap f (sym (laid_is os hs i o h at))))
