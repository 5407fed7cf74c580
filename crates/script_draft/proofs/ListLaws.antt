-- What the items of a list give, one item more at a time, as a loop does.
use Rattle.script_draft.proofs.Common.{◌≡◌, ℕ, ◌+◌, ◌≤◌, ◌<◌, List, [], ◌∷◌, ◌++◌, length, get_or, drop, Option, Some, None, Result, Ok}
use Rattle.script_draft.proofs.Common.{Err, refl, sym, ap, ◌∙◌, option_map, arith, TomlFault, NotesEnd, all_of, all_pass}
use Rattle.std.proofs.{Common.append_assoc, lemmas.Grind.common_steps, lemmas.List.append-nil}
use Rattle.ebc_base.specs.Steps.{◌>>=◌}
use Rattle.note_texts.specs.Outcome.{Fails}
use Rattle.note_texts.proofs.Loop.{with_front}
use Rattle.script_draft.specs.Lists.{each_of}
use Rattle.note_types.specs.declared.fault.NotesEnd.TheVariants as ends

-- the items from number i on, of which there is one
pub from_item : {A : Type 0} (xs : List A) (i : ℕ) (x : A) → i < length xs → x ≡ get_or xs i x → drop i xs ≡ x ∷ drop (i + 1) xs
from_item xs i x lt same = grind (arith, common_steps)

pub none_left : {A : Type 0} (xs : List A) (i : ℕ) → length xs ≤ i → drop i xs ≡ []
none_left xs i past = grind (arith, common_steps)

-- ---- all_pass

module _ {A : Type 0} (check : ℕ → A → Result (Unit {0}) TomlFault) (i : ℕ) (xs : List A) (total : Result (Unit {0}) TomlFault) where
  pub pass-on : (x : A) → i < length xs → x ≡ get_or xs i x → check i x ≡ Ok tt → all_pass check i (drop i xs) ≡ total
      → all_pass check (i + 1) (drop (i + 1) xs) ≡ total
  unfolding all_pass
  pass-on x lt same h so_far =
      let one : all_pass check i (drop i xs) ≡ all_pass check (i + 1) (drop (i + 1) xs) = rw (from_item xs i x lt same, h) refl in
      sym one ∙ so_far

  pub pass-stop : (e : NotesEnd) (x : A) → i < length xs → x ≡ get_or xs i x → Fails e (check i x) → all_pass check i (drop i xs) ≡ total
      → Fails e total
  unfolding all_pass
  pass-stop ends.NoMemory x lt same h so_far = tt
  pass-stop (ends.Fault f) x lt same h so_far =
      let one : all_pass check i (drop i xs) ≡ Err f = rw (from_item xs i x lt same, h) refl in
      sym so_far ∙ one

  pub pass-done : length xs ≤ i → all_pass check i (drop i xs) ≡ total → total ≡ Ok tt
  unfolding all_pass
  pass-done past so_far =
      let one : all_pass check i (drop i xs) ≡ Ok tt = rw (none_left xs i past) refl in
      sym so_far ∙ one

-- ---- all_of

-- what was given before, and what is still given
abbrev pub onto : {A : Type 0} → List A → Option (List A) → Option (List A)
onto front given = option_map (λ ys. front ++ ys) given

pub onto-none : {A : Type 0} (given : Option (List A)) → onto [] given ≡ given
onto-none None = refl
onto-none (Some ys) = refl

onto-one : {A : Type 0} (front : List A) (y : A) (given : Option (List A))
    → onto front (option_map (λ ys. y ∷ ys) given) ≡ onto (front ++ y ∷ []) given
onto-one front y None = refl
onto-one front y (Some ys) = ap Some (simp append_assoc)

module _ {A B : Type 0} (gives : A → Option B) (front : List B) (x : A) (xs : List A) (total : Option (List B)) where
  pub all-on : (y : B) → gives x ≡ Some y → onto front (all_of gives (x ∷ xs)) ≡ total → onto (front ++ y ∷ []) (all_of gives xs) ≡ total
  unfolding all_of
  all-on y h so_far =
      let one : onto front (all_of gives (x ∷ xs)) ≡ onto (front ++ y ∷ []) (all_of gives xs) = rw h (onto-one front y (all_of gives xs)) in
      sym one ∙ so_far

  pub all-stop : gives x ≡ None → onto front (all_of gives (x ∷ xs)) ≡ total → None ≡ total
  unfolding all_of
  all-stop h so_far =
      let one : onto front (all_of gives (x ∷ xs)) ≡ None = rw h refl in
      sym one ∙ so_far

pub all-done : {A B : Type 0} (gives : A → Option B) (front : List B) (total : Option (List B)) → onto front (all_of gives []) ≡ total
    → Some front ≡ total
unfolding all_of
all-done gives front total so_far =
    let one : onto front (all_of gives []) ≡ Some front = ap Some (append-nil front) in
    sym one ∙ so_far

-- ---- each_of

pub with_front-none : {A : Type 0} (given : Result (List A) TomlFault) → with_front [] given ≡ given
with_front-none (Ok ys) = refl
with_front-none (Err f) = refl

with_front-one : {A : Type 0} (front : List A) (y : A) (given : Result (List A) TomlFault)
    → with_front front (given >>= λ ys. Ok (y ∷ ys)) ≡ with_front (front ++ y ∷ []) given
with_front-one front y (Ok ys) = ap Ok (simp append_assoc)
with_front-one front y (Err f) = refl

module _ {A B : Type 0} (gives : ℕ → A → Result B TomlFault) (front : List B) (i : ℕ) (xs : List A)
    (total : Result (List B) TomlFault) where
  pub each-on : (x : A) (y : B) → i < length xs → x ≡ get_or xs i x → gives i x ≡ Ok y
      → with_front front (each_of gives i (drop i xs)) ≡ total
      → with_front (front ++ y ∷ []) (each_of gives (i + 1) (drop (i + 1) xs)) ≡ total
  unfolding each_of
  each-on x y lt same h so_far =
      let one : with_front front (each_of gives i (drop i xs)) ≡ with_front (front ++ y ∷ []) (each_of gives (i + 1) (drop (i + 1) xs))
      = rw (from_item xs i x lt same, h) (with_front-one front y (each_of gives (i + 1) (drop (i + 1) xs))) in
      sym one ∙ so_far

  pub each-stop : (e : NotesEnd) (x : A) → i < length xs → x ≡ get_or xs i x → Fails e (gives i x)
      → with_front front (each_of gives i (drop i xs)) ≡ total → Fails e total
  unfolding each_of
  each-stop ends.NoMemory x lt same h so_far = tt
  each-stop (ends.Fault f) x lt same h so_far =
      let one : with_front front (each_of gives i (drop i xs)) ≡ Err f = rw (from_item xs i x lt same, h) refl in
      sym so_far ∙ one

  pub each-done : length xs ≤ i → with_front front (each_of gives i (drop i xs)) ≡ total → total ≡ Ok front
  unfolding each_of
  each-done past so_far =
      let one : with_front front (each_of gives i (drop i xs)) ≡ Ok front = rw (none_left xs i past) (ap Ok (append-nil front)) in
      sym so_far ∙ one
