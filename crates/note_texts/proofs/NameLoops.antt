-- Names that are read one after the other, as a loop does.
use Rattle.std.proofs.Common.{◌≡◌, ℕ, ◌+◌, ◌≤◌, ◌<◌, List, [], ◌∷◌, ◌++◌, length, get_or, drop, map, Option, Some, None, Bor, option_map}
use Rattle.std.proofs.Common.{refl, sym, ap, ◌∙◌, append_assoc, arith}
use Rattle.std.proofs.lemmas.Grind.{common_steps}
use Rattle.std.proofs.lemmas.List.{append-nil, drop_more}
use Rattle.note_texts.specs.Names.{names_of}
use Rattle.ebc_base.specs.Names.{name_of}

abbrev pub texts_now : List (Bor (List ℕ)) → List (List ℕ)
texts_now texts = map (λ text. text.now) texts

-- the names that were read before, and those that are still read
abbrev pub with_front : List (List ℕ) → Option (List (List ℕ)) → Option (List (List ℕ))
with_front front read = option_map (λ names. front ++ names) read

regroup : (front : List (List ℕ)) (name : List ℕ) (read : Option (List (List ℕ)))
    → with_front front (option_map (λ names. name ∷ names) read) ≡ with_front (front ++ name ∷ []) read
regroup front name (Some names) = ap Some (simp append_assoc)
regroup front name None = refl

pub names_go_on : (front : List (List ℕ)) (i : ℕ) (texts : List (Bor (List ℕ))) (d : Bor (List ℕ)) (name : List ℕ)
    (total : Option (List (List ℕ))) → i < length texts → name_of (get_or texts i d).now ≡ Some name
    → with_front front (names_of (texts_now (drop i texts))) ≡ total
    → with_front (front ++ name ∷ []) (names_of (texts_now (drop (i + 1) texts))) ≡ total
unfolding names_of
names_go_on front i texts d name total within found so_far =
    let one : with_front front (names_of (texts_now (drop i texts))) ≡ with_front (front ++ name ∷ [])
    (names_of (texts_now (drop (i + 1) texts)))
    = rw (drop_more texts i d within, found) (regroup front name (names_of (texts_now (drop (i + 1) texts)))) in
    sym one ∙ so_far

pub names_stop : (front : List (List ℕ)) (i : ℕ) (texts : List (Bor (List ℕ))) (d : Bor (List ℕ)) (total : Option (List (List ℕ)))
    → i < length texts → name_of (get_or texts i d).now ≡ None
    → with_front front (names_of (texts_now (drop i texts))) ≡ total → None ≡ total
unfolding names_of
names_stop front i texts d total within found so_far =
    let one : with_front front (names_of (texts_now (drop i texts))) ≡ None
    = rw (drop_more texts i d within, found) refl in
    sym one ∙ so_far

pub names_done : (front : List (List ℕ)) (i : ℕ) (texts : List (Bor (List ℕ))) (total : Option (List (List ℕ))) → length texts ≤ i
    → with_front front (names_of (texts_now (drop i texts))) ≡ total → Some front ≡ total
unfolding names_of
names_done front i texts total past so_far =
    let none : drop i texts ≡ [] = grind (arith, common_steps) in
    let one : with_front front (names_of (texts_now (drop i texts))) ≡ Some front = rw none (ap Some (append-nil front)) in
    sym one ∙ so_far
