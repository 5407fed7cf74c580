-- The only position that is meant, one position more, and the only label of a name.
use Rattle.label_places.proofs.Common.{◌≡◌, ◌+◌, ◌<◌, true, false, cond, List, [], ◌∷◌, ◌++◌, length, get_or, take, drop, refl, sym, ap}
use Rattle.label_places.proofs.Common.{◌∙◌, append-nil, filter, map, ◌&&◌, filter-append, or_else, taken, Label, Position, Unknown}
use Rattle.label_places.proofs.Common.{AreByName, is_meant_in, only_in, the_only}
use Rattle.std.proofs.Common.{ℕ, Bool, Global, Option, Some, None, String, Vec}
use Rattle.std.proofs.lemmas.{Slice.Eq.bytes_eq-Decides, List.take-append-drop}
use Rattle.std.specs.{Prelude.bytes_eq, Prelude.Result, Prelude.Ok, Prelude.Err, BTreeMap.BTreeMap, BTreeMap.get_by_text}
use Rattle.std.specs.Option.{option_map_or}
use Rattle.ebc_link.proofs.LaidLaws.{at_hand}
use Rattle.label_places.specs.declared.seeking.NotFound.{NotFound, TheVariants.Several}
use Rattle.label_places.specs.{References.LabelReference, Sought.is_meant, Sought.only, Sought.position_of, Indexes.positions_of}
use Rattle.label_places.specs.Views.{meant_so_far}

first : (ls : List Position) (l : Position) → the_only ls ≡ Err Unknown → the_only (ls ++ l ∷ []) ≡ Ok l
first [] l none = refl
first (k ∷ []) l none = absurd cc
first (k ∷ j ∷ ls) l none = absurd cc

again : (ls : List Position) (l : Position) (more : List Position) (p : Position) → the_only ls ≡ Ok p
    → the_only (ls ++ l ∷ more) ≡ Err Several
again [] l more p one = absurd cc
again (k ∷ []) l more p one = refl
again (k ∷ j ∷ ls) l more p one = absurd cc

-- the first position that is meant
only-first : (meant : Position → Bool) (ps : List Position) (i : ℕ) (l : Position) → i < length ps → l ≡ get_or ps i l
    → meant l ≡ true → the_only (filter meant (take i ps)) ≡ Err Unknown → the_only (filter meant (take (i + 1) ps)) ≡ Ok l
only-first meant ps i l within is here none =
    ap (λ ls. the_only (filter meant ls)) (taken ps i l within is)
    ∙ (ap the_only (filter-append meant (take i ps) (l ∷ []))
    ∙ (ap (λ b. the_only (filter meant (take i ps) ++ cond b (l ∷ []) [])) here ∙ first (filter meant (take i ps)) l none))

-- a position that isn't meant
only-same : (meant : Position → Bool) (ps : List Position) (i : ℕ) (l : Position) (found : Result Position NotFound) → i < length ps
    → l ≡ get_or ps i l → meant l ≡ false → the_only (filter meant (take i ps)) ≡ found
    → the_only (filter meant (take (i + 1) ps)) ≡ found
only-same meant ps i l found within is other before =
    ap (λ ls. the_only (filter meant ls)) (taken ps i l within is)
    ∙ (ap the_only (filter-append meant (take i ps) (l ∷ []))
    ∙ (ap (λ b. the_only (filter meant (take i ps) ++ cond b (l ∷ []) [])) other
    ∙ (ap the_only (append-nil (filter meant (take i ps))) ∙ before)))

-- a second position that is meant
only-again : (meant : Position → Bool) (ps : List Position) (i : ℕ) (l : Position) (p : Position) → i < length ps
    → l ≡ get_or ps i l → meant l ≡ true → the_only (filter meant (take i ps)) ≡ Ok p → the_only (filter meant ps) ≡ Err Several
only-again meant ps i l p within is here one =
    let split : take i ps ++ (l ∷ drop (i + 1) ps) ≡ ps =
    ap (λ rest. take i ps ++ rest) (sym (at_hand ps i l within is)) ∙ take-append-drop i ps in
    ap (λ ls. the_only (filter meant ls)) (sym split)
    ∙ (ap the_only (filter-append meant (take i ps) (l ∷ drop (i + 1) ps))
    ∙ (ap (λ b. the_only (filter meant (take i ps) ++ cond b (l ∷ filter meant (drop (i + 1) ps)) (filter meant (drop (i + 1)
    ps)))) here
    ∙ again (filter meant (take i ps)) l (filter meant (drop (i + 1) ps)) p one))

-- one position more, as the search goes on
pub sought-more : (meant : Position → Bool) (ps : List Position) (i : ℕ) (l : Position) (b : Bool) (found new : Option Position)
    → i < length ps
    → l ≡ get_or ps i l → b ≡ meant l → the_only (filter meant (take i ps)) ≡ or_else Unknown found
    → Ok new ≡ meant_so_far found l b → the_only (filter meant (take (i + 1) ps)) ≡ or_else Unknown new
sought-more meant ps i l false found new within is test before step =
    let same : found ≡ new = cc in
    only-same meant ps i l (or_else Unknown new) within is (sym test) (before ∙ ap (or_else Unknown) same)
sought-more meant ps i l true None new within is test before step =
    let same : Some l ≡ new = cc in
    only-first meant ps i l within is (sym test) before ∙ ap (or_else Unknown) same
sought-more meant ps i l true (Some p) new within is test before step = absurd cc

-- and as it ends
pub sought-ends : (meant : Position → Bool) (ps : List Position) (i : ℕ) (l : Position) (b : Bool) (found : Option Position)
    (end : NotFound) → i < length ps → l ≡ get_or ps i l → b ≡ meant l → the_only (filter meant (take i ps)) ≡ or_else Unknown found
    → Err end ≡ meant_so_far found l b → Err end ≡ the_only (filter meant ps)
sought-ends meant ps i l false found end within is test before step = absurd cc
sought-ends meant ps i l true None end within is test before step = absurd cc
sought-ends meant ps i l true (Some p) end within is test before step =
    let same : end ≡ Several = cc in
    ap Err same ∙ sym (only-again meant ps i l p within is (sym test) before)

-- ---- the labels of a name

bytes_eq-flip : (xs ys : List ℕ) → bytes_eq xs ys ≡ bytes_eq ys xs
bytes_eq-flip xs ys = by_tests (bytes_eq xs ys) (bytes_eq ys xs) refl refl
  where
    by_tests : (a b : Bool) → bytes_eq xs ys ≡ a → bytes_eq ys xs ≡ b → a ≡ b
    by_tests true b here back =
        let same = (bytes_eq-Decides xs ys).0 here in sym ((bytes_eq-Decides ys xs).1 (sym same)) ∙ back
    by_tests false true here back =
        let same = (bytes_eq-Decides ys xs).0 back in sym here ∙ (bytes_eq-Decides xs ys).1 (sym same)
    by_tests false false here back = refl

module _ (meant : Position → Bool) where
  one_more : (b c : Bool) (l : Label) (ks ls : List Label) → meant l.position ≡ c
      → map (λ (k : Label). k.position) ks ≡ filter meant (map (λ (k : Label). k.position) ls)
      → map (λ (k : Label). k.position) (cond (b && c) (l ∷ ks) ks)
      ≡ filter meant (map (λ (k : Label). k.position) (cond b (l ∷ ls) ls))
  one_more true true l ks ls is same =
      let rest = filter meant (map (λ (k : Label). k.position) ls) in
      ap (λ ps. l.position ∷ ps) same ∙ ap (λ c. cond c (l.position ∷ rest) rest) (sym is)
  one_more true false l ks ls is same =
      let rest = filter meant (map (λ (k : Label). k.position) ls) in same ∙ ap (λ c. cond c (l.position ∷ rest) rest) (sym is)
  one_more false c l ks ls is same = same

  -- those of a name that are meant
  of_name : (name : List ℕ) (labels : List Label)
      → map (λ (l : Label). l.position) (filter (λ (l : Label). bytes_eq l.name name && meant l.position) labels)
      ≡ filter meant (positions_of name labels)
  of_name name [] = refl
  of_name name (l ∷ ls) =
      let P : List Label → List Position = map (λ (k : Label). k.position) in
      let rest = filter (λ (k : Label). bytes_eq name k.name) ls in
      one_more (bytes_eq l.name name) (meant l.position) l (filter (λ (k : Label). bytes_eq k.name name && meant k.position) ls) rest refl
      (of_name name ls)
      ∙ ap (λ b. filter meant (P (cond b (l ∷ rest) rest))) (bytes_eq-flip l.name name)

only-position : (ls : List Label) → only ls ≡ the_only (map (λ (l : Label). l.position) ls)
only-position [] = refl
only-position (l ∷ []) = refl
only-position (l ∷ k ∷ ls) = refl

-- the label that is meant is the only one of those of its name
pub position-of_name : (names : List (List ℕ)) (labels : List Label) (r : LabelReference)
    → position_of names labels r ≡ only_in names r.object (positions_of r.name labels)
unfolding position_of
position-of_name names labels r =
    only-position (filter (is_meant names r) labels) ∙ ap the_only (of_name (is_meant_in names r.object) r.name labels)

-- what a map finds by the name of a reference
pub found-by_name : (names : List (List ℕ)) (labels : List Label) (r : LabelReference)
    (index : BTreeMap (String Global) (Vec Position Global)) (g : Vec Position Global) → AreByName index labels
    → get_by_text index r.name ≡ Some g → only_in names r.object g.items ≡ position_of names labels r
found-by_name names labels r index g named there =
    let at : g.items ≡ positions_of r.name labels =
    ap (λ (o : Option (Vec Position Global)). option_map_or (λ (v : Vec Position Global). v.items) o []) (sym there) ∙ named r.name in
    ap (only_in names r.object) at ∙ sym (position-of_name names labels r)

pub missed-by_name : (names : List (List ℕ)) (labels : List Label) (r : LabelReference)
    (index : BTreeMap (String Global) (Vec Position Global)) → AreByName index labels
    → get_by_text index r.name ≡ None → Err Unknown ≡ position_of names labels r
missed-by_name names labels r index named none =
    let at : [] ≡ positions_of r.name labels =
    ap (λ (o : Option (Vec Position Global)). option_map_or (λ (v : Vec Position Global). v.items) o []) (sym none) ∙ named r.name in
    ap (only_in names r.object) at ∙ sym (position-of_name names labels r)
