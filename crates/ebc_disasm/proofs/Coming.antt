-- The relocations and labels that are left, from one place to the next.
use Rattle.std.proofs.Common.{◌≡◌, ℕ, ◌+◌, ◌<◌, ◌≤◌, List, [], ◌∷◌, ◌++◌, length, take, get_or, Option, Some, None, refl, ap, sym, subst}
use Rattle.std.proofs.Common.{◌∙◌, arith}
use Rattle.std.specs.Prelude.{nat_eq, nat_lt}
use Rattle.std.specs.List.{AllPairs, cons_option, filter_map, find}
use Rattle.std.specs.List.Sorted.{IsPermutation}
use Rattle.std.proofs.lemmas.Bool.Decides.{nat_tests}
use Rattle.std.proofs.lemmas.List.{append-nil, get_or_default, take_more}
use Rattle.std.proofs.lemmas.List.Elements.{filter_map-append}
use Rattle.std.proofs.lemmas.List.Sorted.{list_any-IsPermutation}
use Rattle.pe_image.specs.declared.image.Image.{Image}
use Rattle.pe_image.specs.declared.image.Section.{Section}
use Rattle.pe_image.specs.Images.{EndsBefore}
use Rattle.ebc_disasm.specs.Listings.{is_cut, is_inside, labels}
use Rattle.ebc_disasm.specs.Walks.{IsComing, IsLeft, is_before, reaches}
use Rattle.ebc_disasm.proofs.Firsts.{find-same, first_at, first_before}

behind : (x l : ℕ) → nat_lt x l ≡ reaches 1 (x + 1) l
behind x l = grind (arith, nat_tests)

-- at the start nothing is left behind
pub start : (image : Image) (xs : List ℕ) → IsPermutation (labels image) xs → AllPairs (λ p q. p ≤ q) xs → IsComing image 0 image.relocs xs
unfolding is_cut
start image xs same up =
    record {
      relocs = λ y h. refl;
      at = λ y h.
          list_any-IsPermutation (nat_eq y) (labels image) xs same
          ∙ first_at (λ p q. p ≤ q) (reaches 1 y) y xs up (λ r e. grind (arith, nat_tests)) (λ q r e other less. grind (arith, nat_tests));
      inside = λ y n h.
          list_any-IsPermutation (is_inside y n) (labels image) xs same
          ∙ (first_before (λ l. nat_lt y l) (y + n) xs up
          ∙ ap (is_before (y + n)) (find-same (λ l. nat_lt y l) (reaches 1 (y + 1)) (λ l. behind y l) xs));
    }

pub start_at :
    (image : Image) (relocs marked xs : List ℕ) → relocs ≡ image.relocs → marked ≡ xs → IsPermutation (labels image) xs
    → AllPairs (λ p q. p ≤ q) xs →
    IsComing image 0 relocs marked
start_at image relocs marked xs r m same up = rw (r, m) (start image xs same up)

-- what is left tells of the place of a section that stands at its index
pub item_coming :
    (image : Image) (sections : List Section) (i : ℕ) (s : Section) (relocs marked : List ℕ) → s ≡ get_or sections i s →
    IsComing image (get_or sections i s).place relocs marked → IsComing image s.place relocs marked
item_coming image sections i s relocs marked is h = let P : Section → Type 0 = λ t. IsComing image t.place relocs marked in
    subst P (sym is) h

-- what is left tells of later places too
pub later : (image : Image) (x y : ℕ) (relocs labelled : List ℕ) → IsComing image x relocs labelled → x ≤ y
    → IsComing image y relocs labelled
later image x y relocs labelled c up =
    record {
      relocs = λ z h. c.relocs z (omega arith);
      at = λ z h. c.at z (omega arith);
      inside = λ z n h. c.inside z n (omega arith);
    }

-- what is left behind a section tells of the place of each later one
pub behind_section :
    (image : Image) (sections : List Section) (i k : ℕ) (s d : Section) (relocs marked : List ℕ) → AllPairs EndsBefore sections →
    s ≡ get_or sections i s → i < k → k < length sections → IsComing image (s.place + s.size) relocs marked →
    IsComing image (get_or sections k d).place relocs marked
behind_section image sections i k s d relocs marked ascend is less short c =
    let P : Section → Type 0 = λ t. t.place + t.size ≤ (get_or sections k d).place in
    let here : get_or sections i d ≡ s = get_or_default sections i d s (omega arith) ∙ sym is in
    let before : s.place + s.size ≤ (get_or sections k d).place = subst P here (ascend i k d less short) in
    later image (s.place + s.size) (get_or sections k d).place relocs marked c before

-- What is left once what has been passed is left behind. Labels are left behind twice: those before a place, and that of the place.
pub record IsPassed (image : Image) (x : ℕ) (old_relocs old_labels relocs here labelled : List ℕ) : Type 0 where
  pub coming : IsComing image x old_relocs old_labels
  pub relocs_left : IsLeft 8 x old_relocs relocs
  pub here_left : IsLeft 1 x old_labels here
  pub labels_left : IsLeft 1 (x + 1) here labelled

labels_left :
    (image : Image) (x : ℕ) (r l relocs here labelled : List ℕ) → IsPassed image x r l relocs here labelled →
    (y : ℕ) → x + 1 ≤ y → find (reaches 1 y) labelled ≡ find (reaches 1 y) l
labels_left image x r l relocs here labelled p y h = p.labels_left y h ∙ p.here_left y (omega arith)

-- ---- the labels of an image

more : (f : ℕ → Option ℕ) (xs : List ℕ) (i : ℕ) → i < length xs → filter_map f (take (i + 1) xs) ≡ filter_map f (take i xs)
    ++ cons_option (f (get_or xs i 0)) []
more f xs i short = ap (filter_map f) (take_more xs i 0 short) ∙ filter_map-append f (take i xs) (get_or xs i 0 ∷ [])

-- one place more
pub more_none : (f : ℕ → Option ℕ) (xs : List ℕ) (i : ℕ) → i < length xs → f (get_or xs i 0) ≡ None
    → filter_map f (take (i + 1) xs) ≡ filter_map f (take i xs)
more_none f xs i short e = more f xs i short ∙ rw e (append-nil (filter_map f (take i xs)))

pub more_some : (f : ℕ → Option ℕ) (xs : List ℕ) (i t : ℕ) → i < length xs → f (get_or xs i 0) ≡ Some t
    → filter_map f (take (i + 1) xs) ≡ filter_map f (take i xs) ++ t ∷ []
more_some f xs i t short e = more f xs i short ∙ rw e refl
