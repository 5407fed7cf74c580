-- The sections, the relocated numbers and the relocations of an image in the linker's layout.
use Rattle.std.proofs.lemmas.List.Elements.{Contains-append_cases}
use Rattle.link_laws.proofs.Common.{All, All-from_recursion, Any-from_list_any, div-div-eq-div-mul, little_endian-zeros, recursion_from_All}
use Rattle.link_laws.proofs.Common.{All-contains, cons_option, distance_of, get_or_past, IsBelow, laid_linked, little_endian, reloc_section}
use Rattle.link_laws.proofs.Common.{AllByRecursion, file_sections, linked_sections, Option, overlaid-apart, overlaid-within, reloc_sections}
use Rattle.link_laws.proofs.Common.{AllPairs, Any, cases_lt, eqb-true, has_place, IsBytes, list_any, nat_tests, or_cases, overlaid, Section}
use Rattle.link_laws.proofs.Common.{ap, [], ℕ, ◌≤◌, ◌⊎◌}
use Rattle.link_laws.proofs.Common.{arith, codes, filter, get_or, labels, length, List, named, nat_eq, None, pow-suc, Some, subst, ⊎_elim}
use Rattle.link_laws.proofs.Common.{filter_map, Image, in_section, named_place, next_place, one_unless, pairs_tail, section_if, slice_index}
use Rattle.link_laws.proofs.Common.{Has, inl, inr, laid, refl, suc, sym, true, zero, ◌%◌, ◌*◌, ◌++◌, ◌+◌, ◌-◌, ◌/◌, ◌<◌, ◌^◌, ◌∙◌, ◌∷◌, ◌≡◌}
use Rattle.link_laws.proofs.FixupWalk.{AreNamed, AreWhole, Ascend, in_range, none_past}
use Rattle.link_laws.proofs.{Bodies.AreLow, Bodies.IsLabelled, Bodies.named_inside, Listings.data_place, Lists.all_at, Lists.each_of}
use Rattle.pe_image.proofs.Pages.{pairs_head}

-- ---- relocations ascend

pub ascend_of : (rs : List ℕ) → AllPairs IsBelow rs → Ascend rs
ascend_of [] apart = tt
ascend_of (r ∷ rs) apart = (recursion_from_All (λ q. r + 8 ≤ q) rs (pairs_head r rs apart), ascend_of rs (pairs_tail r rs apart))

-- ---- the sections

-- A place is one of so many from another on.
abbrev pub Within : ℕ → ℕ → ℕ → Type 0
Within x n y = (x ≤ y) × (y < x + n)

-- A section is the code or the data.
abbrev Is : ℕ → ℕ → ℕ → Section → Type 0
Is n place m s = ((s.place ≡ 0x1000) × (s.size ≡ n)) ⊎ ((s.place ≡ place) × (s.size ≡ m))

data_is : (n place : ℕ) (name contents : List ℕ) → AllByRecursion (Is n place (length contents)) (section_if name 0xC0000040 place contents)
data_is n place name [] = tt
data_is n place name (c ∷ cs) = (inr (refl, refl), tt)

linked_are : (b : ℕ) (bs contents : List ℕ)
    → All (Is (length (b ∷ bs)) (data_place (b ∷ bs)) (length contents)) (linked_sections (b ∷ bs) contents)
unfolding linked_sections next_place
linked_are b bs contents = All-from_recursion _ (linked_sections (b ∷ bs) contents)
    (inl (refl, refl), data_is (length (b ∷ bs)) (data_place (b ∷ bs)) (codes ".data" ++ 0 ∷ 0 ∷ 0 ∷ []) contents)

-- a place in a section is one of the code or of the data
inside : (b : ℕ) (bs contents : List ℕ) (y : ℕ) → list_any (has_place y) (linked_sections (b ∷ bs) contents) ≡ true
    → Within 0x1000 (length (b ∷ bs)) y ⊎ Within (data_place (b ∷ bs)) (length contents) y
inside b bs contents y h =
    let (k, s, within, at, has) = Any-from_list_any (has_place y) (linked_sections (b ∷ bs) contents) h in
    ⊎_elim (λ a. inl (grind (arith, nat_tests), grind (arith, nat_tests))) (λ a. inr (grind (arith, nat_tests), grind (arith, nat_tests)))
    (All-contains (Is (length (b ∷ bs)) (data_place (b ∷ bs)) (length contents)) (linked_sections (b ∷ bs) contents) s
    (linked_are b bs contents) (k, within, at))

-- ---- the bytes of the sections

pub laid_code : (text contents : List ℕ) (i : ℕ) → i < length text
    → laid (linked_sections text contents) (0x1000 + i) ≡ get_or text i 0
laid_code text contents i low =
    let at : 0x1000 + i - 0x1000 ≡ i = omega arith in
    laid_linked text contents (0x1000 + i)
    ∙ (overlaid-within (overlaid (λ x. 0) (data_place text) contents) 0x1000 text (0x1000 + i) (omega arith) (omega (arith, low))
    ∙ ap (slice_index text) at)

pub laid_data : (text contents : List ℕ) (i : ℕ) → i < length contents
    → laid (linked_sections text contents) (data_place text + i) ≡ get_or contents i 0
laid_data text contents i low =
    let y : ℕ = data_place text + i in
    let at : y - data_place text ≡ i = omega arith in
    laid_linked text contents y
    ∙ (overlaid-apart (overlaid (λ x. 0) (data_place text) contents) 0x1000 text y (inr (omega arith))
    ∙ (overlaid-within (λ x. 0) (data_place text) contents y (omega arith) (omega (arith, low)) ∙ ap (slice_index contents) at))

laid_behind : (text contents : List ℕ) (y : ℕ) → data_place text + length contents ≤ y → laid (linked_sections text contents) y ≡ 0
laid_behind text contents y far =
    laid_linked text contents y
    ∙ (overlaid-apart (overlaid (λ x. 0) (data_place text) contents) 0x1000 text y (inr (omega (arith, far)))
    ∙ overlaid-apart (λ x. 0) (data_place text) contents y (inr far))

-- code and data are bytes where the image is of bytes
bytes_by : (f : ℕ → ℕ) (place : ℕ) (bytes : List ℕ) → ((x : ℕ) → f x < 256)
    → ((i : ℕ) → i < length bytes → f (place + i) ≡ get_or bytes i 0) → IsBytes bytes
bytes_by f place bytes each is i = grind (arith, each (place + i), is i, get_or_past, cases_lt)

pub code_bytes : (text contents : List ℕ) → ((y : ℕ) → laid (linked_sections text contents) y < 256) → IsBytes text
code_bytes text contents each = bytes_by (laid (linked_sections text contents)) 0x1000 text each (laid_code text contents)

pub contents_bytes : (text contents : List ℕ) → ((y : ℕ) → laid (linked_sections text contents) y < 256) → IsBytes contents
contents_bytes text contents each =
    bytes_by (laid (linked_sections text contents)) (data_place text) contents each (laid_data text contents)

-- ---- where relocations are

next_behind : (b : ℕ) (bs contents : List ℕ) → data_place (b ∷ bs) + length contents ≤ next_place (linked_sections (b ∷ bs) contents) 0x1000
unfolding linked_sections next_place
next_behind b bs [] = omega arith
next_behind b bs (c ∷ cs) = omega arith

-- the section of relocations is behind the others
relocs_behind : (image : Image) → AllByRecursion (λ (s : Section). s.place ≡ next_place image.sections 0x1000) (reloc_sections image)
unfolding reloc_sections reloc_section
relocs_behind image = one image.relocs
  where
    one : (places : List ℕ)
        → AllByRecursion (λ (s : Section). s.place ≡ next_place image.sections 0x1000) (one_unless places (reloc_section image))
    one [] = tt
    one (p ∷ ps) = (refl, tt)

-- ---- the number at a relocation

-- a byte of a number
pub byte_of : (f : ℕ → ℕ) (a k i : ℕ) → ((x : ℕ) → f x < 256) → i < k → little_endian f a k / 256 ^ i % 256 ≡ f (a + i)
unfolding little_endian
byte_of f a zero i each low = absurd (omega (arith, low))
byte_of f a (suc k) zero each low =
    let same : a + 0 ≡ a = omega arith in
    let is : (f a + 256 * little_endian f (a + 1) k) / 256 ^ 0 % 256 ≡ f a = omega (arith, each a) in
    is ∙ ap f (sym same)
byte_of f a (suc k) (suc i) each low =
    let same : a + 1 + i ≡ a + suc i = omega arith in
    let rest : (f a + 256 * little_endian f (a + 1) k) / 256 ≡ little_endian f (a + 1) k = omega (arith, each a) in
    let whole = ap (λ p. (f a + 256 * little_endian f (a + 1) k) / p) (pow-suc 256 i ∙ omega arith)
    ∙ (sym (div-div-eq-div-mul (f a + 256 * little_endian f (a + 1) k) 256 (256 ^ i)) ∙ ap (λ q. q / 256 ^ i) rest) in
    ap (λ q. q % 256) whole ∙ (byte_of f (a + 1) k i each (omega (arith, low)) ∙ ap f same)

-- ---- relocations lie in the code or in the data

-- Eight bytes lie in the code or in the data.
abbrev pub IsHome : ℕ → ℕ → ℕ → ℕ → Type 0
IsHome n place m r = ((0x1000 ≤ r) × (r + 8 ≤ 0x1000 + n)) ⊎ ((place ≤ r) × (r + 8 ≤ place + m))

module _ (image : Image) (b : ℕ) (bs contents : List ℕ) (is : image.sections ≡ linked_sections (b ∷ bs) contents) where
  abbrev place : ℕ
  place = data_place (b ∷ bs)

  abbrev HomeHere : ℕ → Type 0
  HomeHere r = IsHome (length (b ∷ bs)) place (length contents) r

  pub section_inside : (y : ℕ) → in_section image y ≡ true → Within 0x1000 (length (b ∷ bs)) y ⊎ Within place (length contents) y
  unfolding in_section
  section_inside y h = inside b bs contents y (subst (λ (ss : List Section). list_any (has_place y) ss ≡ true) is h)

  no_number : (r : ℕ) → place + length contents ≤ r → named_place image r ≡ distance_of 0 image.base
  unfolding named_place little_endian
  no_number r far =
      let none = little_endian-zeros (laid image.sections) r 8 0 (omega arith)
      (λ i from to. ap (λ (ss : List Section). laid ss (r + i)) is ∙ laid_behind (b ∷ bs) contents (r + i) (omega (arith, far))) in
      ap (λ v. distance_of v image.base) none

  module _ (small : image.base < 2 ^ 32) (few : length (b ∷ bs) ≤ 2 ^ 20) (less : length contents ≤ 2 ^ 20) where
    home_of_reloc : (r : ℕ) → in_section image (named_place image r) ≡ true → Any (Has r 8) (file_sections image) → HomeHere r
    unfolding file_sections
    home_of_reloc r there (k, s, within, at, has) =
        let sections = subst (λ (ss : List Section). All (Is (length (b ∷ bs)) place (length contents)) ss) (sym is)
        (linked_are b bs contents) in
        ⊎_elim
        (λ own.
        let is_ : Is (length (b ∷ bs)) place (length contents) s = All-contains (Is (length (b ∷ bs)) place (length contents))
        image.sections s sections own in
        grind arith)
        (λ other.
        let Far : Section → Type 0 = λ s. s.place ≡ next_place image.sections 0x1000 in
        let far : Far s = All-contains Far (reloc_sections image) s (All-from_recursion Far (reloc_sections image) (relocs_behind image))
        other in
        let end = subst (λ (ss : List Section). place + length contents ≤ next_place ss 0x1000) (sym is) (next_behind b bs contents) in
        let behind : place + length contents ≤ r = omega (arith, far, end, has.0) in
        absurd (grind (arith, no_number r behind, section_inside (named_place image r) there)))
        (Contains-append_cases image.sections (reloc_sections image) s (k, within, at))

    pub homes : All (λ r. in_section image (named_place image r) ≡ true) image.relocs
        → All (λ r. Any (Has r 8) (file_sections image)) image.relocs → AllByRecursion HomeHere image.relocs
    homes there has =
        recursion_from_All HomeHere image.relocs (λ k d low. home_of_reloc (get_or image.relocs k d) (there k d low) (has k d low))

    pub are_low : AreLow image
    are_low y there = grind (arith, section_inside y there)

pub are_whole : (image : Image) (n place m : ℕ) → 0x1000 + n ≤ place → AllByRecursion (IsHome n place m) image.relocs
    → AreWhole image 0x1000 n × AreWhole image place m
are_whole image n place m behind all = (
  λ r here from to. grind (arith, all_at (IsHome n place m) image.relocs r all here),
  λ r here from to. grind (arith, all_at (IsHome n place m) image.relocs r all here),
)

-- ---- all relocations are those of the code and those of the data

pub relocs_parted : (n place m : ℕ) (rs : List ℕ) → 0x1000 + n ≤ place → Ascend rs → AllByRecursion (IsHome n place m) rs
    → filter (in_range 0x1000 n) rs ++ filter (in_range place m) rs ≡ rs
relocs_parted n place m [] behind up all = refl
relocs_parted n place m (r ∷ rs) behind up all =
    let rest = relocs_parted n place m rs behind up.1 all.1 in
    ⊎_elim (λ a. grind (arith, nat_tests, rest)) (λ a. grind (arith, nat_tests, rest, none_past 0x1000 n (r + 8) rs up.0)) all.0

-- ---- how many there are

count_from : (a end : ℕ) (rs : List ℕ) → AllByRecursion (λ r. a ≤ r) rs → Ascend rs → AllByRecursion (λ r. r + 8 ≤ end) rs → a ≤ end
    → a + 8 * length rs ≤ end
count_from a end [] low up ends within = omega (arith, within)
count_from a end (r ∷ rs) low up ends within = omega (arith, count_from (r + 8) end rs up.0 up.1 ends.1 ends.0)

pub count_relocs : (n place m : ℕ) (rs : List ℕ) → 0x1000 + n ≤ place → Ascend rs → AllByRecursion (IsHome n place m) rs
    → 0x1000 + 8 * length rs ≤ place + m
count_relocs n place m rs behind up all =
    count_from 0x1000 (place + m) rs (each_of (IsHome n place m) (λ r. 0x1000 ≤ r) rs (λ r home. grind arith) all) up
    (each_of (IsHome n place m) (λ r. r + 8 ≤ place + m) rs (λ r home. grind arith) all) (omega (arith, behind))

-- ---- the same by recursion

pub are_named : (image : Image) → All (λ r. in_section image (named_place image r) ≡ true) image.relocs → AllPairs IsBelow image.relocs
    → AreNamed image
are_named image all apart = record {
  named = recursion_from_All (λ r. in_section image (named_place image r) ≡ true) image.relocs all;
  ascend = ascend_of image.relocs apart;
}

-- ---- where labels are

named_target : (f : ℕ → Option ℕ) (Q : ℕ → Type 0) (rs : List ℕ) (y : ℕ) → ((r t : ℕ) → f r ≡ Some t → Q t)
    → list_any (nat_eq y) (filter_map f rs) ≡ true → Q y
named_target f Q [] y each here = cc here
named_target f Q (r ∷ rs) y each here = first (f r) refl here (λ h. named_target f Q rs y each h)
  where
    first : (o : Option ℕ) → f r ≡ o → list_any (nat_eq y) (cons_option o (filter_map f rs)) ≡ true
        → (list_any (nat_eq y) (filter_map f rs) ≡ true → Q y) → Q y
    first None is h later = later h
    first (Some t) is h later = ⊎_elim (λ e. subst Q (sym (eqb-true y t e)) (each r t is)) later (or_cases (nat_eq y t) _ h)

-- a label is the entry, or the target of a relocation, which is in a section
pub label_inside : (image : Image) (y : ℕ) → IsLabelled image y → (y ≡ image.entry) ⊎ (in_section image y ≡ true)
unfolding labels
label_inside image y here = ⊎_elim
    (λ e. inl (eqb-true y image.entry e))
    (λ h. inr (named_target (named image) (λ t. in_section image t ≡ true) image.relocs y (λ r t is. named_inside image r t is) h))
    (or_cases (nat_eq y image.entry) (list_any (nat_eq y) (filter_map (named image) image.relocs)) here)
