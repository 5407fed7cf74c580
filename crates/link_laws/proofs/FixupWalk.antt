-- The names that the lines of a section use are the targets of its relocations, each where the relocation is.
use Rattle.link_laws.proofs.Common.{AllByRecursion, append_assoc, false_from_ne_true, label_before, map, option_and_then, without_immediate}
use Rattle.link_laws.proofs.Common.{ap, Ok, [], ◌-◌, ◌<◌, ◌∙◌, ◌∷◌, ◌≡◌, ◌≤◌}
use Rattle.link_laws.proofs.Common.{arith, Bool, drop, false, find, Insn, List, named, None, read, refl, Some, sym, true, ◌&&◌, ◌++◌, ◌+◌}
use Rattle.link_laws.proofs.Common.{filter, Image, length, lies_on, list_any, Listed, nat_eq, nat_le, nat_lt, Option, place_at, spelling, ℕ}
use Rattle.link_laws.proofs.Common.{in_section, IsBytes, label_lines, list_all, map-append, named_place, nat_tests, read_length, with_label}
use Rattle.link_laws.proofs.ItemLaws.{byte_here, insn_here, IsItem, label_ends, label_taken, labels_by, line_bytes, place_here, reloc_ends}
use Rattle.link_laws.proofs.ItemLaws.{fine, word_here}
use Rattle.link_laws.proofs.Lists.{all_at, all_of, each_of, fails_of, keep_none}
use Rattle.link_laws.proofs.SectionLaws.{AreLines, more_lines, no_lines}
use Rattle.asm_text.specs.declared.listing.Listed.TheVariants as listed

-- ---- what lines name

abbrev pub target_use : Listed → Option (ℕ × ℕ)
target_use (listed.Place t) = Some (0, t)
target_use (listed.Instruction i (Some t)) = Some (length (spelling i) - 8, t)
target_use l = None

abbrev pub use_at : ℕ → Option (ℕ × ℕ) → List (ℕ × ℕ)
use_at x None = []
use_at x (Some (k, t)) = (x + k, t) ∷ []

-- ---- relocations in a range

abbrev pub in_range : ℕ → ℕ → ℕ → Bool
in_range x n r = nat_le x r && nat_lt r (x + n)

abbrev pub with_target : Image → ℕ → ℕ × ℕ
with_target image r = (r, named_place image r)

-- the relocations in a range, with their targets
abbrev pub wanted : Image → ℕ → ℕ → List (ℕ × ℕ)
wanted image x n = map (with_target image) (filter (in_range x n) image.relocs)

-- Relocations ascend by eight.
abbrev pub Ascend : List ℕ → Type 0
Ascend [] = Unit {0}
Ascend (r ∷ rs) = AllByRecursion (λ q. r + 8 ≤ q) rs × Ascend rs

pub none_past : (x n y : ℕ) (rs : List ℕ) → AllByRecursion (λ q. y ≤ q) rs → x + n ≤ y → filter (in_range x n) rs ≡ []
none_past x n y [] all past = refl
none_past x n y (r ∷ rs) all past = grind (arith, nat_tests, none_past x n y rs all.1 past)

-- the one at a place
at_place : (x : ℕ) (rs : List ℕ) → Ascend rs → list_any (nat_eq x) rs ≡ true → filter (in_range x 8) rs ≡ x ∷ []
at_place x [] up here = cc here
at_place x (r ∷ rs) up here =
    grind (arith, nat_tests, none_past x 8 (r + 8) rs up.0, all_at (λ q. r + 8 ≤ q) rs x up.0, at_place x rs up.1)

-- none on a word
none_on : (x n : ℕ) (rs : List ℕ) → list_any (lies_on x n) rs ≡ false → filter (in_range x n) rs ≡ []
none_on x n [] free = refl
none_on x n (r ∷ rs) free = grind (arith, nat_tests, none_on x n rs (grind arith))

-- that of an immediate on an instruction, or none
fine_end : (image : Image) (i : Insn) (x n r : ℕ) → fine image i x n r ≡ true → in_range x n r ≡ true → r + 8 ≡ x + n
fine_end image i x n r ok there = grind (arith, nat_tests)

one_on : (image : Image) (i : Insn) (x n r : ℕ) (rs : List ℕ) → 8 ≤ n → Ascend rs → list_all (fine image i x n) rs ≡ true
    → list_any (nat_eq r) rs ≡ true → r + 8 ≡ x + n → filter (in_range x n) rs ≡ r ∷ []
one_on image i x n r [] long up all here ends = cc here
one_on image i x n r (q ∷ rs) long up all here ends = grind (
  arith,
  nat_tests,
  none_past x n (q + 8) rs up.0,
  all_at (λ p. q + 8 ≤ p) rs r up.0,
  fine_end image i x n q,
  one_on image i x n r rs long up.1,
)

none_fine : (image : Image) (i : Insn) (x n : ℕ) (rs : List ℕ) → list_all (fine image i x n) rs ≡ true
    → find (λ r. nat_eq (r + 8) (x + n)) rs ≡ None → filter (in_range x n) rs ≡ []
none_fine image i x n [] all free = refl
none_fine image i x n (r ∷ rs) all free = grind (arith, nat_tests, fine_end image i x n r, none_fine image i x n rs)

-- a range in two parts
pub range_split : (x n m : ℕ) (rs : List ℕ) → Ascend rs
    → filter (in_range x (n + m)) rs ≡ filter (in_range x n) rs ++ filter (in_range (x + n) m) rs
range_split x n m [] up = refl
range_split x n m (r ∷ rs) up = grind (arith, nat_tests, range_split x n m rs up.1, none_past x n (r + 8) rs up.0)

-- ---- what is listed at a place names the relocations there

-- Relocations name places in sections, and ascend.
pub record AreNamed (image : Image) : Type 0 where
  pub named : AllByRecursion (λ r. in_section image (named_place image r) ≡ true) image.relocs
  pub ascend : Ascend image.relocs

-- Those that begin in some bytes end there.
abbrev pub AreWhole : Image → ℕ → ℕ → Type 0
AreWhole image x n = (r : ℕ) → list_any (nat_eq r) image.relocs ≡ true → x ≤ r → r < x + n → r + 8 ≤ x + n

abbrev Uses : Image → ℕ → Listed × ℕ → Type 0
Uses image x it = use_at x (target_use it.0) ≡ wanted image x it.1

pub named_some : (image : Image) (r : ℕ) → AreNamed image → list_any (nat_eq r) image.relocs ≡ true
    → named image r ≡ Some (named_place image r)
unfolding named
named_some image r are here =
    let inside = all_at (λ r. in_section image (named_place image r) ≡ true) image.relocs r are.named here in rw inside refl

uses_found : (image : Image) (x : ℕ) (bytes : List ℕ) (i : Insn) (n : ℕ) (f : Option ℕ) → AreNamed image → IsBytes bytes
    → read bytes ≡ Ok (i, n) → list_all (fine image i x n) image.relocs ≡ true →
    find (λ r. nat_eq (r + 8) (x + n)) image.relocs ≡ f → Uses image x (with_label i (option_and_then (named image) f), n)
uses_found image x bytes i n None are each is all found = ap (map (with_target image)) (sym (none_fine image i x n image.relocs all found))
uses_found image x bytes i n (Some r) are each is all found =
    let takes = label_taken image i x n image.relocs r (read_length bytes i n is).0 all found in
    let it = label_ends bytes i n each is takes in
    let at_ = reloc_ends image.relocs (x + n) r found in
    let place : x + (length (spelling (without_immediate i)) - 8) ≡ r = omega (arith, it.long, it.count, at_.1) in
    rw (named_some image r are at_.0, place, one_on image i x n r image.relocs (omega (arith, it.count)) are.ascend all at_.0 at_.1) refl

-- no relocation begins at a byte that stands alone
byte_alone : (image : Image) (x b : ℕ) (bytes : List ℕ) → AreNamed image → AreWhole image x (length (b ∷ bytes))
    → place_at image x (b ∷ bytes) ≡ None → list_any (nat_eq x) image.relocs ≡ false
unfolding place_at
byte_alone image x b bytes are whole free = false_from_ne_true (list_any (nat_eq x) image.relocs) (λ here.
    let long = whole x here (omega arith) (omega arith) in
    let eight : nat_le 8 (length (b ∷ bytes)) ≡ true = grind (arith, nat_tests) in
    let there : place_at image x (b ∷ bytes) ≡ Some (listed.Place (named_place image x), 8) =
    rw (eight, here, named_some image x are here) refl in
    cc (sym free ∙ there))

uses_by : (image : Image) (code : Bool) (x : ℕ) (bytes : List ℕ) (it : Listed × ℕ) → IsItem image code x bytes it → AreNamed image
    → IsBytes bytes → AreWhole image x (length bytes) → Uses image x it
unfolding label_before
uses_by image code x _ _ (place_here bytes t long here is) are each whole =
    let same : t ≡ named_place image x = cc (sym is ∙ named_some image x are here) in
    let zero_ : x + 0 ≡ x = omega arith in
    rw (zero_, same, at_place x image.relocs are.ascend here) refl
uses_by image code x _ _ (insn_here bytes i n in_code is cut all) are each whole =
    uses_found image x bytes i n (find (λ r. nat_eq (r + 8) (x + n)) image.relocs) are each is all refl
uses_by image code x _ _ (word_here b c rest cut free) are each whole = ap (map (with_target image)) (sym (none_on x 2 image.relocs free))
uses_by image code x _ _ (byte_here b rest none) are each whole =
    ap (map (with_target image)) (sym (keep_none (in_range x 1) image.relocs
    (each_of (λ r. nat_eq x r ≡ false) (λ r. in_range x 1 r ≡ false) image.relocs (λ r other. grind (arith, nat_tests))
    (fails_of (nat_eq x) image.relocs (byte_alone image x b rest are whole none)))))

-- ---- the lines of a section

-- what lines use, from a place on
abbrev pub uses_from : ℕ → List Listed → List (ℕ × ℕ)
uses_from x [] = []
uses_from x (l ∷ ls) = use_at x (target_use l) ++ uses_from (x + length (line_bytes l)) ls

uses_labels : (image : Image) (x : ℕ) (ls : List Listed) → uses_from x (label_lines image x ++ ls) ≡ uses_from x ls
uses_labels image x ls =
    let same : x + 0 ≡ x = omega arith in
    labels_by image x (λ ms. uses_from x (ms ++ ls) ≡ uses_from x ls)
    (λ e h. ap (λ y. uses_from (y + 0) ls) same ∙ ap (λ y. uses_from y ls) same) (λ o h. ap (λ y. uses_from y ls) same) (λ none. refl)

-- The names that the lines of a section use are the targets of the relocations in it, each where the relocation is, in their order.
pub section_uses : (image : Image) (code : Bool) → AreNamed image → {x : ℕ} {bytes : List ℕ} {ls : List Listed}
    → AreLines image code x bytes ls → AreWhole image x (length bytes) → uses_from x ls ≡ wanted image x (length bytes)
section_uses image code are (no_lines x) whole = ap (map (with_target image)) (sym (keep_none (in_range x 0) image.relocs
    (all_of (λ r. in_range x 0 r ≡ false) image.relocs (λ r. false_from_ne_true (in_range x 0 r) (λ e. grind (arith, nat_tests))))))
section_uses image code are (more_lines x b bytes line n rest each is item left later) whole =
    let all : List ℕ = b ∷ bytes in
    let here : use_at x (target_use line) ≡ wanted image x n = uses_by image code x all (line, n) is are each whole in
    let behind : uses_from (x + n) rest ≡ wanted image (x + n) (length (drop n all)) = section_uses image code are later
    (λ r there low high. let w = whole r there (omega (arith, low)) (omega (arith, high, left)) in omega (arith, w, left)) in
    let parts = ap (λ m. wanted image x m) (sym left)
    ∙ (ap (map (with_target image)) (range_split x n (length (drop n all)) image.relocs are.ascend)
    ∙ map-append (with_target image) (filter (in_range x n) image.relocs) (filter (in_range (x + n) (length (drop n all))) image.relocs))
    in
    rw (append_assoc (label_lines image x) (line ∷ []) rest, uses_labels image x (line ∷ rest), item.long, here, behind) (sym parts)
