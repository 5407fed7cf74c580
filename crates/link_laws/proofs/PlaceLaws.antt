-- Each label that may be printed is printed once, where the bytes before it end.
use Rattle.link_laws.proofs.Common.{AllByRecursion, append_assoc, flat_map-append, label_text, length-append, list_any-append, makes_global}
use Rattle.link_laws.proofs.Common.{ap, [], ℕ, ◌+◌, ◌<◌, ◌∙◌, ◌∷◌, ◌≡◌, ◌≤◌}
use Rattle.link_laws.proofs.Common.{arith, false, Image, is_cut, labels, length, List, Listed, nat_eq, refl, subst, sym, true, ⊎_elim, ◌++◌}
use Rattle.link_laws.proofs.Common.{Bool, cases_lt, is_inside, label_lines, list_any, listed_line, nat_tests, or_left, or_right, same_bytes}
use Rattle.link_laws.proofs.ItemLaws.{byte_here, insn_here, IsItem, labels_by, line_bytes, place_here, word_here}
use Rattle.link_laws.proofs.Lists.{all_at, all_of, fails_of, none_append, none_passes}
use Rattle.link_laws.proofs.SectionLaws.{AreLines, bytes_of_lines, more_lines, no_lines, one_item}
use Rattle.asm_text.specs.declared.listing.Listed.TheVariants as listed

-- No label is among the last seven of the eight bytes of a relocation.
abbrev pub AreUncut : Image → Type 0
AreUncut image = AllByRecursion (λ r. is_cut image r 8 ≡ false) image.relocs

uncut_by : (image : Image) (code : Bool) (x : ℕ) (bytes : List ℕ) (it : Listed × ℕ) → IsItem image code x bytes it → AreUncut image
    → is_cut image x it.1 ≡ false
unfolding is_cut
uncut_by image code x _ _ (place_here bytes target long here is) all = all_at (λ r. is_cut image r 8 ≡ false) image.relocs x all here
uncut_by image code x _ _ (insn_here bytes i n in_code is cut whole) all = cut
uncut_by image code x _ _ (word_here b c rest cut free) all = cut
uncut_by image code x _ _ (byte_here b rest none) all =
    none_passes (is_inside x 1) (labels image) (all_of (λ p. is_inside x 1 p ≡ false) (labels image) (λ p. grind (arith, nat_tests)))

-- a label that lies past the place of what is listed lies behind it
pub behind_item : (image : Image) (code : Bool) (x y n : ℕ) (bytes : List ℕ) (l : Listed) → IsItem image code x bytes (l, n)
    → AreUncut image → list_any (nat_eq y) (labels image) ≡ true → x < y → x + n ≤ y
unfolding is_cut
behind_item image code x y n bytes l is all here past =
    let cut : list_any (is_inside x n) (labels image) ≡ false = uncut_by image code x bytes (l, n) is all in
    let out = all_at (λ p. is_inside x n p ≡ false) (labels image) y (fails_of (is_inside x n) (labels image) cut) here in
    grind (arith, nat_tests)

-- ---- where a label stands

abbrev pub is_label_of : ℕ → Listed → Bool
is_label_of y (listed.Label place) = nat_eq place y
is_label_of y l = false

-- one of these lines makes the entry global
abbrev pub IsGlobal : Image → List Listed → Type 0
IsGlobal image ls = list_any (λ l. makes_global (label_text image.entry) (listed_line l)) ls ≡ true

-- The lines are some of which none is the label of a place, with as many bytes as lie before the place, then the label and others;
-- and that of the entry is behind a line that makes it global.
pub record Splits (image : Image) (x y : ℕ) (ls : List Listed) : Type 0 where
  pub before : List Listed
  pub after : List Listed
  pub is : ls ≡ before ++ listed.Label y ∷ after
  pub long : x + length (bytes_of_lines before) ≡ y
  pub fresh : list_any (is_label_of y) before ≡ false
  pub global : y ≡ image.entry → IsGlobal image before

labels_here : (image : Image) (x : ℕ) (more : List Listed) → list_any (nat_eq x) (labels image) ≡ true
    → Splits image x x (label_lines image x ++ more)
labels_here image x more here =
    labels_by image x (λ ls. list_any (nat_eq x) (labels image) ≡ true → Splits image x x (ls ++ more))
    (λ e h g. record {
      before = listed.Global x ∷ [];
      after = more;
      is = refl;
      long = omega arith;
      fresh = refl;
      global = λ same. or_left _ _ (subst (λ y. makes_global (label_text image.entry) (listed_line (listed.Global y)) ≡ true) (sym same)
          (same_bytes (label_text image.entry)));
    })
    (λ o h g. record {
      before = [];
      after = more;
      is = refl;
      long = omega arith;
      fresh = refl;
      global = λ same. absurd (grind (arith, nat_tests));
    })
    (λ none g. cc (sym none ∙ g)) here

no_label : (image : Image) (x y : ℕ) → x < y → list_any (is_label_of y) (label_lines image x) ≡ false
no_label image x y past =
    let other : nat_eq x y ≡ false = grind (arith, nat_tests) in
    labels_by image x (λ ls. list_any (is_label_of y) ls ≡ false) (λ e h. rw other refl) (λ o h. rw other refl) (λ none. refl)

-- what is listed at a place is no label
not_item : (image : Image) (code : Bool) (x y : ℕ) (bytes : List ℕ) (it : Listed × ℕ) → IsItem image code x bytes it
    → is_label_of y it.0 ≡ false
not_item image code x y _ _ (insn_here bytes i n in_code is cut whole) = grind arith
not_item image code x y _ _ c = refl

-- so none of a place behind is here
pub none_here : (image : Image) (code : Bool) (x y n : ℕ) (bytes : List ℕ) (l : Listed) → IsItem image code x bytes (l, n) → x < y
    → list_any (is_label_of y) (label_lines image x ++ l ∷ []) ≡ false
none_here image code x y n bytes l is past = none_append (is_label_of y) (label_lines image x) (l ∷ []) (no_label image x y past)
    (rw (not_item image code x y bytes (l, n) is) refl)

-- more lines in front, of places before the label's
more_front : (image : Image) (x n y : ℕ) (front ls : List Listed) → length (bytes_of_lines front) ≡ n
    → list_any (is_label_of y) front ≡ false → Splits image (x + n) y ls → Splits image x y (front ++ ls)
more_front image x n y front ls long fresh s = record {
  before = front ++ s.before;
  after = s.after;
  is = ap (λ ms. front ++ ms) s.is ∙ sym (append_assoc front s.before (listed.Label y ∷ s.after));
  long =
      let bytes = flat_map-append line_bytes front s.before in
      omega (arith, ap length bytes, length-append (bytes_of_lines front) (bytes_of_lines s.before), long);
  fresh = none_append (is_label_of y) front s.before fresh s.fresh;
  global = λ same. list_any-append (λ l. makes_global (label_text image.entry) (listed_line l)) front s.before
      ∙ or_right _ _ (s.global same);
}

-- Each place of a section that has a label is named in its lines where the bytes before it end, and nowhere before.
pub label_at : (image : Image) (code : Bool) (y : ℕ) → AreUncut image → list_any (nat_eq y) (labels image) ≡ true → {x : ℕ}
    {bytes : List ℕ} {ls : List Listed} → AreLines image code x bytes ls → x ≤ y → y < x + length bytes → Splits image x y ls
label_at image code y all here (no_lines x) low high = absurd (omega (arith, low, high))
label_at image code y all here (more_lines x b bytes line n rest each item_ item left later) low high =
    let here_lines : List Listed = label_lines image x ++ line ∷ [] in
    ⊎_elim
    (λ past.
    let behind : x + n ≤ y = behind_item image code x y n (b ∷ bytes) line item_ all here past in
    let fresh = none_here image code x y n (b ∷ bytes) line item_ past in
    more_front image x n y here_lines rest (ap length (one_item image x line) ∙ item.long) fresh
    (label_at image code y all here later behind (omega (arith, left, high))))
    (λ same.
    let is : x ≡ y = omega (arith, low, same) in
    let first = labels_here image x (line ∷ rest) (subst (λ z. list_any (nat_eq z) (labels image) ≡ true) (sym is) here) in
    subst (λ z. Splits image x z (here_lines ++ rest)) is
    (subst (Splits image x x) (sym (append_assoc (label_lines image x) (line ∷ []) rest)) first))
    (cases_lt x y)

-- no label of a place behind some bytes is among their lines
pub none_behind : (image : Image) (code : Bool) {x : ℕ} {bytes : List ℕ} {ls : List Listed} → AreLines image code x bytes ls → (y : ℕ)
    → x + length bytes ≤ y → list_any (is_label_of y) ls ≡ false
none_behind image code (no_lines x) y far = refl
none_behind image code (more_lines x b bytes l n rest each is item left later) y far =
    none_append (is_label_of y) (label_lines image x ++ l ∷ []) rest
    (none_here image code x y n (b ∷ bytes) l is (omega (arith, far))) (none_behind image code later y (omega (arith, far)))
