-- The listing of an image in the linker's layout: its lines, their texts, and the source that they are.
use Rattle.std.proofs.Common.{unwrap_or}
use Rattle.link_laws.proofs.Bodies.{AreLow, heads_of, is_head, IsLabelled, IsLine, lines_are}
use Rattle.link_laws.proofs.Common.{All, append_assoc, clean_append, ends_in_data, lines_behind, makes_global, section_lines, text_sections}
use Rattle.link_laws.proofs.Common.{All-from_recursion, AllByRecursion, flat_map-append, linked_sections, list_all-append, list_any-append}
use Rattle.link_laws.proofs.Common.{All-head, All-tail, and_from, behind_ok, clean_hex, nat_tests, object_in, object_of, Section, text_good}
use Rattle.link_laws.proofs.Common.{all_append, append-nil, clean_lacks, is_labelled, listed_line, listed_text, ListedFits, Ok, until_first}
use Rattle.link_laws.proofs.Common.{ap, map, most, not, refl, sym, true, [], ◌%◌, ◌++◌, ◌+◌, ◌-◌, ◌/◌, ◌<◌, ◌==◌, ◌^◌, ◌∙◌, ◌∷◌, ◌≡◌, ◌≤◌}
use Rattle.link_laws.proofs.Common.{arith, Bool, clean, codes, false, Image, labels, lacks, length, Line, List, nat_eq, Some, subst, zeros}
use Rattle.link_laws.proofs.Common.{behind, flat_map, heading, hex_text, line_cut, lines_of, list_any, Listed, or_left, rounded, text_of, ℕ}
use Rattle.link_laws.proofs.Common.{is_defined, IsBytes, label_text, lines_from, listing_of, map-append, next_place, section_if, section_of}
use Rattle.link_laws.proofs.PlaceLaws.{AreUncut, is_label_of, label_at, none_behind, Splits}
use Rattle.link_laws.proofs.Taken.{AreTaken, IsFresh, IsPlaced, placed_at, Stand}
use Rattle.link_laws.proofs.Taken.{code_stands, data_stands, defined_in, line_taken, lines_taken, section_taken, stand_more, taken_append}
use Rattle.link_laws.proofs.{Lists.all_front, Lists.each_of, Sources.IsLowLabel, Sources.low_lines, Sources.source}
use Rattle.link_laws.proofs.{Lists.none_append, SectionLaws.AreLines, SectionLaws.section_agrees, SectionLaws.walked, Sources.none_labelled}
use Rattle.ebc_asm.proofs.SourceLaws.{next_lines}
use Rattle.ebc_base.proofs.TableLaws.{list_any-map}
use Rattle.ebc_disasm.specs.Listings.{lines_of as image_lines}
use Rattle.asm_text.specs.declared.listing.Listed.TheVariants as listed
use Rattle.asm_text.specs.Splits as splits

-- no line feed in what a clean text has
no_feed : (t : List ℕ) → clean t ≡ true → lacks 10 t ≡ true
no_feed t c = clean_lacks 10 t refl c

-- no line of a listing has a line feed
one_line : (l : Listed) → ListedFits l → lacks 10 (listed_text l) ≡ true
unfolding listed_text clean lacks
one_line listed.Code fits = refl
one_line listed.Data fits = refl
one_line (listed.Label place) fits =
    let label : lacks 10 (label_text place) ≡ true = no_feed (label_text place) (clean_append (codes "L") (hex_text 8 place) refl
    (clean_hex 8 place)) in
    list_all-append (λ x. not (x == 10)) (label_text place) (codes ":") ∙ and_from _ _ label refl
one_line (listed.Global place) fits = no_feed (codes ".global "
    ++ label_text place) (clean_append (codes ".global L") (hex_text 8 place) refl (clean_hex 8 place))
one_line (listed.Place place) fits = no_feed (codes ".dq " ++ label_text place) (clean_append (codes ".dq L") (hex_text 8 place) refl
    (clean_hex 8 place))
one_line (listed.Word n) fits = no_feed (codes ".dw 0x" ++ hex_text 4 n) (clean_append (codes ".dw 0x") (hex_text 4 n) refl (clean_hex 4 n))
one_line (listed.Byte n) fits = no_feed (codes ".db 0x" ++ hex_text 2 n) (clean_append (codes ".db 0x") (hex_text 2 n) refl (clean_hex 2 n))
one_line (listed.Instruction i place) fits = no_feed (listed_text (listed.Instruction i place)) (text_good i place fits.0).clean

-- the first line of a text
first_cut : (t rest : List ℕ) → lacks 10 t ≡ true → line_cut (t ++ 10 ∷ rest) ≡ Some (t, rest)
unfolding line_cut
first_cut [] rest none = ap (λ o. Some (unwrap_or o (10 ∷ rest, []))) (until_first 10 [] rest none)
first_cut (b ∷ bs) rest none = ap (λ o. Some (unwrap_or o (b ∷ (bs ++ 10 ∷ rest), []))) (until_first 10 (b ∷ bs) rest none)

-- The text of a listing is its lines.
pub lines_again : (ls : List Listed) → All ListedFits ls → lines_of (text_of ls) ≡ map listed_text ls
unfolding text_of lines_of
lines_again [] fits = refl
lines_again (l ∷ ls) fits =
    let rest = lines_again ls (All-tail ListedFits l ls fits) in
    let parted : text_of (l ∷ ls) ≡ listed_text l ++ 10 ∷ text_of ls = append_assoc (listed_text l) (10 ∷ []) (text_of ls) in
    ap lines_of parted ∙ (next_lines (listed_text l ++ 10 ∷ text_of ls) (listed_text l) (text_of ls) (first_cut (listed_text l)
    (text_of ls) (one_line l (All-head ListedFits l ls fits))) ∙ ap (λ ts. listed_text l ∷ ts) rest)

-- ---- the lines of an image

abbrev data_name : List ℕ
data_name = codes ".data" ++ 0 ∷ 0 ∷ 0 ∷ []

abbrev text_name : List ℕ
text_name = codes ".text" ++ 0 ∷ 0 ∷ 0 ∷ []

-- where data begin behind some code
abbrev pub data_place : List ℕ → ℕ
data_place text = rounded 0x1000 (0x1000 + length text)

abbrev pub code_lines : Image → List ℕ → List Listed
code_lines image text = lines_from image true 0 0x1000 text

-- the lines of data, behind their heading, and none of no data
abbrev pub data_lines : Image → ℕ → List ℕ → List Listed
data_lines image place [] = []
data_lines image place (b ∷ bs) = listed.Data ∷ lines_from image false 0 place (b ∷ bs)

abbrev pub all_lines : Image → List ℕ → List ℕ → List Listed
all_lines image text contents = listed.Code ∷ (code_lines image text ++ data_lines image (data_place text) contents)

section_of_bytes : (image : Image) (name : List ℕ) (place flags b : ℕ) (bs : List ℕ) (code : Bool) → nat_eq (flags / 32 % 2) 1 ≡ code
    → flat_map (section_lines image) (section_if name flags place (b ∷ bs)) ≡ heading code ∷ lines_from image code 0 place (b ∷ bs)
unfolding section_lines
section_of_bytes image name place flags b bs code is =
    let none : length (b ∷ bs) - length (b ∷ bs) ≡ 0 = omega arith in
    append-nil (section_lines image (record { name = name; place = place; size = length (b ∷ bs); flags = flags; bytes = b ∷ bs }))
    ∙ (ap (λ c. heading c ∷ lines_from image c 0 place ((b ∷ bs) ++ zeros (length (b ∷ bs) - length (b ∷ bs)))) is
    ∙ ap (λ bytes. heading code ∷ lines_from image code 0 place bytes) (ap (λ n. (b ∷ bs) ++ zeros n) none ∙ append-nil (b ∷ bs)))

data_section : (image : Image) (place : ℕ) (contents : List ℕ) (name : List ℕ)
    → flat_map (section_lines image) (section_if name 0xC0000040 place contents) ≡ data_lines image place contents
data_section image place [] name = refl
data_section image place (b ∷ bs) name = section_of_bytes image name place 0xC0000040 b bs false refl

-- what holds of the lines of data, whether there are any
pub data_by : (image : Image) (place : ℕ) (contents : List ℕ) (P : List Listed → Type 0) → (length contents ≡ 0 → P [])
    → P (listed.Data ∷ lines_from image false 0 place contents) → P (data_lines image place contents)
data_by image place [] P none some = none refl
data_by image place (b ∷ bs) P none some = some

-- the lines of an image with some code
pub lines_are_all : (image : Image) (b : ℕ) (bs contents : List ℕ) → image.sections ≡ linked_sections (b ∷ bs) contents
    → image_lines image ≡ all_lines image (b ∷ bs) contents
unfolding image_lines linked_sections next_place
lines_are_all image b bs contents is =
    let place : ℕ = data_place (b ∷ bs) in
    let data_ : List Section = section_if data_name 0xC0000040 place contents in
    ap (flat_map (section_lines image)) is
    ∙ (flat_map-append (section_lines image) (text_sections (b ∷ bs)) data_
    ∙ (ap (λ ls. ls ++ flat_map (section_lines image) data_) (section_of_bytes image text_name 0x1000 0x60000020 b bs true refl)
    ∙ ap (λ ls. (listed.Code ∷ code_lines image (b ∷ bs)) ++ ls) (data_section image place contents data_name)))

-- ---- what holds of each line

-- An image in the linker's layout, with this code and these data, of which a listing may be assembled again.
pub record IsShown (image : Image) (text contents : List ℕ) : Type 0 where
  pub text_bytes : IsBytes text
  pub contents_bytes : IsBytes contents
  pub text_small : length text ≤ most
  pub contents_small : length contents ≤ most
  pub low : AreLow image
  pub uncut : AreUncut image
  pub entry_from : 0x1000 ≤ image.entry
  pub entry_to : image.entry < 0x1000 + length text

-- all lines up to some of the data, as a source
to_data : (ls before : List Listed)
    → (source (listed.Code ∷ ls) ++ source (listed.Data ∷ [])) ++ source before ≡ source (listed.Code ∷ (ls ++ listed.Data ∷ before))
to_data ls before =
    append_assoc (source (listed.Code ∷ ls)) (source (listed.Data ∷ [])) (source before)
    ∙ ap (λ ms. listed_line listed.Code ∷ ms) (sym (map-append listed_line ls (listed.Data ∷ before)))

-- the entry has a label
pub entry_labelled : (image : Image) → IsLabelled image image.entry
unfolding labels
entry_labelled image = let same : nat_eq image.entry image.entry ≡ true = grind (arith, nat_tests) in rw same refl

code_behind : (texts : List (List ℕ)) → behind texts [] (listed_line listed.Code) ≡ Ok (listed_line listed.Code)
unfolding ends_in_data section_of
code_behind texts = behind_ok texts [] (listed_line listed.Code) refl refl refl refl

module _ (image : Image) (text contents : List ℕ) (s : IsShown image text contents) where
  abbrev place : ℕ
  place = data_place text

  abbrev code : List Listed
  code = code_lines image text

  abbrev rest : List Listed
  rest = data_lines image place contents

  abbrev lines : List Listed
  lines = all_lines image text contents

  -- its data, whether there are any
  abbrev contents_lines : List Listed
  contents_lines = lines_from image false 0 place contents

  small : 0x1000 + length text ≤ 2 ^ 32
  small = omega arith

  data_small : place + length contents ≤ 2 ^ 32
  data_small = omega arith

  pub code_walked : AreLines image true 0x1000 text code
  code_walked = walked image true 0x1000 text s.text_bytes

  pub contents_walked : AreLines image false place contents contents_lines
  contents_walked = walked image false place contents s.contents_bytes

  pub code_lines_are : AllByRecursion (IsLine image true) code
  code_lines_are = lines_are image true s.low code_walked small

  pub contents_lines_are : AllByRecursion (IsLine image false) contents_lines
  contents_lines_are = lines_are image false s.low contents_walked data_small

  pub code_heads : list_any is_head code ≡ false
  code_heads = heads_of image true code code_lines_are

  pub data_heads : list_any is_head contents_lines ≡ false
  data_heads = heads_of image false contents_lines contents_lines_are

  -- what holds of headings, and of the lines of sections, holds of all lines
  pub all_of_lines : (Q : Listed → Type 0) → Q listed.Code → Q listed.Data → ((c : Bool) (l : Listed) → IsLine image c l → Q l)
      → AllByRecursion Q lines
  all_of_lines Q first second f = (
    first,
    all_append Q code rest (each_of (IsLine image true) Q code (f true) code_lines_are)
        (data_by image place contents (AllByRecursion Q) (λ none. tt)
        (second, each_of (IsLine image false) Q contents_lines (f false) contents_lines_are)),
  )

  pub lines_fit : AllByRecursion ListedFits lines
  lines_fit = all_of_lines ListedFits tt tt (λ c l h. h.fits)

  -- no label of a place behind the code is among its lines
  none_in_code : (y : ℕ) → place ≤ y → list_any (is_label_of y) code ≡ false
  none_in_code y from = none_behind image true code_walked y (omega (arith, from))

  -- ---- where labels stand

  -- the lines behind one of the code
  text_split : (y : ℕ) (sp : Splits image 0x1000 y code) → lines ≡ (listed.Code ∷ sp.before) ++ listed.Label y ∷ (sp.after ++ rest)
  text_split y sp =
      ap (λ ls. listed.Code ∷ (ls ++ rest)) sp.is ∙ ap (λ ls. listed.Code ∷ ls) (append_assoc sp.before (listed.Label y ∷ sp.after) rest)

  text_label : (y : ℕ) → IsLabelled image y → 0x1000 ≤ y → y < 0x1000 + length text → Splits image 0x1000 y code
  text_label y here from to = label_at image true y s.uncut here code_walked from to

  pub text_placed : (y : ℕ) → IsLabelled image y → 0x1000 ≤ y → y < 0x1000 + length text → IsPlaced (source lines) false 0x1000 y
  text_placed y here from to =
      let sp : Splits image 0x1000 y code = text_label y here from to in
      let front = all_front (IsLine image true) sp.before (listed.Label y ∷ sp.after)
      (subst (AllByRecursion (IsLine image true)) sp.is code_lines_are) in
      subst (λ ls. IsPlaced (source ls) false 0x1000 y) (sym (text_split y sp))
      (placed_at false 0x1000 y (listed.Code ∷ sp.before) (sp.after ++ rest) (omega (arith, to, small))
      (tt, low_lines image true sp.before front) sp.fresh
      (stand_more false 0x1000 0x1000 y (source (listed.Code ∷ [])) sp.before (code_stands 0x1000) (heads_of image true sp.before front)
      sp.long))

  pub data_placed : (y : ℕ) → IsLabelled image y → place ≤ y → y < place + length contents → IsPlaced (source lines) true place y
  data_placed y here from to =
      let sp : Splits image place y contents_lines = label_at image false y s.uncut here contents_walked from to in
      let front = all_front (IsLine image false) sp.before (listed.Label y ∷ sp.after)
      (subst (AllByRecursion (IsLine image false)) sp.is contents_lines_are) in
      let before : List Listed = code ++ listed.Data ∷ sp.before in
      let stands = subst (Stand true place y) (to_data code sp.before)
      (stand_more true place place y (source (listed.Code ∷ code) ++ source (listed.Data ∷ [])) sp.before
      (data_stands place code code_heads) (heads_of image false sp.before front) sp.long) in
      let new = none_append (is_label_of y) code (listed.Data ∷ sp.before) (none_in_code y from) sp.fresh in
      let low = all_append IsLowLabel code (listed.Data ∷ sp.before) (low_lines image true code code_lines_are)
      (tt, low_lines image false sp.before front) in
      let placed = placed_at true place y (listed.Code ∷ before) sp.after (omega (arith, to, data_small)) (tt, low) new stands in
      let whole = ap (λ ms. listed.Code ∷ (code ++ listed.Data ∷ ms)) sp.is
      ∙ ap (λ ms. listed.Code ∷ ms) (sym (append_assoc code (listed.Data ∷ sp.before) (listed.Label y ∷ sp.after))) in
      data_by image place contents (λ ms. IsPlaced (source (listed.Code ∷ (code ++ ms))) true place y)
      (λ none. absurd (omega (arith, none, from, to))) (subst (λ ms. IsPlaced (source ms) true place y) (sym whole) placed)

  -- ---- the source

  data_taken : (texts : List (List ℕ)) → is_defined texts (label_text image.entry) ≡ true
      → AreTaken texts (source (listed.Code ∷ code)) (source rest)
  data_taken texts known =
      let long = (section_agrees image true code_walked).long in
      let before : List Line = source (listed.Code ∷ code) ++ source (listed.Data ∷ []) in
      let stands = stand_more false 0x1000 0x1000 (0x1000 + length text) (source (listed.Code ∷ [])) code (code_stands 0x1000) code_heads
      (omega (arith, long)) in
      let fresh : IsFresh place before = λ y from below.
      none_append (is_labelled (label_text y)) (source (listed.Code ∷ code)) (source (listed.Data ∷ []))
      (none_labelled y (listed.Code ∷ code) below (tt, low_lines image true code code_lines_are) (none_in_code y from)) refl in
      data_by image place contents (λ ls. AreTaken texts (source (listed.Code ∷ code)) (source ls)) (λ none. tt) (
        line_taken texts false 0x1000 (0x1000 + length text) 0 (source (listed.Code ∷ code)) (listed_line listed.Data) stands
            (omega (arith, s.text_small)) refl refl refl refl,
        section_taken image texts false place s.low known contents_walked before (data_stands place code code_heads) fresh
            (omega (arith, s.contents_small)) data_small,
      )

  all_taken : (texts : List (List ℕ)) → is_defined texts (label_text image.entry) ≡ true → AreTaken texts [] (source lines)
  all_taken texts known = (
    code_behind texts,
    subst (AreTaken texts (source (listed.Code ∷ []))) (sym (map-append listed_line code rest))
        (taken_append texts (source (listed.Code ∷ [])) (source code) (source rest)
        (section_taken image texts true 0x1000 s.low known code_walked (source (listed.Code ∷ [])) (code_stands 0x1000)
        (λ y from below. refl) (omega (arith, s.text_small)) small) (data_taken texts known)),
  )

  -- the lines make the entry global
  pub entry_global : list_any (makes_global (label_text image.entry)) (source lines) ≡ true
  entry_global =
      let sp : Splits image 0x1000 image.entry code = text_label image.entry (entry_labelled image) s.entry_from s.entry_to in
      let p : Listed → Bool = λ l. makes_global (label_text image.entry) (listed_line l) in
      sym (list_any-map (makes_global (label_text image.entry)) listed_line lines)
      ∙ (ap (list_any p) (text_split image.entry sp)
      ∙ (list_any-append p sp.before (listed.Label image.entry ∷ (sp.after ++ rest)) ∙ or_left _ _ (sp.global refl)))

  entry_defined : is_defined (map listed_text lines) (label_text image.entry) ≡ true
  entry_defined =
      let sp : Splits image 0x1000 image.entry code = text_label image.entry (entry_labelled image) s.entry_from s.entry_to in
      ap (λ ls. is_defined (map listed_text ls) (label_text image.entry)) (text_split image.entry sp)
      ∙ defined_in (listed.Code ∷ sp.before) (sp.after ++ rest) image.entry (omega (arith, small))

  lines_read : lines_behind (map listed_text lines) [] (map listed_text lines) ≡ Ok (source lines)
  lines_read = lines_taken (map listed_text lines) [] lines lines_fit (all_taken (map listed_text lines) entry_defined)

-- What the listing of an image stands for is the object of its lines.
pub listing_object : (image : Image) (b : ℕ) (bs contents : List ℕ) → image.sections ≡ linked_sections (b ∷ bs) contents
    → IsShown image (b ∷ bs) contents → object_of (listing_of image) ≡ Ok (object_in (source (all_lines image (b ∷ bs) contents)))
unfolding object_of listing_of
listing_object image b bs contents is s =
    let ls : List Listed = all_lines image (b ∷ bs) contents in
    let texts = ap (λ ms. splits.lines_of (text_of ms)) (lines_are_all image b bs contents is)
    ∙ lines_again ls (All-from_recursion ListedFits ls (lines_fit image (b ∷ bs) contents s)) in
    rw (texts, lines_read image (b ∷ bs) contents s) refl
