-- The object of a listing: its code, its data and its fixups.
use Rattle.link_laws.proofs.Common.{AllByRecursion, append-nil, Fixup, fixups_in, lines_from, list_any, listed_line, map-append, section_of}
use Rattle.link_laws.proofs.Common.{ap, [], ◌∙◌, ◌∷◌, ◌≡◌}
use Rattle.link_laws.proofs.Common.{arith, Bool, false, Image, length, Line, List, Listed, map, refl, start, subst, sym, true, ℕ, ◌++◌, ◌+◌}
use Rattle.link_laws.proofs.FixupWalk.{AreNamed, AreWhole, section_uses, uses_from, wanted, with_target}
use Rattle.link_laws.proofs.Listings.{all_lines, data_by, data_lines, data_place, IsShown}
use Rattle.link_laws.proofs.Listings.{code_heads, code_lines, code_lines_are, code_walked, contents_lines_are, contents_walked, data_heads}
use Rattle.link_laws.proofs.SectionLaws.{Agree, bytes_of_lines, section_agrees}
use Rattle.link_laws.proofs.Sources.{data_heading, fixups_append, fixups_here, fixups_other, section_append, section_here, section_other}
use Rattle.link_laws.proofs.Sources.{ends_at, ends_code, ends_same, fixup_at, none_of, source}
use Rattle.link_laws.proofs.{Bodies.is_head, Bodies.IsLine, Bodies.takes_address, Lists.each_of}
use Rattle.asm_text.specs.declared.listing.Listed.TheVariants as listed

-- labels in place of immediates stand for addresses
takes_of : (image : Image) (code : Bool) (ls : List Listed) → AllByRecursion (IsLine image code) ls
    → AllByRecursion (λ l. takes_address l ≡ true) ls
takes_of image code ls h = each_of (IsLine image code) (λ l. takes_address l ≡ true) ls (λ l g. g.takes) h

first_heading : (w : Bool) (ls : List Listed) → section_of w false (source (listed.Code ∷ ls)) ≡ section_of w false (source ls)
unfolding section_of
first_heading w ls = grind arith

-- the fixup of a relocation in a section that begins at a place
abbrev pub reloc_fixup : Image → Bool → ℕ → List (List ℕ) → ℕ → Fixup
reloc_fixup image d s names r = fixup_at d s names (with_target image r)

first_fixups : (w : Bool) (names : List (List ℕ)) (ls : List Listed)
    → fixups_in w start names (source (listed.Code ∷ ls)) ≡ fixups_in w (ends_at false 0 0) names (source ls)
unfolding fixups_in
first_fixups w names ls = grind arith

data_fixups : (image : Image) (c place : ℕ) (contents : List ℕ) (names : List (List ℕ))
    → list_any is_head (lines_from image false 0 place contents) ≡ false
    → AllByRecursion (λ l. takes_address l ≡ true) (lines_from image false 0 place contents)
    → uses_from place (lines_from image false 0 place contents) ≡ wanted image place (length contents)
    → fixups_in true (ends_at false c 0) names (source (data_lines image place contents))
    ≡ map (fixup_at true place names) (wanted image place (length contents))
unfolding fixups_in lines_from
data_fixups image c place [] names heads takes uses = ap (map (fixup_at true place names)) uses
data_fixups image c place (b ∷ bs) names heads takes uses =
    let same : place + 0 ≡ place = omega arith in
    fixups_here true (c + 0) 0 place names (lines_from image false 0 place (b ∷ bs)) heads takes
    ∙ ap (map (fixup_at true place names)) (ap (λ x. uses_from x (lines_from image false 0 place (b ∷ bs))) same ∙ uses)

module _ (image : Image) (text contents : List ℕ) (s : IsShown image text contents) where
  abbrev place : ℕ
  place = data_place text

  abbrev ls : List Listed
  ls = code_lines image text

  abbrev rest : List Listed
  rest = data_lines image place contents

  abbrev contents_lines : List Listed
  contents_lines = lines_from image false 0 place contents

  abbrev all : List Line
  all = source (all_lines image text contents)

  heads : list_any is_head ls ≡ false
  heads = code_heads image text contents s

  others : list_any is_head contents_lines ≡ false
  others = data_heads image text contents s

  -- ---- its sections

  -- a section of the source is that of the lines of the code and that of those of the data
  parts : (w : Bool) → section_of w false all ≡ section_of w false (source ls) ++ section_of w false (source rest)
  parts w =
      rw (
        first_heading w (ls ++ rest),
        map-append listed_line ls rest,
        section_append w false (source ls) (source rest),
        ends_same false ls heads,
      ) refl

  -- the code of the source has the bytes of the code, but for those of relocations
  pub code_agrees : Agree image 0x1000 (section_of false false all) text
  code_agrees =
      let none = data_by image place contents (λ ms. section_of false false (source ms) ≡ []) (λ e. none_of false false)
      (data_heading false false contents_lines ∙ section_other true contents_lines others) in
      subst (λ bs. Agree image 0x1000 bs text)
      (sym (parts false ∙ (ap (λ bs. section_of false false (source ls) ++ bs) none
      ∙ (append-nil (section_of false false (source ls)) ∙ section_here false ls heads))))
      (section_agrees image true (code_walked image text contents s))

  -- and the data those of the data
  pub contents_agree : Agree image place (section_of true false all) contents
  contents_agree = subst (λ bs. Agree image place bs contents)
      (sym (parts true ∙ ap (λ bs. bs ++ section_of true false (source rest)) (section_other false ls heads)))
      (data_by image place contents (λ ms. Agree image place (section_of true false (source ms)) contents)
      (λ none. record { long = ap length (none_of true false) ∙ sym none; same = λ k low free. absurd (omega (arith, none, low)) })
      (subst (λ bs. Agree image place bs contents)
      (sym (data_heading true false contents_lines ∙ section_here true contents_lines others))
      (section_agrees image false (contents_walked image text contents s))))

  -- ---- its fixups

  fixup_parts : (w : Bool) (names : List (List ℕ)) → fixups_in w start names all
      ≡ fixups_in w (ends_at false 0 0) names (source ls)
      ++ fixups_in w (ends_at false (0 + length (bytes_of_lines ls)) 0) names (source rest)
  fixup_parts w names =
      rw (
        first_fixups w names (ls ++ rest),
        map-append listed_line ls rest,
        fixups_append w (ends_at false 0 0) names (source ls) (source rest),
        ends_code 0 0 ls heads,
      ) refl

  -- the code's fixups are those of its relocations
  pub code_fixups : (names : List (List ℕ)) → AreNamed image → AreWhole image 0x1000 (length text)
      → fixups_in false start names all ≡ map (fixup_at false 0x1000 names) (wanted image 0x1000 (length text))
  unfolding fixups_in
  code_fixups names are whole =
      let first : fixups_in false (ends_at false 0 0) names (source ls) ≡ map (fixup_at false 0x1000 names) (wanted image 0x1000
      (length text)) =
      fixups_here false 0 0 0x1000 names ls heads (takes_of image true ls (code_lines_are image text contents s))
      ∙ ap (map (fixup_at false 0x1000 names)) (section_uses image true are (code_walked image text contents s) whole) in
      let end : ℕ = 0 + length (bytes_of_lines ls) in
      let none = data_by image place contents (λ ms. fixups_in false (ends_at false end 0) names (source ms) ≡ []) (λ e. refl)
      (fixups_other true (end + 0) 0 names contents_lines others) in
      rw (fixup_parts false names, none)
      (append-nil (fixups_in false (ends_at false 0 0) names (source ls)) ∙ first)

  -- and the data's those of the data's
  pub contents_fixups : (names : List (List ℕ)) → AreNamed image → AreWhole image place (length contents)
      → fixups_in true start names all ≡ map (fixup_at true place names) (wanted image place (length contents))
  contents_fixups names are whole =
      rw (fixup_parts true names, fixups_other false 0 0 names ls heads)
      (data_fixups image (0 + length (bytes_of_lines ls)) place contents names others
      (takes_of image false contents_lines (contents_lines_are image text contents s))
      (section_uses image false are (contents_walked image text contents s) whole))
