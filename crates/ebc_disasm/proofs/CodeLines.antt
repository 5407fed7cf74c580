-- The lines of a listing that say bytes are those of the items: label lines and headings aside, what is listed is the same.
use Rattle.std.proofs.Common.{◌≡◌, ℕ, ◌+◌, ◌-◌, zero, suc, Bool, true, false, List, [], ◌∷◌, ◌++◌, length, map, Option, Some, None}
use Rattle.std.proofs.Common.{refl, ap, sym, ◌∙◌}
use Rattle.std.specs.Prelude.{⊤, option_map, if◌then◌else◌, nat_eq, nat_le, ◌&&◌, not, Result, Ok, Err}
use Rattle.std.specs.List.{filter, flat_map, list_any}
use Rattle.std.specs.Option.{option_or, unwrap_or}
use Rattle.std.proofs.lemmas.List.Elements.{filter-append}
use Rattle.pe_image.specs.declared.image.Image.{Image}
use Rattle.pe_image.specs.declared.image.Section.{Section}
use Rattle.asm_text.specs.declared.listing.Listed.{Listed}
use Rattle.asm_text.specs.declared.listing.Listed.TheVariants as listed
use Rattle.ebc_insn.specs.declared.Insn.{Insn}
use Rattle.ebc_decode.specs.declared.DecodeFault.{DecodeFault}
use Rattle.ebc_decode.specs.Reading.{read}
use Rattle.ebc_disasm.specs.declared.code.Item.{Item}
use Rattle.ebc_disasm.specs.CodeItems.{items_from, line_of, says_bytes, section_items}
use Rattle.ebc_disasm.specs.Listings.{byte_at, bytes_of, has_code, heading, if_whole, insn_at, is_cut, is_whole, item_at}
use Rattle.ebc_disasm.specs.Listings.{label_before, label_lines, labels, lies_on, lines_from, named, place_at, section_lines, with_label}
use Rattle.ebc_disasm.specs.Listings.{word_at}

-- what is listed, if anything, says bytes
abbrev Says : Option (Listed × ℕ) → Type 0
Says None = ⊤
Says (Some item) = says_bytes item.0 ≡ true

if_says : (b : Bool) (o : Option (Listed × ℕ)) → Says o → Says (if b then o else None)
if_says true o s = s
if_says false o s = tt

place_says : (o : Option ℕ) → Says (option_map (λ target. (listed.Place target, 8)) o)
place_says None = tt
place_says (Some target) = refl

label_says : (i : Insn) (n : ℕ) (label : Option ℕ) → Says (Some (with_label i label, n))
label_says i n None = refl
label_says i n (Some target) = refl

whole_says : (image : Image) (x : ℕ) (r : Result (Insn × ℕ) DecodeFault) → Says (if_whole image x r)
whole_says image x (Ok (i, n)) = if_says (is_whole image x i n) _ (label_says i n (label_before image (x + n)))
whole_says image x (Err fault) = tt

word_says : (image : Image) (x : ℕ) (bytes : List ℕ) → Says (word_at image x bytes)
unfolding word_at
word_says image x [] = tt
word_says image x (b ∷ []) = tt
word_says image x (b ∷ c ∷ bytes) = if_says (not (is_cut image x 2) && not (list_any (lies_on x 2) image.relocs)) _ refl

byte_says : (bytes : List ℕ) → says_bytes (byte_at bytes).0 ≡ true
byte_says [] = refl
byte_says (b ∷ bytes) = refl

first_says : (o p : Option (Listed × ℕ)) → Says o → Says p → Says (option_or o p)
first_says None p s t = t
first_says (Some item) p s t = s

chosen_says : (o : Option (Listed × ℕ)) (d : Listed × ℕ) → Says o → says_bytes d.0 ≡ true → says_bytes (unwrap_or o d).0 ≡ true
chosen_says None d s t = t
chosen_says (Some item) d s t = s

-- what is listed at a place says bytes
item_says : (image : Image) (x : ℕ) (bytes : List ℕ) → says_bytes (item_at image true x bytes).0 ≡ true
unfolding item_at place_at insn_at
item_says image x bytes =
    chosen_says _ (byte_at bytes)
    (first_says _ _
    (if_says (nat_le 8 (length bytes) && list_any (nat_eq x) image.relocs) _ (place_says (named image x)))
    (first_says _ _ (whole_says image x (read bytes)) (word_says image x bytes)))
    (byte_says bytes)

labels_say : (b c : Bool) (x : ℕ) →
    filter says_bytes (if b then listed.Global x ∷ listed.Label x ∷ [] else if c then listed.Label x ∷ [] else []) ≡ []
labels_say true c x = refl
labels_say false true x = refl
labels_say false false x = refl

-- the lines before what is listed at a place say none
label_lines_say : (image : Image) (x : ℕ) → filter says_bytes (label_lines image x) ≡ []
unfolding label_lines
label_lines_say image x = labels_say (nat_eq x image.entry) (list_any (nat_eq x) (labels image)) x

-- the lines of the rest of a section
rest_lines : (image : Image) (inside x : ℕ) (bytes : List ℕ) →
    map line_of (items_from image inside x bytes) ≡ filter says_bytes (lines_from image true inside x bytes)
unfolding items_from lines_from
rest_lines image inside x [] = refl
rest_lines image (suc inside) x (b ∷ bytes) = rest_lines image inside (x + 1) bytes
rest_lines image zero x (b ∷ bytes) =
    let line : Listed = (item_at image true x (b ∷ bytes)).0 in
    let n : ℕ = (item_at image true x (b ∷ bytes)).1 - 1 in
    let rest : List Listed = lines_from image true n (x + 1) bytes in
    ap (λ ls. line ∷ ls) (rest_lines image n (x + 1) bytes)
    ∙ sym (filter-append says_bytes (label_lines image x) (line ∷ rest)
    ∙ rw (label_lines_say image x, item_says image x (b ∷ bytes)) refl)

map-append : (xs ys : List Item) → map line_of (xs ++ ys) ≡ map line_of xs ++ map line_of ys
map-append [] ys = refl
map-append (x ∷ xs) ys = ap (λ ls. line_of x ∷ ls) (map-append xs ys)

said_section : (code : Bool) (image : Image) (s : Section) → code ≡ true →
    filter says_bytes (heading code ∷ lines_from image code 0 s.place (bytes_of s)) ≡ map line_of (items_from image 0 s.place (bytes_of s))
said_section true image s is = sym (rest_lines image 0 s.place (bytes_of s))
said_section false image s is = absurd cc

-- the lines of a section with code
section_says : (image : Image) (s : Section) → has_code s ≡ true →
    filter says_bytes (section_lines image s) ≡ map line_of (items_from image 0 s.place (bytes_of s))
unfolding section_lines
section_says image s is = said_section (has_code s) image s is

-- and of one section more
one_more : (code : Bool) (image : Image) (s : Section) (ss : List Section) → has_code s ≡ code →
    map line_of (flat_map (section_items image) ss) ≡ filter says_bytes (flat_map (section_lines image) (filter has_code ss)) →
    map line_of ((if code then items_from image 0 s.place (bytes_of s) else []) ++ flat_map (section_items image) ss)
    ≡ filter says_bytes (flat_map (section_lines image) (if code then s ∷ filter has_code ss else filter has_code ss))
one_more true image s ss is rest =
    let here : List Item = items_from image 0 s.place (bytes_of s) in
    let after : List Listed = flat_map (section_lines image) (filter has_code ss) in
    map-append here (flat_map (section_items image) ss)
    ∙ (ap (λ ls. map line_of here ++ ls) rest
    ∙ (ap (λ ls. ls ++ filter says_bytes after) (sym (section_says image s is))
    ∙ sym (filter-append says_bytes (section_lines image s) after)))
one_more false image s ss is rest = rest

-- the lines of a listing's sections with code that say bytes are those of the items
pub code_lines : (image : Image) (sections : List Section) →
    map line_of (flat_map (section_items image) sections) ≡ filter says_bytes (flat_map (section_lines image) (filter has_code sections))
unfolding section_items
code_lines image [] = refl
code_lines image (s ∷ ss) = one_more (has_code s) image s ss refl (code_lines image ss)
