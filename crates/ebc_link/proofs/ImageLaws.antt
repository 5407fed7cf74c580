-- The image that objects are linked to is in the linker's layout.
use Rattle.ebc_link.proofs.Common.{◌≡◌, ℕ, ◌+◌, ◌%◌, ◌<◌, ◌≤◌, List, [], ◌∷◌, ◌++◌, length, get_or, refl, sym, ap, subst, ◌∙◌, arith, Ok}
use Rattle.ebc_link.proofs.Common.{cases_lt, All, codes, flat_map, All-append, All-cons, All-nil, IsObject, Object, most, next_place}
use Rattle.ebc_link.proofs.Common.{rounded, linked_sections, section_if, text_sections, laid, Image, Section, LinkPlan, IsPlan, Laid}
use Rattle.ebc_link.proofs.Common.{code_end, code_start, contents_end, contents_start, laid_objects, Definition, definitions, contents_of}
use Rattle.ebc_link.proofs.Common.{relocs_in, relocs_of, IsEntry, links}
use Rattle.ebc_link.proofs.{FillLaws.filled_long, StandLaws.length_by, StandLaws.laid_inside, StandLaws.laid_are, StandLaws.code_laid}
use Rattle.ebc_link.proofs.{StandLaws.contents_laid, FoundLaws.entry_is, LinkLaws.made, RelocLaws.IsRun, RelocLaws.run_by}
use Rattle.ebc_link.proofs.{RelocLaws.relocs_apart}
use Rattle.std.proofs.lemmas.List.{get_or_past}
use Rattle.std.specs.List.{Any}
use Rattle.pe_image.specs.{Files.file_sections, Files.reloc_section, Files.reloc_sections, Linked.Has, Linked.IsLinked}
use Rattle.pe_image.proofs.Held.{IsBytes, laid_byte}
use Rattle.ebc_link.specs.{Layout.contents_from, Layout.text_from, Fixups.code_of, Links.linked_image}

-- ---- how long code and data are

pub text_ends : (base : ℕ) (ds : List Definition) (objects : List Object) → All IsObject objects
    → code_start + length (text_from (code_of base ds) code_start (laid_objects objects)) ≡ code_end code_start objects
text_ends base ds objects all =
    length_by 1 (code_of base ds) code_start (code_end code_start objects) (laid_objects objects) (filled_long 1 base ds objects all)
    (code_laid objects)

pub contents_ends : (base : ℕ) (ds : List Definition) (objects : List Object) → All IsObject objects
    → contents_start objects + length (contents_from (contents_of base ds) (contents_start objects) (laid_objects objects))
    ≡ contents_end (contents_start objects) objects
contents_ends base ds objects all =
    length_by 2 (contents_of base ds) (contents_start objects) (contents_end (contents_start objects) objects) (laid_objects objects)
    (filled_long 2 base ds objects all) (contents_laid objects)

-- ---- sections

pub contents_place : (text : List ℕ) → next_place (text_sections text) 0x1000 ≡ rounded 0x1000 (0x1000 + length text)
unfolding next_place
contents_place [] = refl
contents_place (b ∷ bs) = refl

-- sections that are appended one after the other
pub sections_by :
    (text contents : List ℕ) (none one two : List Section) (place : ℕ) → none ≡ []
    → one ≡ none ++ section_if (codes ".text" ++ 0 ∷ 0 ∷ 0 ∷ []) 0x60000020 0x1000 text
    → two ≡ one ++ section_if (codes ".data" ++ 0 ∷ 0 ∷ 0 ∷ []) 0xC0000040 place contents
    → place ≡ rounded 0x1000 (0x1000 + length text) → two ≡ linked_sections text contents
unfolding linked_sections
sections_by text contents none one two place empty first second at =
    let behind = λ (n : ℕ). section_if (codes ".data" ++ 0 ∷ 0 ∷ 0 ∷ []) 0xC0000040 n contents in
    second
    ∙ (ap (λ ss. ss ++ behind place) (first ∙ ap (λ ss. ss ++ text_sections text) empty)
    ∙ ap (λ n. text_sections text ++ behind n) (at ∙ sym (contents_place text)))

-- a place in the code is in a section
pub in_text : (text contents : List ℕ) (rest : List Section) (p n : ℕ) → 0 < n → 0x1000 ≤ p → p + n ≤ 0x1000 + length text
    → Any (Has p n) (linked_sections text contents ++ rest)
unfolding linked_sections
in_text [] contents rest p n some low high = absurd (omega (arith, low, high, some))
in_text (b ∷ bs) contents rest p n some low high = (0, _, omega arith, refl, (low, high))

-- and so is one in the data
pub in_contents : (text contents : List ℕ) (rest : List Section) (p n : ℕ) → 0 < n → rounded 0x1000 (0x1000 + length text) ≤ p
    → p + n ≤ rounded 0x1000 (0x1000 + length text) + length contents → Any (Has p n) (linked_sections text contents ++ rest)
unfolding linked_sections next_place
in_contents text [] rest p n some low high = absurd (omega (arith, low, high, some))
in_contents [] (c ∷ cs) rest p n some low high = (0, _, omega arith, refl, (omega (arith, low), omega (arith, high)))
in_contents (b ∷ bs) (c ∷ cs) rest p n some low high = (1, _, omega arith, refl, (low, high))

bytes_if : (name : List ℕ) (flags place : ℕ) (bytes : List ℕ) → IsBytes bytes
    → All (λ (s : Section). IsBytes s.bytes) (section_if name flags place bytes)
bytes_if name flags place [] each = All-nil (λ (s : Section). IsBytes s.bytes)
bytes_if name flags place (b ∷ bs) each = All-cons (λ (s : Section). IsBytes s.bytes) _ [] each (All-nil (λ (s : Section). IsBytes s.bytes))

pub bytes_there : (xs : List ℕ) → ((i : ℕ) → i < length xs → get_or xs i 0 < 256) → IsBytes xs
bytes_there xs each i = grind (arith, get_or_past, cases_lt)

-- what stands in the sections of bytes is bytes
pub bytes_laid : (text contents : List ℕ) → IsBytes text → IsBytes contents → (x : ℕ) → laid (linked_sections text contents) x < 256
unfolding linked_sections
bytes_laid text contents one two =
    laid_byte (linked_sections text contents)
    (All-append (λ (s : Section). IsBytes s.bytes) (text_sections text) _ (bytes_if _ _ _ text one) (bytes_if _ _ _ contents two))

-- ---- relocations

in_sections : (text contents : List ℕ) (rest : List Section) (code_last contents_first contents_last : ℕ) (xs ys : List ℕ)
    → 0x1000 + length text ≡ code_last → contents_first ≡ rounded 0x1000 code_last → contents_first + length contents ≡ contents_last
    → IsRun 0x1000 code_last xs → IsRun contents_first contents_last ys
    → All (λ p. Any (Has p 8) (linked_sections text contents ++ rest)) (xs ++ ys)
in_sections text contents rest code_last contents_first contents_last xs ys ends begins behind one two =
    All-append (λ p. Any (Has p 8) (linked_sections text contents ++ rest)) xs ys
    (λ i d inside. in_text text contents rest (get_or xs i d) 8 (omega arith) (one.within i d inside).0
    (omega (arith, ends, (one.within i d inside).1)))
    (λ i d inside. in_contents text contents rest (get_or ys i d) 8 (omega arith)
    (omega (arith, ends, begins, (two.within i d inside).0)) (omega (arith, ends, begins, behind, (two.within i d inside).1)))

relocs_inside : (objects : List Object) (text contents : List ℕ) (rest : List Section) → All IsObject objects
    → code_start + length text ≡ code_end code_start objects
    → contents_start objects + length contents ≡ contents_end (contents_start objects) objects
    → All (λ p. Any (Has p 8) (linked_sections text contents ++ rest)) (relocs_of (laid_objects objects))
unfolding relocs_of contents_start
relocs_inside objects text contents rest all ends behind =
    let start : ℕ = contents_start objects in
    let ls : List Laid = laid_objects objects in
    in_sections text contents rest (code_end code_start objects) start (contents_end start objects)
    (flat_map (relocs_in 1) ls) (flat_map (relocs_in 2) ls) ends refl behind
    (run_by 1 code_start (code_end code_start objects) ls (laid_are objects all) (code_laid objects))
    (run_by 2 start (contents_end start objects) ls (laid_are objects all) (contents_laid objects))

-- ---- the entry

pub entry_within : (objects : List Object) (name : List ℕ) (x : ℕ) → IsEntry (laid_objects objects) name x
    → (x % 2 ≡ 0) × (code_start ≤ x) × (x + 1 ≤ code_end code_start objects)
entry_within objects name x (l, s, there, own, defines, named, kind, even, within, is) =
    let at = laid_inside objects l there in
    (omega (arith, is, even, at.even), omega (arith, is, at.code_low), omega (arith, is, within, at.code_high))

-- ---- all

pub linked_layout : (objects : List Object) (plan : LinkPlan) (entry : ℕ) → All IsObject objects → IsPlan plan
    → IsEntry (laid_objects objects) plan.entry entry
    → (linked_image plan (definitions (laid_objects objects)) (laid_objects objects) (contents_start objects) entry).size ≤ most
    → IsLinked (linked_image plan (definitions (laid_objects objects)) (laid_objects objects) (contents_start objects) entry)
unfolding linked_image file_sections reloc_sections reloc_section
linked_layout objects plan entry all is_plan enters small =
    let ds : List Definition = definitions (laid_objects objects) in
    let ls : List Laid = laid_objects objects in
    let text : List ℕ = text_from (code_of plan.base ds) code_start ls in
    let contents : List ℕ = contents_from (contents_of plan.base ds) (contents_start objects) ls in
    let image : Image = linked_image plan ds ls (contents_start objects) entry in
    let at = entry_within objects plan.entry entry enters in
    let ends = text_ends plan.base ds objects all in
    record {
      sections = (text, contents, refl);
      size = refl;
      small = small;
      apart = relocs_apart objects all;
      relocated = relocs_inside objects text contents (reloc_sections image) all ends (contents_ends plan.base ds objects all);
      even = at.0;
      entry = in_text text contents (reloc_sections image) entry 1 (omega arith) at.1 (omega (arith, ends, at.2));
      base = omega (arith, is_plan.small);
      subsystem = omega (arith, is_plan.subsystem);
    }

pub links_layout : (objects : List Object) (plan : LinkPlan) (image : Image) → All IsObject objects → IsPlan plan
    → links objects plan ≡ Ok image → IsLinked image
unfolding links
links_layout objects plan image all is_plan e =
    let m = made plan (laid_objects objects) (contents_start objects) image e in
    subst IsLinked (sym m.is)
    (linked_layout objects plan m.place all is_plan (entry_is (laid_objects objects) plan.entry m.place m.enters) m.small)
