-- How large an image in the linker's layout is, by how long its parts are.
use Rattle.std.proofs.Common.{◌≡◌, ℕ, ◌+◌, ◌*◌, ◌%◌, ◌^◌, ◌<◌, ◌≤◌, ⊎_elim, List, [], ◌∷◌, ◌++◌, length, get_or, refl, sym, ap, ap₂, ◌∙◌}
use Rattle.std.proofs.Common.{arith, false}
use Rattle.std.specs.Prelude.{AllPairs, codes, nat_eq}
use Rattle.std.specs.List.{flat_map, range_with_len, sum_by}
use Rattle.std.proofs.lemmas.Bool.{cases_lt}
use Rattle.std.proofs.lemmas.Bool.Decides.{nat_tests}
use Rattle.std.proofs.lemmas.List.Concat.{length-flat_map}
use Rattle.std.proofs.lemmas.List.Sums.{sum_by-cons, sum_by_push}
use Rattle.pe_image.specs.declared.image.Image.{Image}
use Rattle.pe_image.specs.declared.image.Section.{Section}
use Rattle.pe_image.specs.Files.{block_bytes, entry_count, file_sections, next_place, on_page, one_unless, page_count, reloc_bytes}
use Rattle.pe_image.specs.Files.{reloc_section, reloc_sections, rounded}
use Rattle.pe_image.specs.Images.{IsBelow}
use Rattle.pe_image.specs.Linked.{linked_sections, section_if, text_sections}
use Rattle.pe_image.specs.Sizes.{IsLinkedSize, block_length, page_length, relocs_length, size_of_linked}
use Rattle.pe_image.proofs.BlocksAgain.{block-length}
use Rattle.pe_image.proofs.Laid.{ascends_by}
use Rattle.pe_image.proofs.Numbered.{range_join}
use Rattle.pe_image.proofs.Pages.{page_bytes}

-- ---- the blocks of relocations

-- places that fit 32 bits and ascend by 8 are few
pub few_apart : (ps : List ℕ) → AllPairs IsBelow ps → ((i : ℕ) → get_or ps i 0 < 2 ^ 32) → length ps ≤ 2 ^ 29
few_apart ps apart small =
    ⊎_elim
    (λ many. let high : 0 + 8 * 2 ^ 29 ≤ get_or ps (2 ^ 29) 0 = ascends_by 0 ps (2 ^ 29) 0 (λ i d inside. omega arith) apart many in
    absurd (omega (arith, high, small (2 ^ 29))))
    (λ few. few)
    (cases_lt (2 ^ 29) (length ps))

-- one page more
pub pages_more : (ps : List ℕ) (k : ℕ) → sum_by (page_length ps) (range_with_len 0 (k + 1)) ≡ sum_by (page_length ps) (range_with_len 0 k)
    + page_length ps k
pages_more ps k =
    let same : 0 + k ≡ k = omega arith in
    ap (sum_by (page_length ps)) (range_join 0 k 1)
    ∙ (sum_by_push (page_length ps) (range_with_len 0 k) (0 + k)
    ∙ ap (λ j. sum_by (page_length ps) (range_with_len 0 k) + page_length ps j) same)

block_length-some : (n : ℕ) → 0 < n → block_length n ≡ 8 + 2 * entry_count n
block_length-some n some = let tells : nat_eq n 0 ≡ false = grind (arith, nat_tests) in rw tells refl

length-block : (k : ℕ) (ps : List ℕ) → length (block_bytes k ps) ≡ block_length (length ps)
unfolding block_bytes
length-block k [] = refl
length-block k (p ∷ ps) = block-length k p ps ∙ sym (block_length-some (length (p ∷ ps)) (omega arith))

same-sums : (f g : ℕ → ℕ) (ks : List ℕ) → ((k : ℕ) → f k ≡ g k) → sum_by f ks ≡ sum_by g ks
same-sums f g [] same = refl
same-sums f g (k ∷ ks) same = sum_by-cons f k ks ∙ (ap₂ (λ m n. m + n) (same k) (same-sums f g ks same) ∙ sym (sum_by-cons g k ks))

length-pages : (ps ks : List ℕ) → length (flat_map (page_bytes ps) ks) ≡ sum_by (page_length ps) ks
length-pages ps ks =
    length-flat_map (page_bytes ps) ks
    ∙ same-sums (λ k. length (page_bytes ps k)) (page_length ps) ks (λ k. length-block k (on_page k ps))

length-relocs : (ps : List ℕ) → length (reloc_bytes ps) ≡ relocs_length ps
unfolding reloc_bytes relocs_length
length-relocs ps = length-pages ps (range_with_len 0 page_count)

no_blocks : (ks : List ℕ) → sum_by (page_length []) ks ≡ 0
no_blocks [] = refl
no_blocks (k ∷ ks) = sum_by-cons (page_length []) k ks ∙ ap (λ n. 0 + n) (no_blocks ks)

no_relocs : relocs_length [] ≡ 0
unfolding relocs_length
no_relocs = no_blocks (range_with_len 0 page_count)

-- ---- where sections end

next_place-append : (xs ys : List Section) (place : ℕ) → next_place (xs ++ ys) place ≡ next_place ys (next_place xs place)
unfolding next_place
next_place-append [] ys place = refl
next_place-append (x ∷ xs) ys place = next_place-append xs ys (rounded 0x1000 (x.place + x.size))

rounded-whole : (n : ℕ) → rounded 0x1000 n % 0x1000 ≡ 0
rounded-whole n = omega arith

next-if : (name : List ℕ) (flags place : ℕ) (bytes : List ℕ) → place % 0x1000 ≡ 0
    → next_place (section_if name flags place bytes) place ≡ rounded 0x1000 (place + length bytes)
unfolding next_place
next-if name flags place [] whole = omega arith
next-if name flags place (b ∷ bs) whole = refl

next-linked : (text contents : List ℕ)
    → next_place (linked_sections text contents) 0x1000 ≡ rounded 0x1000 (rounded 0x1000 (0x1000 + length text) + length contents)
unfolding linked_sections
next-linked text contents =
    let place : ℕ = next_place (text_sections text) 0x1000 in
    let text_end : place ≡ rounded 0x1000 (0x1000 + length text) = next-if (codes ".text" ++ 0 ∷ 0 ∷ 0 ∷ []) 0x60000020 0x1000 text refl in
    let whole : place % 0x1000 ≡ 0 = ap (λ n. n % 0x1000) text_end ∙ rounded-whole (0x1000 + length text) in
    next_place-append (text_sections text) (section_if (codes ".data" ++ 0 ∷ 0 ∷ 0 ∷ []) 0xC0000040 place contents) 0x1000
    ∙ (next-if (codes ".data" ++ 0 ∷ 0 ∷ 0 ∷ []) 0xC0000040 place contents whole
    ∙ ap (λ n. rounded 0x1000 (n + length contents)) text_end)

next-unless : (places : List ℕ) (s : Section) (place : ℕ) → place % 0x1000 ≡ 0 → s.place ≡ place → s.size ≡ relocs_length places
    → next_place (one_unless places s) place ≡ rounded 0x1000 (place + relocs_length places)
unfolding next_place
next-unless [] s place whole at size = omega (arith, no_relocs)
next-unless (p ∷ ps) s place whole at size = ap₂ (λ m n. rounded 0x1000 (m + n)) at size

next-relocs : (image : Image) (place : ℕ) → place % 0x1000 ≡ 0 → next_place image.sections 0x1000 ≡ place
    → next_place (reloc_sections image) place ≡ rounded 0x1000 (place + relocs_length image.relocs)
unfolding reloc_sections reloc_section
next-relocs image place whole at = next-unless image.relocs (reloc_section image) place whole at (length-relocs image.relocs)

-- an image whose sections are those of some code and some data ends where they say by their lengths
pub linked_size_law : (image : Image) (text contents : List ℕ) → image.sections ≡ linked_sections text contents
    → next_place (file_sections image) 0x1000 ≡ size_of_linked (length text) (length contents) image.relocs
unfolding file_sections size_of_linked
linked_size_law image text contents is =
    let place : ℕ = rounded 0x1000 (rounded 0x1000 (0x1000 + length text) + length contents) in
    let at : next_place image.sections 0x1000 ≡ place = ap (λ ss. next_place ss 0x1000) is ∙ next-linked text contents in
    next_place-append image.sections (reloc_sections image) 0x1000
    ∙ (ap (next_place (reloc_sections image)) at
    ∙ next-relocs image place (rounded-whole (rounded 0x1000 (0x1000 + length text) + length contents)) at)

-- ---- what a size is, part by part

pub size_by_parts :
    (text contents contents_place relocs_place relocs end : ℕ) (ps : List ℕ) → contents_place ≡ rounded 0x1000 (0x1000 + text) →
    relocs_place ≡ rounded 0x1000 (contents_place + contents) → relocs ≡ relocs_length ps → end ≡ rounded 0x1000 (relocs_place + relocs) →
    end ≡ size_of_linked text contents ps
unfolding size_of_linked
size_by_parts text contents contents_place relocs_place relocs end ps first second long last =
    last ∙ ap₂ (λ m n. rounded 0x1000 (m + n)) (second ∙ ap (λ n. rounded 0x1000 (n + contents)) first) long

-- the size of lengths is that of each image which has them
pub size_of_images : (text contents size : ℕ) (ps : List ℕ) → size ≡ size_of_linked text contents ps → IsLinkedSize text contents ps size
size_of_images text contents size ps is image code bytes sections text_is contents_is relocs_is =
    linked_size_law image code bytes sections
    ∙ (ap (λ n. size_of_linked n (length bytes) image.relocs) text_is
    ∙ (ap (λ n. size_of_linked text n image.relocs) contents_is ∙ (ap (λ qs. size_of_linked text contents qs) relocs_is ∙ sym is)))
