-- For proofs: how large an image in the linker's layout is, by how long its parts are: this project's own, docs/IMAGES.md, "What is
-- written". PE/COFF specification, SizeOfImage of "Optional Header Windows-Specific Fields (Image Only)".
use Rattle.std.specs.Prelude.{◌≡◌, ℕ, ◌+◌, ◌*◌, List, length, nat_eq, if◌then◌else◌}
use Rattle.std.specs.List.{range_with_len, sum_by}
use Rattle.pe_image.specs.declared.image.Image.{Image}
use Rattle.pe_image.specs.Files.{entry_count, file_sections, next_place, on_page, page_count, rounded}
use Rattle.pe_image.specs.Linked.{linked_sections}

-- how many bytes the block of a page with so many relocations has: there is none where there is no relocation
abbrev pub block_length : ℕ → ℕ
block_length n = if nat_eq n 0 then 0 else 8 + 2 * entry_count n

-- how many bytes the block of a page has
abbrev pub page_length : List ℕ → ℕ → ℕ
page_length places page = block_length (length (on_page page places))

-- how many bytes the blocks of all pages have
unfoldable pub relocs_length : List ℕ → ℕ
relocs_length places = sum_by (page_length places) (range_with_len 0 page_count)

-- where sections of so much code, so much data and these relocations end: the code begins at 0x1000, and each other one at the
-- next multiple of 0x1000 behind the one before
unfoldable pub size_of_linked : ℕ → ℕ → List ℕ → ℕ
size_of_linked text contents relocs =
    let contents_place = rounded 0x1000 (0x1000 + text) in
    let relocs_place = rounded 0x1000 (contents_place + contents) in
    rounded 0x1000 (relocs_place + relocs_length relocs)

-- The sections of each image with so much code, so much data and these relocations end at this size.
abbrev pub IsLinkedSize : ℕ → ℕ → List ℕ → ℕ → Type 0
IsLinkedSize text contents relocs size =
    (image : Image) (code bytes : List ℕ) → image.sections ≡ linked_sections code bytes → length code ≡ text → length bytes ≡ contents →
    image.relocs ≡ relocs → next_place (file_sections image) 0x1000 ≡ size
