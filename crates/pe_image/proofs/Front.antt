-- What stands before the section table of a file that is written.
use Rattle.std.proofs.Common.{◌≡◌, ℕ, ◌+◌, ◌-◌, ◌*◌, ◌^◌, ◌<◌, List, [], ◌∷◌, ◌++◌, length, drop, refl, sym, ap, ◌∙◌, arith, append_assoc}
use Rattle.std.specs.Int.{w32, to_le_bytes}
use Rattle.std.specs.List.{flat_map}
use Rattle.std.proofs.lemmas.List.{drop_at, drop-drop}
use Rattle.pe_image.specs.declared.image.Image.{Image}
use Rattle.pe_image.specs.declared.image.Section.{Section}
use Rattle.ebc_width.specs.Bytes.{little_endian}
use Rattle.pe_image.specs.Fields.{u32_at, number_at}
use Rattle.pe_image.specs.Files.{coff_bytes, directories_bytes, directory_bytes, file_of, file_sections, front_bytes, raw_bytes}
use Rattle.pe_image.specs.Files.{reloc_sections, section_headers, standard_bytes, stub_bytes, windows_bytes, zeros}
use Rattle.pe_image.specs.Headers.{directory, directory_count, directory_place, directory_size, entry_point, image_base, image_size}
use Rattle.pe_image.specs.Headers.{machine, magic, optional, optional_size, section_alignment, section_count, section_table, signature}
use Rattle.pe_image.specs.Headers.{subsystem}
use Rattle.pe_image.proofs.Numbers.{number_from}

-- the section table and all that follows it
abbrev pub table_on : Image → List ℕ
table_on image =
    section_headers 0x200 (file_sections image) ++ (zeros (0x200 - (328 + 40 * length (file_sections image)))
    ++ flat_map raw_bytes (file_sections image))

abbrev directories_on : Image → List ℕ
directories_on image = directories_bytes (reloc_sections image) ++ table_on image

abbrev windows_on : Image → List ℕ
windows_on image = windows_bytes image ++ directories_on image

abbrev standard_on : Image → List ℕ
standard_on image = standard_bytes image ++ windows_on image

abbrev coff_on : Image → List ℕ
coff_on image = coff_bytes (length (file_sections image)) ++ standard_on image

-- a file by its parts
pub record IsFile (image : Image) (file : List ℕ) : Type 0 where
  pub whole : file ≡ stub_bytes ++ coff_on image
  pub coff : drop 68 file ≡ coff_on image
  pub standard : drop 88 file ≡ standard_on image
  pub windows : drop 128 file ≡ windows_on image
  pub directories : drop 196 file ≡ directories_on image
  pub table : drop 328 file ≡ table_on image

file-parts : (image : Image) → file_of image ≡ stub_bytes ++ coff_on image
unfolding file_of front_bytes
file-parts image = simp append_assoc

coff-length : (n : ℕ) → length (coff_bytes n) ≡ 20
unfolding coff_bytes
coff-length n = refl

standard-length : (image : Image) → length (standard_bytes image) ≡ 40
unfolding standard_bytes
standard-length image = refl

windows-length : (image : Image) → length (windows_bytes image) ≡ 68
unfolding windows_bytes
windows-length image = refl

directories-length : (relocs : List Section) → length (directories_bytes relocs) ≡ 132
unfolding directories_bytes
directories-length [] = refl
directories-length (s ∷ ss) = refl

stub-length : length stub_bytes ≡ 68
unfolding stub_bytes
stub-length = refl

pub past : (file front rest : List ℕ) (at n : ℕ) → drop at file ≡ front ++ rest → length front ≡ n → drop (at + n) file ≡ rest
past file front rest at n is count = sym (drop-drop n at file) ∙ (ap (drop n) is ∙ drop_at front rest n count)

pub IsFile-written : (image : Image) → IsFile image (file_of image)
IsFile-written image =
    let whole : file_of image ≡ stub_bytes ++ coff_on image = file-parts image in
    let coff : drop 68 (file_of image) ≡ coff_on image = ap (drop 68) whole ∙ drop_at stub_bytes (coff_on image) 68 stub-length in
    let standard : drop 88 (file_of image) ≡ standard_on image =
    past (file_of image) (coff_bytes (length (file_sections image))) (standard_on image) 68 20 coff
    (coff-length (length (file_sections image))) in
    let windows : drop 128 (file_of image) ≡ windows_on image =
    past (file_of image) (standard_bytes image) (windows_on image) 88 40 standard (standard-length image) in
    let directories : drop 196 (file_of image) ≡ directories_on image =
    past (file_of image) (windows_bytes image) (directories_on image) 128 68 windows (windows-length image) in
    let table : drop 328 (file_of image) ≡ table_on image = past (file_of image) (directories_bytes (reloc_sections image))
    (table_on image) 196 132 directories (directories-length (reloc_sections image)) in
    record { whole = whole; coff = coff; standard = standard; windows = windows; directories = directories; table = table }

-- ---- the fields

pub signature-is : (image : Image) (file : List ℕ) → IsFile image file → signature file ≡ 64
unfolding signature stub_bytes number_at little_endian
signature-is image file is = ap (λ f. u32_at f 60) is.whole

pub optional-is : (image : Image) (file : List ℕ) → IsFile image file → optional file ≡ 88
unfolding optional
optional-is image file is = ap (λ n. n + 24) (signature-is image file is)

pub machine-is : (image : Image) (file : List ℕ) → IsFile image file → machine file ≡ 0x0EBC
unfolding machine coff_bytes number_at little_endian
machine-is image file is = number_from 2 file (coff_on image) 68 0 (signature file + 4) is.coff (omega (arith, signature-is image file is))

pub count-is : (image : Image) (file : List ℕ) → IsFile image file → length (file_sections image) < 2 ^ 16
    → section_count file ≡ length (file_sections image)
unfolding section_count coff_bytes number_at little_endian
count-is image file is small =
    number_from 2 file (coff_on image) 68 2 (signature file + 6) is.coff (omega (arith, signature-is image file is)) ∙ omega arith

pub optional_size-is : (image : Image) (file : List ℕ) → IsFile image file → optional_size file ≡ 240
unfolding optional_size coff_bytes number_at little_endian
optional_size-is image file is = number_from 2 file (coff_on image) 68 16 (signature file + 20) is.coff
    (omega (arith, signature-is image file is))

pub section_table-is : (image : Image) (file : List ℕ) → IsFile image file → section_table file ≡ 328
unfolding section_table
section_table-is image file is = omega (arith, optional-is image file is, optional_size-is image file is)

pub magic-is : (image : Image) (file : List ℕ) → IsFile image file → magic file ≡ 0x020B
unfolding magic standard_bytes number_at little_endian
magic-is image file is = number_from 2 file (standard_on image) 88 0 (optional file) is.standard (omega (arith, optional-is image file is))

pub entry-is : (image : Image) (file : List ℕ) → IsFile image file → image.entry < 2 ^ 32 → entry_point file ≡ image.entry
unfolding entry_point standard_bytes number_at little_endian
entry-is image file is small = number_from 4 file (standard_on image) 88 16 (optional file + 16) is.standard
    (omega (arith, optional-is image file is)) ∙ omega arith

pub base-is : (image : Image) (file : List ℕ) → IsFile image file → image.base < 2 ^ 64 → image_base file ≡ image.base
unfolding image_base standard_bytes number_at little_endian
base-is image file is small = number_from 8 file (standard_on image) 88 24 (optional file + 24) is.standard
    (omega (arith, optional-is image file is)) ∙ omega arith

pub alignment-is : (image : Image) (file : List ℕ) → IsFile image file → section_alignment file ≡ 0x1000
unfolding section_alignment standard_bytes number_at little_endian
alignment-is image file is = number_from 4 file (standard_on image) 88 32 (optional file + 32) is.standard
    (omega (arith, optional-is image file is))

pub size-is : (image : Image) (file : List ℕ) → IsFile image file → image.size < 2 ^ 32 → image_size file ≡ image.size
unfolding image_size windows_bytes number_at little_endian
size-is image file is small = number_from 4 file (windows_on image) 128 16 (optional file + 56) is.windows
    (omega (arith, optional-is image file is)) ∙ omega arith

pub subsystem-is : (image : Image) (file : List ℕ) → IsFile image file → image.subsystem < 2 ^ 16 → subsystem file ≡ image.subsystem
unfolding subsystem windows_bytes number_at little_endian
subsystem-is image file is small = number_from 2 file (windows_on image) 128 28 (optional file + 68) is.windows
    (omega (arith, optional-is image file is)) ∙ omega arith

pub directory_count-is : (image : Image) (file : List ℕ) → IsFile image file → directory_count file ≡ 16
unfolding directory_count directories_bytes number_at little_endian
directory_count-is image file is = number_from 4 file (directories_on image) 196 0 (optional file + 108) is.directories
    (omega (arith, optional-is image file is))

directory-at : (image : Image) (file : List ℕ) → IsFile image file → drop 240 file ≡ directory_bytes (reloc_sections image)
    ++ (zeros 80 ++ table_on image)
unfolding directories_bytes
directory-at image file is =
    past file (to_le_bytes w32 16 ++ zeros 40) (directory_bytes (reloc_sections image) ++ (zeros 80 ++ table_on image)) 196 44
    (is.directories ∙ simp append_assoc) refl

pub directory-is : (image : Image) (file : List ℕ) → IsFile image file → directory file ≡ 240
unfolding directory
directory-is image file is = ap (λ n. n + 152) (optional-is image file is)

-- without relocations the directory is empty
pub no_directory : (image : Image) (file : List ℕ) → IsFile image file → reloc_sections image ≡ [] → directory_size file ≡ 0
unfolding directory_size number_at little_endian
no_directory image file is none =
    let at : drop 240 file ≡ zeros 8 ++ (zeros 80 ++ table_on image) = directory-at image file is
    ∙ ap (λ ss. directory_bytes ss ++ (zeros 80 ++ table_on image)) none in
    number_from 4 file (zeros 8 ++ (zeros 80 ++ table_on image)) 240 4 (directory file + 4) at (omega (arith, directory-is image file is))

-- with them it has the place and the size of their section
pub directory_of :
    (image : Image) (file : List ℕ) (s : Section) → IsFile image file → reloc_sections image ≡ s ∷ [] → s.place < 2 ^ 32 → s.size < 2 ^ 32 →
    (directory_place file ≡ s.place) × (directory_size file ≡ s.size)
unfolding directory_place directory_size number_at little_endian
directory_of image file s is one place size =
    let bytes : List ℕ = to_le_bytes w32 s.place ++ to_le_bytes w32 s.size ++ (zeros 80 ++ table_on image) in
    let at : drop 240 file ≡ bytes = directory-at image file is ∙ ap (λ ss. directory_bytes ss ++ (zeros 80 ++ table_on image)) one in (
      number_from 4 file bytes 240 0 (directory file) at (omega (arith, directory-is image file is)) ∙ omega arith,
      number_from 4 file bytes 240 4 (directory file + 4) at (omega (arith, directory-is image file is)) ∙ omega arith,
    )
