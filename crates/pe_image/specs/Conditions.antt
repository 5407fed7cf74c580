-- Meaning: when a file is an image: fifteen conditions over the whole file, in the order in which they count. Each has the
-- fault that it stands for, and an offset in the file at which it is told. PE/COFF specification, by the sections that
-- specs/Headers and specs/Relocations name; docs/IMAGES.md has the same numbers.
use Rattle.std.specs.Prelude.{ℕ, ◌+◌, ◌-◌, ◌*◌, ◌%◌, ◌^◌, Bool, false, not, ◌&&◌, ◌||◌, List, [], ◌∷◌, ◌++◌, length, map, Option, Some}
use Rattle.std.specs.Prelude.{None, codes, bytes_eq, nat_eq, nat_le, nat_lt, if◌then◌else◌}
use Rattle.std.specs.List.{list_all, range_with_len}
use Rattle.pe_image.specs.declared.fault.ImageFault.{ImageFault}
use Rattle.pe_image.specs.declared.fault.ImageFault.TheVariants as faults
use Rattle.pe_image.specs.declared.section.SectionHeader.{SectionHeader}
use Rattle.pe_image.specs.declared.relocations.Entry.{Entry}
use Rattle.pe_image.specs.Fields.{bytes_at}
use Rattle.pe_image.specs.Headers.{directory, end_of, entry_point, image_size, in_section, machine, magic, optional, optional_size}
use Rattle.pe_image.specs.Headers.{section_alignment, section_at, section_count, section_table, signature}
use Rattle.pe_image.specs.Relocations.{blocks_end, entries, has_directory, home, named, span_in}

-- what has to hold, and what is told where it doesn't
pub record Condition : Type 0 where
  pub holds : Bool
  pub fault : ImageFault
  pub offset : ℕ

abbrev pub need : Bool → ImageFault → ℕ → Condition
need holds fault offset = record { holds = holds; fault = fault; offset = offset }

-- the fault of the first condition that doesn't hold, and its offset
abbrev pub first_fault : List Condition → Option (ImageFault × ℕ)
first_fault [] = None
first_fault (c ∷ cs) = if c.holds then first_fault cs else Some (c.fault, c.offset)

-- a condition for each number below n
abbrev pub for_each : ℕ → (ℕ → Condition) → List Condition
for_each n c = map c (range_with_len 0 n)

-- ---- 1 to 4: the file has a stub, which begins with its mark, and behind it a signature and a COFF file header

abbrev pub stub_conditions : List ℕ → List Condition
stub_conditions file =
    need (nat_le 64 (length file)) faults.Short 0
    ∷ need (bytes_eq (bytes_at file 0 2) (codes "MZ")) faults.Mz 0
    ∷ need (nat_le (signature file + 24) (length file)) faults.Short 60
    ∷ need (bytes_eq (bytes_at file (signature file) 4) (codes "PE" ++ 0 ∷ 0 ∷ [])) faults.Pe (signature file)
    ∷ []

-- ---- 5 to 7: the machine is EBC; the optional header has all fields but the directories, and the section table lies in the
-- file; the optional header is that of a PE32+ image

abbrev pub header_conditions : List ℕ → List Condition
header_conditions file =
    need (nat_eq (machine file) 0x0EBC) faults.Machine (signature file + 4)
    ∷ need (nat_le 112 (optional_size file) && nat_le (section_table file + 40 * section_count file) (length file)) faults.Short
    (signature file + 20)
    ∷ need (nat_eq (magic file) 0x020B) faults.Magic (optional file)
    ∷ []

-- ---- 8 and 9: there is a section; and each has its raw data in the file and its bytes in the image, which isn't too large

-- how many bytes an image may take: 4 MiB
abbrev pub most : ℕ
most = 2 ^ 22

abbrev pub fits : List ℕ → SectionHeader → Bool
fits file s = nat_le (s.raw_at + s.raw_size) (length file) && nat_le (end_of s) (image_size file) && nat_le (image_size file) most

unfoldable pub fit_condition : List ℕ → ℕ → Condition
fit_condition file i = let s = section_at file i in need (fits file s) faults.Section s.at

unfoldable pub fit_conditions : List ℕ → List Condition
fit_conditions file =
    need (nat_lt 0 (section_count file)) faults.Section (section_table file)
    ∷ for_each (section_count file) (fit_condition file)

-- ---- 10: each section begins where the one before ends, or later

unfoldable pub order_condition : List ℕ → ℕ → Condition
order_condition file i =
    let s = section_at file (i + 1) in need (nat_le (end_of (section_at file i)) s.place) faults.Overlap s.at

unfoldable pub order_conditions : List ℕ → List Condition
order_conditions file = for_each (section_count file - 1) (order_condition file)

-- ---- 11: each section begins at a multiple of the alignment

-- whether a place is a multiple of an alignment, which isn't 0
abbrev pub is_aligned : ℕ → ℕ → Bool
is_aligned alignment place = not (nat_eq alignment 0) && nat_eq (place % alignment) 0

unfoldable pub align_condition : List ℕ → ℕ → Condition
align_condition file i =
    let s = section_at file i in need (is_aligned (section_alignment file) s.place) faults.Align s.at

unfoldable pub align_conditions : List ℕ → List Condition
align_conditions file = for_each (section_count file) (align_condition file)

-- ---- 12 to 14, where there are relocations: they lie in the raw data of one section; each entry is of type 0, or of type 10
-- with eight bytes of a section, which begin past those that were named before; and blocks follow each other to the end

-- whether a place is at least 8 past each of these
abbrev pub is_past : List ℕ → ℕ → Bool
is_past places place = list_all (λ p. nat_le (p + 8) place) places

-- whether an entry is of type 0, which names nothing, or of type 10 and names eight bytes of a section, past these places
unfoldable pub is_entry : List ℕ → List ℕ → Entry → Bool
is_entry file places e = nat_eq e.kind 0 || (nat_eq e.kind 10 && is_past places e.place && in_section file e.place 8)

-- each entry, behind these places and those that the entries before it name
abbrev pub entry_conditions : List ℕ → List ℕ → List Entry → List Condition
entry_conditions file places [] = []
entry_conditions file places (e ∷ es) =
    need (is_entry file places e) faults.Reloc e.at ∷ entry_conditions file (places ++ named (e ∷ [])) es

-- 13 for each entry of the blocks from an offset on, and then 14
unfoldable pub block_conditions : List ℕ → ℕ → List ℕ → ℕ → List Condition
block_conditions file end places at =
    entry_conditions file places (entries file end at)
    ++ need (nat_eq (blocks_end file end at) end) faults.Reloc (blocks_end file end at) ∷ []

-- 12, and then the others
abbrev pub home_conditions : List ℕ → Option SectionHeader → List Condition
home_conditions file None = need false faults.Reloc (directory file) ∷ []
home_conditions file (Some s) = let span = span_in file s in block_conditions file span.end [] span.start

unfoldable pub relocation_conditions : List ℕ → List Condition
relocation_conditions file = if has_directory file then home_conditions file (home file) else []

-- ---- 15: the entry point is even, and lies in a section

unfoldable pub entry_point_conditions : List ℕ → List Condition
entry_point_conditions file =
    need (nat_eq (entry_point file % 2) 0 && in_section file (entry_point file) 1) faults.Entry (optional file + 16) ∷ []

-- ---- all

unfoldable pub conditions : List ℕ → List Condition
conditions file =
    stub_conditions file ++ header_conditions file ++ fit_conditions file ++ order_conditions file
    ++ align_conditions file ++ relocation_conditions file ++ entry_point_conditions file
