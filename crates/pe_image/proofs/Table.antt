-- The section table of a file that is written, and the raw data behind it.
use Rattle.std.proofs.Common.{◌≡◌, ℕ, zero, suc, ◌+◌, ◌-◌, ◌*◌, ◌^◌, ◌<◌, ◌≤◌, List, [], ◌∷◌, ◌++◌, length, get_or, take, drop, refl, sym}
use Rattle.std.proofs.Common.{ap, ap₂, ◌∙◌, arith, append_assoc, length-append}
use Rattle.std.specs.Prelude.{sum_by}
use Rattle.std.specs.Int.{w32, to_le_bytes}
use Rattle.std.specs.List.{flat_map}
use Rattle.std.proofs.lemmas.List.{length-drop, length-replicate, take_at}
use Rattle.std.proofs.lemmas.List.Sums.{sum_by-cons}
use Rattle.pe_image.specs.declared.image.Image.{Image}
use Rattle.pe_image.specs.declared.image.Section.{Section}
use Rattle.pe_image.specs.declared.section.SectionHeader.{SectionHeader}
use Rattle.ebc_width.specs.Bytes.{little_endian}
use Rattle.pe_image.specs.Fields.{bytes_at, u32_at, number_at}
use Rattle.pe_image.specs.Files.{file_sections, raw_bytes, raw_size, section_header, section_headers, zeros}
use Rattle.pe_image.specs.Headers.{section_at, section_table}
use Rattle.pe_image.proofs.Numbers.{number_from}
use Rattle.pe_image.proofs.Front.{IsFile, past, section_table-is, table_on}

-- ---- the section table

-- a section's header behind the name
abbrev fields_of : ℕ → Section → List ℕ
fields_of at s =
    to_le_bytes w32 s.size ++ to_le_bytes w32 s.place ++ to_le_bytes w32 (raw_size s) ++ to_le_bytes w32 at ++ zeros 12
    ++ to_le_bytes w32 s.flags

header-parts : (at : ℕ) (s : Section) (rest : List ℕ) → section_header at s ++ rest ≡ s.name ++ (fields_of at s ++ rest)
unfolding section_header
header-parts at s rest = simp append_assoc

header-length : (at : ℕ) (s : Section) → length s.name ≡ 8 → length (section_header at s) ≡ 40
unfolding section_header
header-length at s name = simp length-append (omega (arith, name))

-- A section has a name of eight bytes, and its flags are a number of four.
pub record IsNamed (s : Section) : Type 0 where
  pub name : length s.name ≡ 8
  pub flags : s.flags < 2 ^ 32

abbrev pub AreNamed : List Section → Type 0
AreNamed [] = Unit {0}
AreNamed (s ∷ ss) = IsNamed s × AreNamed ss

headers-length : (at : ℕ) (ss : List Section) → AreNamed ss → length (section_headers at ss) ≡ 40 * length ss
unfolding section_headers
headers-length at [] named = refl
headers-length at (s ∷ ss) named =
    length-append (section_header at s) (section_headers (at + raw_size s) ss)
    ∙ (ap₂ (λ m n. m + n) (header-length at s named.0.name) (headers-length (at + raw_size s) ss named.1) ∙ omega arith)

-- where the raw data of a section begin, by its number
abbrev pub offset_of : List Section → ℕ → ℕ
offset_of ss i = 0x200 + sum_by raw_size (take i ss)

header_from :
    (file rest : List ℕ) (ss : List Section) (at p i : ℕ) (d : Section) → AreNamed ss → drop p file ≡ section_headers at ss ++ rest →
    i < length ss → (tail : List ℕ) × (drop (p + 40 * i) file ≡ section_header (at + sum_by raw_size (take i ss)) (get_or ss i d) ++ tail)
unfolding section_headers
header_from file rest [] at p i d named is within = absurd (omega arith)
header_from file rest (s ∷ ss) at p zero d named is within =
    let place : p + 40 * 0 ≡ p = omega arith in
    let start : at + 0 ≡ at = omega arith in (
      section_headers (at + raw_size s) ss ++ rest,
      rw (place, start)
          (is ∙ append_assoc (section_header at s) (section_headers (at + raw_size s) ss) rest),
    )
header_from file rest (s ∷ ss) at p (suc i) d named is within =
    let next : drop (p + 40) file ≡ section_headers (at + raw_size s) ss ++ rest =
    past file (section_header at s) (section_headers (at + raw_size s) ss ++ rest) p 40
    (is ∙ append_assoc (section_header at s) (section_headers (at + raw_size s) ss) rest) (header-length at s named.0.name) in
    let later = header_from file rest ss (at + raw_size s) (p + 40) i d named.1 next (omega arith) in
    let place : p + 40 * suc i ≡ p + 40 + 40 * i = omega arith in
    let start : at + sum_by raw_size (take (suc i) (s ∷ ss)) ≡ at + raw_size s + sum_by raw_size (take i ss) =
    rw sum_by-cons (omega arith) in
    (later.0, rw (place, start) later.1)

-- a section's header begins there
pub record StandsAt (file : List ℕ) (at offset : ℕ) (s : Section) : Type 0 where
  pub tail : List ℕ
  pub is : drop at file ≡ section_header offset s ++ tail

pub header_at : (image : Image) (file : List ℕ) (i : ℕ) (d : Section) → IsFile image file → AreNamed (file_sections image)
    → i < length (file_sections image) → StandsAt file (328 + 40 * i) (offset_of (file_sections image) i) (get_or (file_sections image) i d)
header_at image file i d is named within =
    let found = header_from file _ (file_sections image) 0x200 328 i d named is.table within in
    record { tail = found.0; is = found.1 }

-- numbers that a section's header has room for
pub record HasRoom (offset : ℕ) (s : Section) : Type 0 where
  pub name : length s.name ≡ 8
  pub size : s.size < 2 ^ 32
  pub place : s.place < 2 ^ 32
  pub raw : raw_size s < 2 ^ 32
  pub at : offset < 2 ^ 32
  pub flags : s.flags < 2 ^ 32

-- the header of a section at an offset
abbrev pub header_of : ℕ → ℕ → Section → SectionHeader
header_of at offset s = record { at = at; virtual_size = s.size; place = s.place; raw_size = raw_size s; raw_at = offset; flags = s.flags }

made : (a b c d e f g h i j k l : ℕ) → a ≡ g → b ≡ h → c ≡ i → d ≡ j → e ≡ k → f ≡ l →
    ◌≡◌ {A = SectionHeader} (record { at = a; virtual_size = b; place = c; raw_size = d; raw_at = e; flags = f })
    (record { at = g; virtual_size = h; place = i; raw_size = j; raw_at = k; flags = l })
made a b c d e f g h i j k l p q r s t u = rw (p, q, r, s, t, u) refl

pub read_header :
    (file : List ℕ) (at offset p : ℕ) (s : Section) → StandsAt file at offset s → HasRoom offset s → p ≡ at →
    ◌≡◌ {A = SectionHeader} (record {
      at = p;
      virtual_size = u32_at file (p + 8);
      place = u32_at file (p + 12);
      raw_size = u32_at file (p + 16);
      raw_at = u32_at file (p + 20);
      flags = u32_at file (p + 36);
    }) (header_of at offset s)
unfolding number_at little_endian
read_header file at offset p s stands room same =
    let bytes : List ℕ = fields_of offset s ++ stands.tail in
    let fields : drop (at + 8) file ≡ bytes = past file s.name bytes at 8 (stands.is ∙ header-parts offset s stands.tail) room.name in
    made p _ _ _ _ _ at s.size s.place (raw_size s) offset s.flags same
    (number_from 4 file bytes (at + 8) 0 (p + 8) fields (omega arith) ∙ omega (arith, room.size))
    (number_from 4 file bytes (at + 8) 4 (p + 12) fields (omega arith) ∙ omega (arith, room.place))
    (number_from 4 file bytes (at + 8) 8 (p + 16) fields (omega arith) ∙ omega (arith, room.raw))
    (number_from 4 file bytes (at + 8) 12 (p + 20) fields (omega arith) ∙ omega (arith, room.at))
    (number_from 4 file bytes (at + 8) 28 (p + 36) fields (omega arith) ∙ omega (arith, room.flags))

pub section-is :
    (image : Image) (file : List ℕ) (i : ℕ) (d : Section) → IsFile image file → AreNamed (file_sections image)
    → i < length (file_sections image) →
    HasRoom (offset_of (file_sections image) i) (get_or (file_sections image) i d) →
    section_at file i ≡ header_of (328 + 40 * i) (offset_of (file_sections image) i) (get_or (file_sections image) i d)
unfolding section_at
section-is image file i d is named within room =
    read_header file (328 + 40 * i) (offset_of (file_sections image) i) (section_table file + 40 * i) (get_or (file_sections image) i d)
    (header_at image file i d is named within) room (omega (arith, section_table-is image file is))

pub name-is : (file : List ℕ) (at offset : ℕ) (s : Section) → StandsAt file at offset s → length s.name ≡ 8 → bytes_at file at 8 ≡ s.name
unfolding bytes_at
name-is file at offset s stands name =
    ap (take 8) (stands.is ∙ header-parts offset s stands.tail) ∙ take_at s.name (fields_of offset s ++ stands.tail) 8 name

-- ---- raw data

pub raw-enough : (s : Section) → length s.bytes ≤ raw_size s
raw-enough s = omega arith

raw-length : (s : Section) → length (raw_bytes s) ≡ raw_size s
unfolding raw_bytes
raw-length s = length-append s.bytes (zeros (raw_size s - length s.bytes))
    ∙ (ap (λ n. length s.bytes + n) (length-replicate (raw_size s - length s.bytes) 0) ∙ omega (arith, raw-enough s))

raws-length : (ss : List Section) → length (flat_map raw_bytes ss) ≡ sum_by raw_size ss
raws-length [] = refl
raws-length (s ∷ ss) = length-append (raw_bytes s) (flat_map raw_bytes ss)
    ∙ (ap₂ (λ m n. m + n) (raw-length s) (raws-length ss) ∙ sym (sum_by-cons raw_size s ss))

raw_from :
    (file : List ℕ) (ss : List Section) (p i : ℕ) (d : Section) → drop p file ≡ flat_map raw_bytes ss → i < length ss →
    (tail : List ℕ) × (drop (p + sum_by raw_size (take i ss)) file ≡ raw_bytes (get_or ss i d) ++ tail)
raw_from file [] p i d is within = absurd (omega arith)
raw_from file (s ∷ ss) p zero d is within =
    let place : p + 0 ≡ p = omega arith in
    (flat_map raw_bytes ss, rw place is)
raw_from file (s ∷ ss) p (suc i) d is within =
    let next : drop (p + raw_size s) file ≡ flat_map raw_bytes ss =
    past file (raw_bytes s) (flat_map raw_bytes ss) p (raw_size s) is (raw-length s) in
    let later = raw_from file ss (p + raw_size s) i d next (omega arith) in
    let place : p + sum_by raw_size (take (suc i) (s ∷ ss)) ≡ p + raw_size s + sum_by raw_size (take i ss) = rw sum_by-cons (omega arith) in
    (later.0, rw place later.1)

raws-at : (image : Image) (file : List ℕ) → IsFile image file → AreNamed (file_sections image) → length (file_sections image) ≤ 3
    → drop 0x200 file ≡ flat_map raw_bytes (file_sections image)
raws-at image file is named few =
    let k : ℕ = length (file_sections image) in
    let gap : drop (328 + 40 * k) file ≡ zeros (0x200 - (328 + 40 * k)) ++ flat_map raw_bytes (file_sections image) =
    past file (section_headers 0x200 (file_sections image)) _ 328 (40 * k) is.table (headers-length 0x200 (file_sections image) named) in
    let end : 328 + 40 * k + (0x200 - (328 + 40 * k)) ≡ 0x200 = omega arith in
    ap (λ n. drop n file) (sym end)
    ∙ past file (zeros (0x200 - (328 + 40 * k))) (flat_map raw_bytes (file_sections image)) (328 + 40 * k) (0x200 - (328 + 40 * k)) gap
    (length-replicate (0x200 - (328 + 40 * k)) 0)

-- a section's bytes stand where its raw data begin
pub raw-is :
    (image : Image) (file : List ℕ) (i : ℕ) (d : Section) → IsFile image file → AreNamed (file_sections image)
    → length (file_sections image) ≤ 3 → i < length (file_sections image) →
    (tail : List ℕ) × (drop (offset_of (file_sections image) i) file ≡ (get_or (file_sections image) i d).bytes ++ tail)
unfolding raw_bytes
raw-is image file i d is named few within =
    let found = raw_from file (file_sections image) 0x200 i d (raws-at image file is named few) within in
    (_, found.1 ∙ append_assoc (get_or (file_sections image) i d).bytes _ found.0)

pub file-length : (image : Image) (file : List ℕ) → IsFile image file → AreNamed (file_sections image) → length (file_sections image) ≤ 3
    → length file ≡ 0x200 + sum_by raw_size (file_sections image)
file-length image file is named few =
    let k : ℕ = length (file_sections image) in
    let heads : length (section_headers 0x200 (file_sections image)) ≡ 40 * k = headers-length 0x200 (file_sections image) named in
    let gap : length (zeros (0x200 - (328 + 40 * k))) ≡ 0x200 - (328 + 40 * k) = length-replicate (0x200 - (328 + 40 * k)) 0 in
    let raws : length (flat_map raw_bytes (file_sections image)) ≡ sum_by raw_size (file_sections image) =
    raws-length (file_sections image) in
    let table : length (table_on image) ≡ 40 * k + (0x200 - (328 + 40 * k) + sum_by raw_size (file_sections image)) =
    length-append (section_headers 0x200 (file_sections image)) _
    ∙ ap₂ (λ m n. m + n) heads (length-append (zeros (0x200 - (328 + 40 * k))) (flat_map raw_bytes (file_sections image))
    ∙ ap₂ (λ m n. m + n) gap raws) in
    let all : length file - 328 ≡ length (table_on image) = sym (length-drop 328 file) ∙ ap length is.table in
    omega (arith, table, all)
