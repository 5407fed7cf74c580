-- Meaning: the listing of an image, as lines: docs/ASSEMBLY.md, "Listings". A place is an offset from the image's base.
use Rattle.std.specs.Prelude.{[], ℕ, zero, suc, ◌+◌, ◌-◌, ◌*◌, ◌/◌, ◌%◌, Bool, false, not, ◌&&◌, ◌||◌, List, ◌∷◌, ◌++◌, length, Option}
use Rattle.std.specs.Prelude.{Some}
use Rattle.std.specs.Prelude.{None, is_some, option_map, Result, Ok, Err, nat_eq, nat_le, nat_lt, if◌then◌else◌, pos}
use Rattle.std.specs.List.{list_any, list_all, find, filter_map, flat_map}
use Rattle.std.specs.Option.{option_and_then, option_or, unwrap_or}
use Rattle.ebc_insn.specs.declared.Insn.{Insn}
use Rattle.ebc_insn.specs.declared.Insn.TheVariants as insns
use Rattle.ebc_insn.specs.declared.Size.TheVariants as sizes
use Rattle.ebc_insn.specs.declared.Extra.TheVariants.{Imm}
use Rattle.ebc_decode.specs.declared.DecodeFault.{DecodeFault}
use Rattle.ebc_decode.specs.Reading.{read}
use Rattle.pe_image.specs.declared.image.Image.{Image}
use Rattle.pe_image.specs.declared.image.Section.{Section}
use Rattle.pe_image.specs.Files.{zeros}
use Rattle.pe_image.specs.Mapped.{has_place, named_place}
use Rattle.asm_text.specs.declared.listing.Listed.{Listed}
use Rattle.asm_text.specs.declared.listing.Listed.TheVariants as listed
use Rattle.asm_text.specs.Writing.{listed_text}

-- ---- relocations and labels

-- whether a place is in a section
unfoldable pub in_section : Image → ℕ → Bool
in_section image x = list_any (has_place x) image.sections

-- the target of a relocation, if it is in a section
unfoldable pub named : Image → ℕ → Option ℕ
named image r = if in_section image (named_place image r) then Some (named_place image r) else None

-- the places with a label: where the image is entered, and the targets of relocations
unfoldable pub labels : Image → List ℕ
labels image = image.entry ∷ filter_map (named image) image.relocs

-- a place is inside some bytes: past the first of them
abbrev pub is_inside : ℕ → ℕ → ℕ → Bool
is_inside x n place = nat_lt x place && nat_lt place (x + n)

-- whether a label lies inside the n bytes at a place
unfoldable pub is_cut : Image → ℕ → ℕ → Bool
is_cut image x n = list_any (is_inside x n) (labels image)

-- a relocation lies on the n bytes at a place: one of its eight bytes is one of them
abbrev pub lies_on : ℕ → ℕ → ℕ → Bool
lies_on x n r = nat_lt x (r + 8) && nat_lt r (x + n)

-- ---- what is listed at a place: the first of four that applies, with the count of its bytes

-- 1. `.dq` and a label, at a relocation whose target is in a section
unfoldable pub place_at : Image → ℕ → List ℕ → Option (Listed × ℕ)
place_at image x bytes =
    if nat_le 8 (length bytes) && list_any (nat_eq x) image.relocs
    then option_map (λ target. (listed.Place target, 8)) (named image x)
    else None

-- MOVIqq, and an absolute JMP64 or CALL64
abbrev pub takes_label : Insn → Bool
takes_label (insns.MoveImm sizes.Qword bits left lidx imm) = nat_eq bits 64
takes_label (insns.Jump cond far relative op extra) = far && not relative
takes_label (insns.Call far native relative op extra) = far && not relative
takes_label _ = false

-- a relocation is that of the immediate of an instruction that ends before `next`, and its target is in a section
abbrev pub is_of_immediate : Image → Insn → ℕ → ℕ → Bool
is_of_immediate image i next r = takes_label i && nat_eq (r + 8) next && is_some (named image r)

-- no label lies inside an instruction, and no relocation on it but one of its immediate
unfoldable pub is_whole : Image → ℕ → Insn → ℕ → Bool
is_whole image x i n =
    not (is_cut image x n) && list_all (λ r. not (lies_on x n r) || is_of_immediate image i (x + n) r) image.relocs

-- the target of the relocation that ends before `next`
unfoldable pub label_before : Image → ℕ → Option ℕ
label_before image next = option_and_then (named image) (find (λ r. nat_eq (r + 8) next) image.relocs)

-- an instruction whose immediate a label stands for
abbrev pub without_immediate : Insn → Insn
without_immediate (insns.MoveImm size bits left lidx imm) = insns.MoveImm size bits left lidx (pos 0)
without_immediate (insns.Jump cond far relative op extra) = insns.Jump cond far relative op (Imm (pos 0))
without_immediate (insns.Call far native relative op extra) = insns.Call far native relative op (Imm (pos 0))
without_immediate i = i

abbrev pub with_label : Insn → Option ℕ → Listed
with_label i None = listed.Instruction i None
with_label i (Some target) = listed.Instruction (without_immediate i) (Some target)

-- 2. an instruction, in code
abbrev pub if_whole : Image → ℕ → Result (Insn × ℕ) DecodeFault → Option (Listed × ℕ)
if_whole image x (Ok (i, n)) =
    if is_whole image x i n then Some (with_label i (label_before image (x + n)), n) else None
if_whole image x (Err fault) = None

unfoldable pub insn_at : Image → ℕ → List ℕ → Option (Listed × ℕ)
insn_at image x bytes = if_whole image x (read bytes)

-- 3. `.dw`, in code, where no label lies inside its two bytes and no relocation on them
unfoldable pub word_at : Image → ℕ → List ℕ → Option (Listed × ℕ)
word_at image x (b ∷ c ∷ bytes) =
    if not (is_cut image x 2) && not (list_any (lies_on x 2) image.relocs) then Some (listed.Word (b + 256 * c), 2) else None
word_at image x _ = None

-- 4. `.db` of one byte
abbrev pub byte_at : List ℕ → Listed × ℕ
byte_at [] = (listed.Byte 0, 1)
byte_at (b ∷ bytes) = (listed.Byte b, 1)

-- only in code
abbrev pub in_code : Bool → Option (Listed × ℕ) → Option (Listed × ℕ)
in_code code item = if code then item else None

unfoldable pub item_at : Image → Bool → ℕ → List ℕ → Listed × ℕ
item_at image code x bytes =
    unwrap_or
    (option_or (place_at image x bytes) (option_or (in_code code (insn_at image x bytes)) (in_code code (word_at image x bytes))))
    (byte_at bytes)

-- ---- the lines of a section and of an image

-- the lines before what is listed at a place: its label, and `.global` before the label of the entry
unfoldable pub label_lines : Image → ℕ → List Listed
label_lines image x =
    if nat_eq x image.entry then listed.Global x ∷ listed.Label x ∷ []
    else if list_any (nat_eq x) (labels image) then listed.Label x ∷ []
    else []

-- The lines of the bytes from a place on up to the end of their section, of which the first `inside` belong to what is listed
-- before them. No line stands inside what is listed, so a label among the last seven bytes of a `.dq` isn't printed.
unfoldable pub lines_from : Image → Bool → ℕ → ℕ → List ℕ → List Listed
lines_from image code inside x [] = []
lines_from image code (suc inside) x (b ∷ bytes) = lines_from image code inside (x + 1) bytes
lines_from image code zero x (b ∷ bytes) =
    label_lines image x
    ++ (item_at image code x (b ∷ bytes)).0 ∷ lines_from image code ((item_at image code x (b ∷ bytes)).1 - 1) (x + 1) bytes

-- a section has code where bit 5 of its flags is set (PE/COFF specification, "Section Flags", IMAGE_SCN_CNT_CODE)
abbrev pub has_code : Section → Bool
has_code s = nat_eq (s.flags / 32 % 2) 1

-- the bytes of a section, with the zeros that follow those of the file
abbrev pub bytes_of : Section → List ℕ
bytes_of s = s.bytes ++ zeros (s.size - length s.bytes)

-- the first line of a section
abbrev pub heading : Bool → Listed
heading code = if code then listed.Code else listed.Data

unfoldable pub section_lines : Image → Section → List Listed
section_lines image s = heading (has_code s) ∷ lines_from image (has_code s) 0 s.place (bytes_of s)

unfoldable pub lines_of : Image → List Listed
lines_of image = flat_map (section_lines image) image.sections

-- ---- the text

-- a line and its line feed
abbrev pub line_text : Listed → List ℕ
line_text line = listed_text line ++ 10 ∷ []

unfoldable pub text_of : List Listed → List ℕ
text_of lines = flat_map line_text lines

-- the listing of an image
unfoldable pub listing_of : Image → List ℕ
listing_of image = text_of (lines_of image)
