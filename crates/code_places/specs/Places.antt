-- For proofs: the line of each place of the code of an image: docs/COMMANDS.md, "The places of an image".
use Rattle.std.specs.Prelude.{[], false, ℕ, zero, suc, ◌+◌, ℤ, pos, negsuc, ◌+ℤ◌, ◌*ℤ◌, List, ◌++◌, codes, Bool, true, not, ◌&&◌, ◌||◌}
use Rattle.std.specs.Prelude.{Option, Some, None, nat_eq, nat_lt, if◌then◌else◌}
use Rattle.std.specs.Fmt.{digits}
use Rattle.std.specs.List.{flat_map}
use Rattle.std.specs.Option.{option_and_then}
use Rattle.ebc_insn.specs.declared.Insn.{Insn}
use Rattle.ebc_insn.specs.declared.Insn.TheVariants as insns
use Rattle.ebc_insn.specs.declared.Operand.{Operand}
use Rattle.ebc_insn.specs.declared.Extra.TheVariants.{Imm}
use Rattle.pe_image.specs.declared.image.Image.{Image}
use Rattle.pe_image.specs.Mapped.{image_byte}
use Rattle.asm_text.specs.declared.listing.Listed.{Listed}
use Rattle.asm_text.specs.declared.listing.Listed.TheVariants as listed
use Rattle.asm_text.specs.Numbers.{hex_text}
use Rattle.asm_text.specs.Writing.{listed_text}
use Rattle.ebc_disasm.specs.declared.code.Item.{Item}
use Rattle.ebc_disasm.specs.CodeItems.{items_of}

-- ---- what an instruction names by a distance

-- a distance that stands in the instruction: 64 bits of it, or fewer beside R0, which counts as zero
abbrev pub beside_zero : Bool → Operand → ℤ → Option ℤ
beside_zero far op imm = if far || (nat_eq op.reg 0 && not op.indirect) then Some imm else None

-- how far past the next instruction the place is that an instruction names, where it is known beforehand: that to which a relative
-- jump or call goes, and that whose address MOVREL loads
abbrev pub distance_in : Insn → Option ℤ
distance_in (insns.Jump8 cond words) = Some (words *ℤ pos 2)
distance_in (insns.Jump cond far true op (Imm imm)) = beside_zero far op imm
distance_in (insns.Call far native true op (Imm imm)) = beside_zero far op imm
distance_in (insns.MoveRelative bits left lidx imm) = Some imm
distance_in i = None

-- the same of a line
abbrev pub line_distance : Listed → Option ℤ
line_distance (listed.Instruction i place) = distance_in i
line_distance line = None

-- a place, where an image of this size has it
abbrev pub place_inside : ℕ → ℤ → Option ℕ
place_inside size (pos n) = if nat_lt n size then Some n else None
place_inside size (negsuc n) = None

-- the place of the image that a line names by a distance
abbrev pub line_target : Image → Item → Option ℕ
line_target image item = option_and_then (λ d. place_inside image.size (pos (item.place + item.count) +ℤ d)) (line_distance item.line)

-- ---- the text

-- a place as notes have it: `0x` and hexadecimal digits
unfoldable pub hex_place_text : ℕ → List ℕ
hex_place_text x = codes "0x" ++ digits 16 false x

-- the bytes from a place on, so many of them, each in two hexadecimal digits
unfoldable pub bytes_text : Image → ℕ → ℕ → List ℕ
bytes_text image x zero = []
bytes_text image x (suc n) = hex_text 2 (image_byte image x) ++ bytes_text image (x + 1) n

-- a place behind a line, where it names one: as a comment of the assembly text
abbrev pub target_part : Option ℕ → List ℕ
target_part None = []
target_part (Some x) = codes " ; " ++ hex_place_text x

-- the line of a place: the place, the bytes, and the listing's line with the place that it names
unfoldable pub place_line : Image → Item → List ℕ
place_line image item =
    hex_place_text item.place ++ (codes " " ++ (bytes_text image item.place item.count
    ++ (codes " " ++ (listed_text item.line ++ (target_part (line_target image item) ++ codes "\n")))))

-- the lines of the places of an image's code
unfoldable pub places_text : Image → List ℕ
places_text image = flat_map (place_line image) (items_of image)
