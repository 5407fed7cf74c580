-- For proofs: that the instructions of a source stand in the loaded image that it is linked to, with what their names stand for.
-- docs/ASSEMBLY.md, "Names", says what a name may stand for; docs/LINKING.md, where symbols stand; docs/IMAGES.md, "What is
-- loaded", what a loaded image is.
use Rattle.std.specs.Prelude.{◌≡◌, ℕ, ◌+◌, ◌-◌, ◌%◌, ◌^◌, Bool, true, false, List, ◌∷◌, ◌++◌, length, Option, Some, None, All, Ok}
use Rattle.std.specs.Prelude.{ℤ, pos, ◌+ℤ◌, ◌*ℤ◌, nat_eq, if◌then◌else◌}
use Rattle.std.specs.List.{Contains}
use Rattle.ebc_insn.specs.declared.Insn.{Insn}
use Rattle.ebc_insn.specs.declared.Insn.TheVariants as insns
use Rattle.ebc_insn.specs.declared.Extra.TheVariants.{Imm}
use Rattle.ebc_insn.specs.Spelling.{spelling}
use Rattle.ebc_width.specs.Bytes.{window}
use Rattle.ebc_width.specs.Width.{signed_at}
use Rattle.ebc_decode.specs.Reading.{read}
use Rattle.ebc_object.specs.Objects.{IsObject}
use Rattle.ebc_object.specs.declared.object.Object.{Object}
use Rattle.ebc_object.specs.declared.object.Symbol.{Symbol}
use Rattle.asm_text.specs.Lines.{Line, line_in}
use Rattle.asm_text.specs.Statements as statements
use Rattle.ebc_asm.specs.Pieces.{ends_in_data, immediate_size, is_distance, section_of}
use Rattle.ebc_asm.specs.Sources.{object_in}
use Rattle.pe_image.specs.Mapped.{AreBytes, mapped}
use Rattle.pe_image.specs.declared.image.Image.{Image}
use Rattle.ebc_link.specs.declared.plan.LinkPlan.{LinkPlan}
use Rattle.ebc_link.specs.Layout.{Laid, laid_objects}
use Rattle.ebc_link.specs.Linked.{Linked, StandsAt}

-- an instruction with another immediate, where a name may stand for it
abbrev pub with_immediate : Insn → ℤ → Insn
with_immediate (insns.Jump8 cond words) v = insns.Jump8 cond v
with_immediate (insns.Jump cond far relative op extra) v = insns.Jump cond far relative op (Imm v)
with_immediate (insns.Call far native relative op extra) v = insns.Call far native relative op (Imm v)
with_immediate (insns.MoveImm size bits left lidx imm) v = insns.MoveImm size bits left lidx v
with_immediate (insns.MoveRelative bits left lidx imm) v = insns.MoveRelative bits left lidx v
with_immediate i v = i

-- A name of an object stands at a place of the image.
abbrev pub NameStands : List Laid → Laid → List ℕ → ℕ → Type 0
NameStands ls l name place = (s : Symbol) × Contains l.object.symbols s × (s.name ≡ name) × StandsAt ls l s place

-- A number is what a place is for an instruction before another place, in an image that is loaded at a base: the address of
-- the place, as a signed number; or how many bytes, or words of two, the place lies behind the other one.
abbrev pub IsNumberBy : Bool → Insn → ℕ → ℕ → ℕ → ℤ → Type 0
IsNumberBy true i base next place v = pos place ≡ pos next +ℤ (if nat_eq (immediate_size i) 1 then v *ℤ pos 2 else v)
IsNumberBy false i base next place v = v ≡ signed_at 64 ((base + place) % 2 ^ 64)

abbrev pub IsNumberOf : Insn → ℕ → ℕ → ℕ → ℤ → Type 0
IsNumberOf i base next place v = IsNumberBy (is_distance i) i base next place v

-- An instruction with its symbols resolved: the immediate for which a name stands is the number of the place where it stands.
abbrev pub IsResolved : List Laid → Laid → ℕ → ℕ → Insn → Option (List ℕ) → Insn → Type 0
IsResolved ls l base next i None j = j ≡ i
IsResolved ls l base next i (Some name) j =
    (place : ℕ) × (v : ℤ) × NameStands ls l name place × IsNumberOf i base next place v × (j ≡ with_immediate i v)

-- A line is read from a text.
abbrev pub IsRead : Line → Type 0
IsRead line = (text : List ℕ) × (line_in text ≡ Ok line)

-- where a line that stands in the code of an object stands in the image, behind these lines
abbrev pub line_place : Laid → List Line → ℕ
line_place l front = l.home.code + length (section_of false false front)

-- What is decoded at a place of an image that is loaded at a base is an instruction, of n bytes.
abbrev pub IsDecoded : Image → ℕ → ℕ → Insn → ℕ → Type 0
IsDecoded image base p j n = read (window (mapped image base) p (image.size - p)) ≡ Ok (j, n)

-- Where an object that is linked is that of lines that are read, each instruction in its code stands in the image, loaded at any
-- base: what is decoded behind the object's code before it is the instruction with its symbols resolved.
abbrev pub LinkedLoads : Type 0
LinkedLoads =
    (objects : List Object) (plan : LinkPlan) (image : Image) (base : ℕ) (l : Laid) (front back : List Line) (line : Line) (i : Insn)
    (name : Option (List ℕ)) → Linked objects plan image → AreBytes image → All IsObject objects → Contains (laid_objects objects) l
    → l.object ≡ object_in (front ++ line ∷ back) → All IsRead (front ++ line ∷ back)
    → line.statement ≡ Some (statements.Instruction i name) → ends_in_data false front ≡ false
    → (j : Insn) × IsResolved (laid_objects objects) l base (line_place l front + length (spelling i)) i name j
    × IsDecoded image base (line_place l front) j (length (spelling i))
