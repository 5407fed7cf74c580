-- Meaning: the leaders of a function's code: the places that its jumps name. docs/crates/note_infer.md has the words.
use Rattle.std.specs.Prelude.{◌≡◌, ◌↔◌, ℕ, ◌<◌, ◌≤◌, Bool, true, false, not, ◌&&◌, nat_eq, if◌then◌else◌, List, Option, Some, None}
use Rattle.std.specs.Prelude.{slice_get, ℤ, pos, ◌+ℤ◌, ◌*ℤ◌}
use Rattle.std.specs.List.{Contains}
use Rattle.std.specs.List.Sorted.{IsStrictlyIncreasing}
use Rattle.ebc_insn.specs.declared.Extra.{Extra}
use Rattle.ebc_insn.specs.declared.Extra.TheVariants.{Imm}
use Rattle.ebc_insn.specs.declared.Insn.{Insn}
use Rattle.ebc_insn.specs.declared.Insn.TheVariants as insn
use Rattle.ebc_insn.specs.declared.Operand.{Operand}
use Rattle.note_types.specs.declared.notes.FnNote.{FnNote}
use Rattle.note_types.specs.declared.notes.Notes.{Notes}
use Rattle.pe_image.specs.declared.image.Image.{Image}
use Rattle.rules_image.specs.Images.{IsDecoded}
use Rattle.rules_image.specs.Places.{IsPlaceOf}
use Rattle.rules_image.specs.Images.{reloc_at}

-- the place that a relocated immediate names
abbrev pub relocated_place : Option ℕ → Option ℤ
relocated_place None = None
relocated_place (Some place) = Some (pos place)

-- the place that a JMP before `next` names: by an immediate of 64 bits, relative or relocated, or a relative one beside R0
abbrev pub jump_names : ℕ → Option ℕ → Bool → Bool → Operand → Extra → Option ℤ
jump_names next reloc true true op (Imm imm) = Some (pos next +ℤ imm)
jump_names next reloc true false op (Imm imm) = relocated_place reloc
jump_names next reloc false true op (Imm imm) = if nat_eq op.reg 0 && not op.indirect then Some (pos next +ℤ imm) else None
jump_names next reloc far rel op extra = None

-- the place that an instruction names as the target of a jump, where it does
abbrev pub names_place : ℕ → Option ℕ → Insn → Option ℤ
names_place next reloc (insn.Jump8 cond words) = Some (pos next +ℤ words *ℤ pos 2)
names_place next reloc (insn.Jump cond far rel op extra) = jump_names next reloc far rel op extra
names_place next reloc i = None

-- a place of a function's code that an instruction at one of the function's places names
pub record IsLeaderOf (image : Image) (f : FnNote) (leader : ℕ) : Type 0 where
  pub from : ℕ
  pub reached : IsPlaceOf image f from
  pub insn : Insn
  pub next : ℕ
  pub decode : IsDecoded image f from insn next
  pub names : names_place next (reloc_at image next) insn ≡ Some (pos leader)
  pub first : f.place ≤ leader
  pub within : leader < f.end

-- a leader of one of the functions
pub record IsLeader (image : Image) (notes : Notes) (leader : ℕ) : Type 0 where
  pub number : ℕ
  pub f : FnNote
  pub there : slice_get notes.function number ≡ Some f
  pub of : IsLeaderOf image f leader

-- these are all leaders, in ascending order
pub record AreLeaders (image : Image) (notes : Notes) (leaders : List ℕ) : Type 0 where
  pub ascend : IsStrictlyIncreasing leaders
  pub all : (place : ℕ) → Contains leaders place ↔ IsLeader image notes place
