-- For proofs: the instruction at a spot: the image's, and the machine's, which has a relocated immediate moved to where the
-- image lies.
use Rattle.std.specs.Prelude.{◌≡◌, ℕ, ◌+◌, ◌≤◌, length, Option, Some, None, ℤ, ⊤}
use Rattle.ebc_insn.specs.declared.Insn.TheVariants as insns
use Rattle.ebc_insn.specs.declared.Extra.TheVariants as extras
use Rattle.ebc_width.specs.Width.{wrap64}
use Rattle.ebc_width.specs.Bytes.{window}
use Rattle.ebc_insn.specs.Spelling.{WellFormed, spelling}
use Rattle.ebc_insn.specs.declared.Insn.{Insn}
use Rattle.ebc_insn.specs.declared.Extra.{Extra}
use Rattle.note_types.specs.Concrete.{Concrete}
use Rattle.note_types.specs.declared.spot.Spot.TheVariants.{Place}
use Rattle.host_model.specs.Values.{word}
use Rattle.neutral_machine.specs.Config.{Config}
use Rattle.host_model.specs.World.{World}
use Rattle.host_model.specs.Placements.{Placement}
use Rattle.neutral_machine.specs.Rows.{Site}

-- the immediate of an instruction that may be relocated: MOVI, or a jump or a call with a number beside R0
abbrev pub extra_immediate : Extra → Option ℤ
extra_immediate extras.Nothing = None
extra_immediate (extras.Imm v) = Some v
extra_immediate (extras.Idx i) = None

abbrev pub immediate_of : Insn → Option ℤ
immediate_of (insns.MoveImm size bits left lidx imm) = Some imm
immediate_of (insns.Jump cond far relative op extra) = extra_immediate extra
immediate_of (insns.Call far native relative op extra) = extra_immediate extra
immediate_of _ = None

-- a relocated immediate is the address of the place that it names
abbrev pub Names : Placement → Option ℕ → Option ℤ → Type 0
Names P None imm = ⊤
Names P (Some p) None = ⊥
Names P (Some p) (Some v) = wrap64 v ≡ word (P.image + p)

-- A machine is at an instruction: the configuration's spot is its place, the bytes at ip spell it, the place after it is that
-- past its spelling, and a relocated immediate is the address of the place that it names.
pub record IsAt (world : World) (P : Placement) (a : Config) (s : Concrete) (here : Site) (i : Insn) : Type 0 where
  pub spot : a.spot ≡ Place here.place
  pub well_formed : WellFormed i
  pub spelled : window s.byte s.ip (length (spelling i)) ≡ spelling i
  pub inside : here.place + length (spelling i) ≤ world.image_size
  pub next : here.next ≡ here.place + length (spelling i)
  pub names : Names P here.reloc (immediate_of i)
