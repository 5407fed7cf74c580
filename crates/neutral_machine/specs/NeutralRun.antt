-- For proofs: Whole runs of the neutral machine over an image. docs/HOST.md, "Runs".
use Rattle.std.specs.Prelude.{ℕ, Option, Some, None, nat_eq, if◌then◌else◌}
use Rattle.std.specs.Option.{option_and_then}
use Rattle.ebc_insn.specs.declared.Insn.{Insn}
use Rattle.neutral_machine.specs.Rows.{NeutralRow, Next, Native, MakeThunk, executed}
use Rattle.note_types.specs.declared.ending.Ending.TheVariants.{Raised}
use Rattle.note_types.specs.declared.spot.Spot.{Spot}
use Rattle.note_types.specs.declared.spot.Spot.TheVariants.{Place}
use Rattle.pe_image.specs.declared.image.Image.{Image}
use Rattle.neutral_machine.specs.Config.{Config, with_call}
use Rattle.neutral_machine.specs.NeutralHost.{thunk_made}
use Rattle.neutral_machine.specs.NeutralRuns.{neutral_start, neutral_run}
use Rattle.neutral_machine.specs.Outcomes.{Gives, Raises, Stuck}
use Rattle.host_model.specs.Progress.{Asked}
use Rattle.host_model.specs.World.{World}
use Rattle.neutral_machine.specs.NeutralImage.{site_at, instruction_at, static_cells}

-- what an instruction at a place leaves of a configuration; BREAK 5 is served where the cell is the next to be made
abbrev pub instruction_left : World → Config → ℕ → NeutralRow → Option Config
instruction_left world a place (Gives (Next, b)) = Some b
instruction_left world a place (Gives (Native v, b)) = Some (record b { frames = with_call (Asked place v) b.frames })
instruction_left world a place (Gives (MakeThunk i, b)) = if nat_eq i b.made then thunk_made world b else None
instruction_left world a place (Raises e) = Some (record a { ending = Raised e })
instruction_left world a place Stuck = None

abbrev pub instruction_from : World → Image → Config → Spot → Option Config
instruction_from world image a (Place p) =
    option_and_then (λ (found : Insn × ℕ). instruction_left world a p (executed world a (site_at image p found.1) found.0))
    (instruction_at image p)
instruction_from world image a _ = None

-- the configuration after the instruction at its spot; none where the neutral machine is stuck
unfoldable pub neutral_instruction : World → Image → Config → Option Config
neutral_instruction world image a = instruction_from world image a a.spot

-- the configuration after so many steps of a run
abbrev pub config_after : World → Image → ℕ → Option Config
config_after world image k = neutral_run world (neutral_instruction world image) (neutral_start world (static_cells world image)) k
