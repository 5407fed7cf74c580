-- For proofs: the operands of an instruction on neutral values, in the same parts as the machine's: the value of operand 2,
-- and where operand 1 is. UEFI specification, chapter "EFI Byte Code Virtual Machine", sections "EBC Instruction Operands"
-- and "Natural Indexing"; in words in docs/SIMULATION.md, "The neutral machine's rows".
use Rattle.std.specs.Prelude.{ℕ, Bool, Option, Some, None, nat_eq, if◌then◌else◌}
use Rattle.std.specs.Option.{option_map, option_and_then}
use Rattle.ebc_width.specs.Width.{wrap64}
use Rattle.natural_index.specs.Index.{pair_of}
use Rattle.natural_index.specs.declared.Index.{Index}
use Rattle.ebc_insn.specs.declared.Operand.{Operand}
use Rattle.ebc_insn.specs.declared.Extra.{Extra}
use Rattle.ebc_insn.specs.declared.Extra.TheVariants.{Nothing, Imm, Idx}
use Rattle.host_model.specs.Values.{Neutral, Num, At, Junk, LocalOf, FieldOfLocals}
use Rattle.neutral_machine.specs.Config.{Config, with_value}
use Rattle.host_model.specs.World.{World}
use Rattle.neutral_machine.specs.Memory.{memory_of}
use Rattle.neutral_machine.specs.Outcomes.{Outcome, Gives, Stuck, or_stuck}
use Rattle.neutral_machine.specs.Operations.{sum_of}
use Rattle.neutral_machine.specs.Locations.{Access, Location, CellAt, Offset, kept, located_past, located_on_stack, value_at, stored_at}

-- an operand with what stands beside it: a register, whether it is the memory there, and a pair
pub record NeutralSide : Type 0 where
  pub reg : ℕ
  pub indirect : Bool
  pub beside : Option Offset

-- what an index counts, and an immediate
abbrev pub index_pair : Index → Offset
index_pair i = record { n = wrap64 (pair_of i).0; c = wrap64 (pair_of i).1 }

abbrev pub extra_pair : Extra → Option Offset
extra_pair Nothing = None
extra_pair (Imm v) = Some (record { n = 0; c = wrap64 v })
extra_pair (Idx i) = Some (index_pair i)

-- an operand with nothing beside it, with an index that may be left out, and with an immediate or an index
abbrev pub plainly : Operand → NeutralSide
plainly o = record { reg = o.reg; indirect = o.indirect; beside = None }

abbrev pub indexed : Operand → Option Index → NeutralSide
indexed o idx = record { reg = o.reg; indirect = o.indirect; beside = option_map index_pair idx }

abbrev pub beside_extra : Operand → Extra → NeutralSide
beside_extra o extra = record { reg = o.reg; indirect = o.indirect; beside = extra_pair extra }

-- a pair that may be left out
abbrev pub offset_of : Option Offset → Offset
offset_of None = record { n = 0; c = 0 }
offset_of (Some p) = p

-- a value and what stands beside it
abbrev pub moved_by : Neutral → Option Offset → Neutral
moved_by v None = v
moved_by v (Some p) = sum_of v (Num p.n p.c)

-- ---- where

-- what a register's value and a pair name
abbrev pub located_by : World → Config → ℕ → Option Offset → Option Location
located_by world a r beside =
    if nat_eq r 0 then located_on_stack world.notes a.frames (offset_of beside)
    else located_past world.notes (memory_of world a).objects (moved_by (a.registers r) beside)

-- ---- values

-- the address of a location, where it is that of a local
abbrev pub local_at_location : Option Location → Neutral
local_at_location (Some (CellAt (FieldOfLocals d f))) = At (LocalOf d f) 0 0
local_at_location _ = Junk

-- the value of a direct operand; R0 and a pair are the address of a local field where they name one exactly
abbrev pub direct_value : World → Config → ℕ → Option Offset → Neutral
direct_value world a r beside =
    if nat_eq r 0 then local_at_location (located_on_stack world.notes a.frames (offset_of beside))
    else moved_by (a.registers r) beside

-- the value in memory at a register and a pair, as an access keeps it
unfoldable pub loaded_by : World → Config → Access → ℕ → Option Offset → Outcome Neutral
loaded_by world a access r beside =
    or_stuck (option_map (kept world.notes (memory_of world a).objects access)
    (option_and_then (value_at world a access) (located_by world a r beside)))

-- the configuration with a value in memory at a register and a pair
unfoldable pub stored_by : World → Config → Access → ℕ → Option Offset → Neutral → Outcome Config
stored_by world a access r beside v = or_stuck (option_and_then (λ l. stored_at world a access l v) (located_by world a r beside))

-- the value of an operand
unfoldable pub value : World → Config → Access → NeutralSide → Outcome Neutral
value world a access o =
    if o.indirect then loaded_by world a access o.reg o.beside else Gives (direct_value world a o.reg o.beside)

-- the configuration with a value in a register; R0 isn't written so
unfoldable pub with_register : Config → ℕ → Neutral → Outcome Config
with_register a r v = if nat_eq r 0 then Stuck else Gives (record a { registers = with_value a.registers r v })

-- the configuration with a result in an operand
unfoldable pub written : World → Config → Access → NeutralSide → Neutral → Outcome Config
written world a access o v =
    if o.indirect then stored_by world a access o.reg o.beside v else with_register a o.reg v
