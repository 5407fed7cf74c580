-- For proofs: what a step of a run changes, from the state before it to the state after it. docs/TRACE.md.
use Rattle.std.specs.Prelude.{ℕ, Bool, true, false, List, length, map, take, Option, Some, None, Result, Ok, Err, nat_eq}
use Rattle.std.specs.Prelude.{if◌then◌else◌, slice_index}
use Rattle.std.specs.List.{range_with_len}
use Rattle.std.specs.Option.{option_and_then, option_map}
use Rattle.ebc_width.specs.Ranges.{Range}
use Rattle.ebc_insn.specs.declared.Insn.{Insn}
use Rattle.ebc_machine.specs.Fetch.{fetched}
use Rattle.host_model.specs.HostSteps.{spot_of}
use Rattle.host_model.specs.Placements.{own_placement}
use Rattle.host_model.specs.RunState.{RunState}
use Rattle.host_model.specs.World.{World}
use Rattle.note_types.specs.Concrete.{Concrete, rest_from}
use Rattle.note_types.specs.declared.ending.Ending.{Ending}
use Rattle.note_types.specs.declared.ending.Ending.TheVariants.{Running}
use Rattle.note_types.specs.declared.exception.Exception.{Exception}
use Rattle.note_types.specs.declared.notes.Notes.{Notes}
use Rattle.step_texts.specs.declared.step.Change.{Change}
use Rattle.step_texts.specs.declared.step.Step.{Step}
use Rattle.step_texts.specs.declared.step.Stored.{Stored}
use Rattle.twin_run.specs.Watching.{has_c, is_hosts_turn}
use Rattle.run_trace.specs.Addresses.{held}
use Rattle.run_trace.specs.Stores.{stored_by}
use Rattle.run_trace.specs.declared.before.Before.{Before}
use Rattle.run_trace.specs.declared.stores.StoreRange.{StoreRange}

-- ---- the instruction

-- the instruction that was found, if any was
abbrev pub insn_of : Result (Insn × ℕ) Exception → Option Insn
insn_of (Ok found) = Some found.0
insn_of (Err e) = None

-- the instruction of the next step: none where that is the host's, or where no instruction can be read
unfoldable pub next_insn : World → RunState → Option Insn
next_insn world r = if is_hosts_turn world r then None else insn_of (fetched r.machine)

-- ---- registers and C

-- the new number, where it is another, and what it is as an address, where the objects lie so
abbrev pub change : Notes → List Range → ℕ → ℕ → Option Change
change notes objects old new =
    if nat_eq old new then None else Some (held notes objects new)

-- the new number of each of R0 to R7 that holds another
abbrev pub register_changes : Notes → List Range → List ℕ → List ℕ → List (Option Change)
register_changes notes objects old new =
    map (λ r. change notes objects (slice_index old r) (slice_index new r)) (range_with_len 0 8)

-- the new C, where it is another
abbrev pub flag_change : Bool → Bool → Option Bool
flag_change true true = None
flag_change true false = Some false
flag_change false true = Some true
flag_change false false = None

-- ---- what is stored

-- the bytes that the next step stores if it is done
unfoldable pub next_store : ℕ → World → RunState → Option StoreRange
next_store w world r = option_and_then (stored_by w r.machine.registers) (next_insn world r)

-- the first of the bytes that lie from an address on, so many
abbrev pub bytes_of : Change → (size : ℕ) → (rest : List ℕ) → Stored
bytes_of address size rest = record { address = address; bytes = record { items = take size rest } }

-- the bytes of a range as they lie in a memory
abbrev pub laid : Notes → Concrete → StoreRange → Option Stored
laid notes s range = option_map (bytes_of (held notes s.objects range.address) range.size) (rest_from s range.address)

-- a step that ends the run has stored nothing
abbrev pub unless_ended : Ending → Option Stored → Option Stored
unless_ended Running stored = stored
unless_ended _ stored = None

-- what the instruction of a step stored, with the bytes that lie there after it
unfoldable pub stored_in : Notes → Option StoreRange → RunState → Option Stored
stored_in notes range s = unless_ended s.ending (option_and_then (laid notes s.machine) range)

-- ---- a step

-- what of a state the lines of the step from it need
unfoldable pub before_of : ℕ → World → RunState → Before
before_of w world r = record {
  place = spot_of world (own_placement w world) r.machine;
  insn = next_insn world r;
  store = next_store w world r;
  registers = r.machine.registers;
  has_c = has_c r.machine;
  events = length r.trace;
}

-- the step of that number, from the state r to the state s
unfoldable pub step_of : ℕ → World → ℕ → RunState → RunState → Step
step_of w world number r s = record {
  number = number;
  place = spot_of world (own_placement w world) r.machine;
  insn = next_insn world r;
  registers = register_changes world.notes s.machine.objects r.machine.registers s.machine.registers;
  flag = flag_change (has_c r.machine) (has_c s.machine);
  stored = stored_in world.notes (next_store w world r) s;
}
