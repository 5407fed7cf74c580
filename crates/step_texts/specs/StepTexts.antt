-- For proofs: the lines of a step of a run: docs/TRACE.md, "The lines of a step".
use Rattle.std.specs.Prelude.{ℕ, ◌-◌, List, [], ◌++◌, Bool, true, false, Option, Some, None, codes, map, nat_eq}
use Rattle.std.specs.Prelude.{if◌then◌else◌, slice_index_or}
use Rattle.std.specs.Fmt.{decimal, digits}
use Rattle.std.specs.List.{concat, flat_map, range_with_len}
use Rattle.asm_text.specs.declared.listing.Listed.TheVariants as listed
use Rattle.asm_text.specs.Numbers.{hex_text}
use Rattle.asm_text.specs.Writing.{listed_text}
use Rattle.ebc_insn.specs.declared.Insn.{Insn}
use Rattle.note_types.specs.Records.{function_at}
use Rattle.note_types.specs.declared.event.Event.{Event}
use Rattle.note_types.specs.declared.notes.FnNote.{FnNote}
use Rattle.note_types.specs.declared.notes.Notes.{Notes}
use Rattle.note_types.specs.declared.spot.Spot.{Spot}
use Rattle.note_types.specs.declared.spot.Spot.TheVariants as spots
use Rattle.note_types.specs.declared.value.Value.TheVariants as values
use Rattle.printed_texts.specs.RunTexts.{event_line, spot_text}
use Rattle.script_draft.specs.Printed.{value_text}
use Rattle.step_texts.specs.declared.meaning.Meaning.{Meaning}
use Rattle.step_texts.specs.declared.meaning.Meaning.TheVariants as meanings
use Rattle.step_texts.specs.declared.meaning.Thing.{Thing}
use Rattle.step_texts.specs.declared.meaning.Thing.TheVariants as things
use Rattle.step_texts.specs.declared.step.Change.{Change}
use Rattle.step_texts.specs.declared.step.Step.{Step}
use Rattle.step_texts.specs.declared.step.Stored.{Stored}

-- ---- the first line

-- a place behind a space, by the function that it belongs to, as ` main+0x22`; nothing if it belongs to none
abbrev pub place_part : Option FnNote → ℕ → List ℕ
place_part None place = []
place_part (Some f) place = codes " " ++ (f.name ++ (codes "+0x" ++ digits 16 false (place - f.place)))

-- the same of where a run stands; nothing outside the image
abbrev pub function_part : Notes → Spot → List ℕ
function_part notes (spots.Place place) = place_part (function_at notes place) place
function_part notes spots.Gate = []
function_part notes (spots.Wild x) = []

-- an instruction behind a space, as a listing has it, its immediate as a number
abbrev pub instruction_part : Option Insn → List ℕ
instruction_part None = []
instruction_part (Some i) = codes " " ++ listed_text (listed.Instruction i None)

-- which step it is, where the run stood before it, and the instruction
abbrev pub step_line : Notes → Step → List ℕ
step_line notes s =
    codes "step " ++ (decimal s.number ++ (codes " " ++ (spot_text s.place
    ++ (function_part notes s.place ++ (instruction_part s.insn ++ codes "\n")))))

-- ---- addresses

-- so many bytes past something, if any
abbrev pub past_text : ℕ → List ℕ
past_text n = if nat_eq n 0 then [] else codes "+0x" ++ digits 16 false n

-- a thing as scripts have it, an object by the address of its first instance
abbrev pub thing_text : Notes → Thing → List ℕ
thing_text notes things.Gate = codes "gate"
thing_text notes (things.Method m) = value_text notes (values.Method m)
thing_text notes (things.Entry f) = value_text notes (values.Entry f)
thing_text notes (things.Handle k) = value_text notes (values.Handle k)
thing_text notes things.Stack = codes "stack"
thing_text notes (things.Object k) = codes "ptr " ++ (decimal k ++ codes " 0")

-- a place by the function that it belongs to, as `main+0x22`, or by the image
abbrev pub image_place_text : Option FnNote → ℕ → List ℕ
image_place_text None place = codes "image+0x" ++ digits 16 false place
image_place_text (Some f) place = f.name ++ (codes "+0x" ++ digits 16 false (place - f.place))

abbrev pub image_text : Notes → ℕ → List ℕ
image_text notes place = image_place_text (function_at notes place) place

-- what a number is as an address, behind a space; nothing if it is none
abbrev pub meaning_part : Notes → Option Meaning → List ℕ
meaning_part notes None = []
meaning_part notes (Some (meanings.Place place)) = codes " " ++ image_text notes place
meaning_part notes (Some (meanings.Past thing bytes)) = codes " " ++ (thing_text notes thing ++ past_text bytes)

-- a number, and what it is as an address
abbrev pub number_part : Notes → Change → List ℕ
number_part notes x = hex_text 16 x.number ++ meaning_part notes x.meaning

-- ---- the lines below it

-- an event, on a line of its own
abbrev pub event_below : Notes → Event → List ℕ
event_below notes e = codes "  " ++ event_line notes e

-- the new number of a register, if it changed, and what it is as an address
abbrev pub register_line : Notes → ℕ → Option Change → List ℕ
register_line notes r None = []
register_line notes r (Some x) = codes "  R" ++ (decimal r ++ (codes " " ++ (number_part notes x ++ codes "\n")))

-- the lines of the first n registers
unfoldable pub lines_below : Notes → List (Option Change) → ℕ → List ℕ
lines_below notes registers n = concat (map (λ r. register_line notes r (slice_index_or registers r None)) (range_with_len 0 n))

-- the lines of R0 to R7
abbrev pub register_lines : Notes → List (Option Change) → List ℕ
register_lines notes registers = lines_below notes registers 8

-- the new C, if it changed
abbrev pub flag_line : Option Bool → List ℕ
flag_line None = []
flag_line (Some true) = codes "  C 1\n"
flag_line (Some false) = codes "  C 0\n"

-- the bytes that an instruction stored, behind the address of the first one
abbrev pub stored_line : Notes → Option Stored → List ℕ
stored_line notes None = []
stored_line notes (Some s) =
    codes "  store " ++ (number_part notes s.address ++ (codes " " ++ (flat_map (hex_text 2) s.bytes.items ++ codes "\n")))

-- ---- a step

-- a step of a run, which added these events
abbrev pub step_text : Notes → Step → List Event → List ℕ
step_text notes s events =
    step_line notes s
    ++ (flat_map (event_below notes) events ++ (register_lines notes s.registers ++ (flag_line s.flag ++ stored_line notes s.stored)))
