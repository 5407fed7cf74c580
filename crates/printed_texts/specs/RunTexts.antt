-- Meaning: what is printed of a run, and of a run at both widths: docs/COMMANDS.md, "Printed lines".
use Rattle.std.specs.Prelude.{ℕ, List, [], ◌++◌, Option, Some, None, codes, slice_get}
use Rattle.std.specs.Fmt.{decimal}
use Rattle.std.specs.List.{flat_map}
use Rattle.std.specs.Option.{option_map_or}
use Rattle.asm_text.specs.Numbers.{hex_text}
use Rattle.note_types.specs.declared.ending.Ending.{Ending}
use Rattle.note_types.specs.declared.ending.Ending.TheVariants as endings
use Rattle.note_types.specs.declared.event.Event.{Event}
use Rattle.note_types.specs.declared.event.Event.TheVariants as events
use Rattle.note_types.specs.declared.exception.Exception.{Exception}
use Rattle.note_types.specs.declared.exception.Exception.TheVariants as exceptions
use Rattle.note_types.specs.declared.notes.Notes.{Notes}
use Rattle.note_types.specs.declared.notes.Signature.{Signature}
use Rattle.note_types.specs.declared.reason.Reason.{Reason}
use Rattle.note_types.specs.declared.reason.Reason.TheVariants as reasons
use Rattle.note_types.specs.declared.seen.Seen.{Seen}
use Rattle.note_types.specs.declared.spot.Spot.{Spot}
use Rattle.note_types.specs.declared.spot.Spot.TheVariants as spots
use Rattle.script_draft.specs.Printed.{function_name, seen_text, value_text}

-- ---- the parts of a line

-- a place, an offset in bytes from the image's base, in eight hexadecimal digits
unfoldable pub place_text : ℕ → List ℕ
place_text place = hex_text 8 place

-- a number that has no reading, in 16 hexadecimal digits
unfoldable pub wild_text : ℕ → List ℕ
wild_text x = codes "wild " ++ hex_text 16 x

-- where a run stands
abbrev pub spot_text : Spot → List ℕ
spot_text (spots.Place place) = place_text place
spot_text spots.Gate = codes "gate"
spot_text (spots.Wild x) = wild_text x

-- a function by its name
abbrev pub function_text : Notes → ℕ → List ℕ
function_text notes f = option_map_or (λ name. name) (function_name notes f) []

-- a signature by its name
abbrev pub signature_text : Notes → Option ℕ → List ℕ
signature_text notes None = codes "none"
signature_text notes (Some s) = option_map_or (λ (g : Signature). g.name) (slice_get notes.signature s) []

-- an argument, after a space
abbrev pub argument_text : Notes → Seen → List ℕ
argument_text notes s = codes " " ++ seen_text notes s

-- arguments in their order
abbrev pub arguments_text : Notes → List Seen → List ℕ
arguments_text notes args = flat_map (argument_text notes) args

-- ---- events

-- an event, on a line of its own
abbrev pub event_line : Notes → Event → List ℕ
event_line notes (events.Called place signature args) =
    codes "call " ++ (place_text place ++ (codes " " ++ (signature_text notes signature ++ (arguments_text notes args ++ codes "\n"))))
event_line notes (events.Entered f args) = codes "enter " ++ (function_text notes f ++ (arguments_text notes args ++ codes "\n"))
event_line notes (events.Returned f v) = codes "return " ++ (function_text notes f ++ (codes " " ++ (value_text notes v ++ codes "\n")))
event_line notes (events.Replied entry v) = codes "reply " ++ (decimal entry ++ (codes " " ++ (value_text notes v ++ codes "\n")))
event_line notes (events.Notified f args) = codes "notify " ++ (function_text notes f ++ (arguments_text notes args ++ codes "\n"))
event_line notes (events.Resumed f v) = codes "resume " ++ (function_text notes f ++ (codes " " ++ (value_text notes v ++ codes "\n")))

-- ---- endings

-- an exception by its name
abbrev pub exception_text : Exception → List ℕ
exception_text exceptions.DivideError = codes "divide_error"
exception_text exceptions.Breakpoint = codes "breakpoint"
exception_text exceptions.InvalidOpcode = codes "invalid_opcode"
exception_text exceptions.StackFault = codes "stack_fault"
exception_text exceptions.AlignmentCheck = codes "alignment_check"
exception_text exceptions.InstructionEncoding = codes "instruction_encoding"
exception_text exceptions.BadBreak = codes "bad_break"
exception_text exceptions.MemoryFault = codes "memory_fault"

-- why a run and its script don't match: of the numbers that a reason carries that of an argument alone is printed
abbrev pub reason_text : Reason → List ℕ
reason_text (reasons.Site place) = codes "site"
reason_text (reasons.Target address) = codes "target"
reason_text (reasons.Signature found wanted) = codes "signature"
reason_text (reasons.Argument number found wanted) = codes "argument " ++ decimal number
reason_text (reasons.Reply entry) = codes "reply"
reason_text (reasons.Enter entry callback) = codes "enter"
reason_text reasons.Depth = codes "depth"
reason_text (reasons.Thunk address) = codes "thunk"
reason_text (reasons.Notify number) = codes "notify"
reason_text (reasons.Bind f) = codes "bind"

-- how far a run is
abbrev pub ending_text : Notes → Ending → List ℕ
ending_text notes endings.Running = codes "running"
ending_text notes (endings.Finished v) = codes "finished " ++ value_text notes v
ending_text notes (endings.Raised e) = codes "raised " ++ exception_text e
ending_text notes (endings.Mismatch r) = codes "mismatch " ++ reason_text r
ending_text notes endings.ScriptEnd = codes "script end"

-- the last line of a run: how many steps it took, where it stands, and how far it is
abbrev pub end_line : Notes → ℕ → Spot → Ending → List ℕ
end_line notes steps spot ending =
    codes "end " ++ (decimal steps ++ (codes " " ++ (spot_text spot ++ (codes " " ++ (ending_text notes ending ++ codes "\n")))))

-- ---- runs

-- a run: its events, and the last line
abbrev pub run_text : Notes → List Event → ℕ → Spot → Ending → List ℕ
run_text notes events steps spot ending = flat_map (event_line notes) events ++ end_line notes steps spot ending

-- whether two runs are the same after each number of steps, or the least one after which they aren't
abbrev pub differ_line : Option ℕ → List ℕ
differ_line None = codes "same\n"
differ_line (Some step) = codes "differ " ++ (decimal step ++ codes "\n")

-- a run at both widths, of the texts of the two runs
abbrev pub twin_text : List ℕ → List ℕ → Option ℕ → List ℕ
twin_text at4 at8 differ = codes "width 32\n" ++ (at4 ++ (codes "width 64\n" ++ (at8 ++ differ_line differ)))
