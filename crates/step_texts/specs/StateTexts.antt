-- For proofs: the lines of what a run holds between two steps: docs/TRACE.md, "The state at the end".
use Rattle.std.specs.Prelude.{ℕ, List, [], ◌++◌, Bool, true, false, Option, Some, None, codes, option_map, slice_get}
use Rattle.std.specs.Fmt.{decimal}
use Rattle.std.specs.Option.{option_and_then, option_map_or}
use Rattle.note_types.specs.declared.notes.Notes.{Notes}
use Rattle.note_types.specs.declared.notes.Signature.{Signature}
use Rattle.printed_texts.specs.RunTexts.{place_text}
use Rattle.script_draft.specs.Printed.{function_name}
use Rattle.step_texts.specs.StepTexts.{flag_line, number_part, register_lines}
use Rattle.step_texts.specs.declared.state.Holdings.{Holdings}
use Rattle.step_texts.specs.declared.state.OpenCall.{OpenCall}
use Rattle.step_texts.specs.declared.state.OpenCall.TheVariants as calls
use Rattle.step_texts.specs.declared.state.OpenFunction.{OpenFunction}
use Rattle.step_texts.specs.declared.step.Change.{Change}

-- ---- the machine

-- an address behind a word, and what it is
abbrev pub address_line : Notes → (word : List ℕ) → Change → List ℕ
address_line notes word x = codes "  " ++ (word ++ (codes " " ++ (number_part notes x ++ codes "\n")))

-- a line of its own in front, the registers, ip and C
abbrev pub holdings_text : Notes → Holdings → List ℕ
holdings_text notes h =
    codes "state\n" ++ (register_lines notes h.registers ++ (address_line notes (codes "ip") h.ip ++ flag_line (Some h.has_c)))

-- ---- what is open

-- the name of a signature
abbrev pub signature_name : Notes → Option ℕ → Option (List ℕ)
signature_name notes s = option_map (λ (g : Signature). g.name) (option_and_then (slice_get notes.signature) s)

-- a name behind a space; nothing where there is no name
abbrev pub name_part : Option (List ℕ) → List ℕ
name_part name = option_map_or (λ text. codes " " ++ text) name []

-- the native call that is under way in a function: asked for at a place, or answered by the script's call of that number
abbrev pub call_line : Notes → Option OpenCall → List ℕ
call_line notes None = []
call_line notes (Some (calls.Asked place)) = codes "  asked " ++ (place_text place ++ codes "\n")
call_line notes (Some (calls.Accepted entry s)) =
    codes "  called " ++ (decimal entry ++ (name_part (signature_name notes s) ++ codes "\n"))

-- a CALL of the image that hasn't returned: the address to which it returns
abbrev pub back_line : Notes → Change → List ℕ
back_line notes back = address_line notes (codes "back") back

-- how a function was entered
abbrev pub entered_word : Bool → List ℕ
entered_word true = codes "notified"
entered_word false = codes "entered"

-- a function that was entered, and where the run goes on once it has returned
abbrev pub function_line : Notes → OpenFunction → List ℕ
function_line notes o =
    codes "  " ++ (entered_word o.notified ++ (name_part (function_name notes o.function)
    ++ (codes " " ++ (number_part notes o.back ++ codes "\n"))))
