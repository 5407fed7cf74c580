-- Meaning: what is printed of a run of two images on one host, and of one at both widths: docs/COMMANDS.md, "Printed lines".
use Rattle.std.specs.Prelude.{ℕ, List, ◌++◌, codes}
use Rattle.std.specs.List.{flat_map}
use Rattle.note_types.specs.declared.ending.Ending.{Ending}
use Rattle.note_types.specs.declared.notes.Notes.{Notes}
use Rattle.note_types.specs.declared.spot.Spot.{Spot}
use Rattle.pair_model.specs.declared.event.PairEvent.{PairEvent}
use Rattle.pair_model.specs.declared.event.PairEvent.TheVariants as events
use Rattle.script_draft.specs.Printed.{value_text}
use Rattle.printed_texts.specs.RunTexts.{end_line, event_line}

-- an event, on a line of its own, behind the letter of its image: one of A or of B, by the notes of that image; or the reply to a bound
-- call, whose value is one that a function of B returned
abbrev pub pair_event_line : (a b : Notes) → PairEvent → List ℕ
pair_event_line a b (events.A x) = codes "a " ++ event_line a x
pair_event_line a b (events.B x) = codes "b " ++ event_line b x
pair_event_line a b (events.Bound v) = codes "a reply bound " ++ (value_text b v ++ codes "\n")

-- a run: its events, and the last line. A run that finishes with a value that isn't an error finishes with one of A.
abbrev pub pair_run_text : (a b : Notes) → List PairEvent → ℕ → Spot → Ending → List ℕ
pair_run_text a b events steps spot ending = flat_map (pair_event_line a b) events ++ end_line a steps spot ending
