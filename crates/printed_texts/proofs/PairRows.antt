-- Worked rows of the definitions: what is printed of runs of the two drivers of docs/PAIRS.md.
use Rattle.std.proofs.Common.{◌≡◌, List, [], ◌∷◌, ◌++◌, Some, None, codes, refl}
use Rattle.std.specs.Fmt.{digits}
use Rattle.asm_text.specs.Numbers.{hex_text}
use Rattle.note_types.specs.declared.ending.Ending.TheVariants as ending
use Rattle.note_types.specs.declared.event.Event.TheVariants as event
use Rattle.note_types.specs.declared.notes.Notes.{Notes}
use Rattle.note_types.specs.declared.reason.Reason.TheVariants as reason
use Rattle.note_types.specs.declared.spot.Spot.TheVariants as spot
use Rattle.note_types.specs.declared.value.Value.TheVariants as value
use Rattle.pair_model.specs.declared.event.PairEvent.{PairEvent}
use Rattle.pair_model.specs.declared.event.PairEvent.TheVariants as pair_event
use Rattle.script_draft.specs.Printed.{named_value, value_text}
use Rattle.printed_texts.specs.PairTexts.{pair_event_line, pair_run_text}
use Rattle.printed_texts.specs.RunTexts.{place_text, twin_text}
use Rattle.printed_texts.proofs.RunRows.{function, notes, one, signature}

abbrev consumer : Notes
consumer = record notes { function = function (codes "main") ∷ []; signature = signature (codes "double") ∷ [] }

abbrev provider : Notes
provider = record notes { function = function (codes "main") ∷ function (codes "double") ∷ []; signature = [] }

abbrev asked : PairEvent
asked = pair_event.A (event.Called 0x100A (Some 0) (one (value.Int 21)))

abbrev answered : List PairEvent
answered = asked ∷ pair_event.B (event.Entered 1 (one (value.Int 21))) ∷ pair_event.B (event.Returned 1 (value.Int 42))
    ∷ pair_event.Bound (value.Int 42) ∷ []

the_pair : pair_run_text consumer provider answered 17 spot.Gate (ending.Finished (value.Int 42))
    ≡ codes "a call 0000100a double int 21\nb enter double int 21\nb return double int 42\na reply bound int 42\n"
    ++ codes "end 17 gate finished int 42\n"
unfolding place_text hex_text value_text named_value digits
the_pair = refl

-- where a thunk of the provider isn't made
a_thunk_not_made : pair_run_text consumer provider (asked ∷ []) 8 (spot.Place 0x100C) (ending.Mismatch (reason.Bind 1))
    ≡ codes "a call 0000100a double int 21\nend 8 0000100c mismatch bind\n"
unfolding place_text hex_text value_text named_value digits
a_thunk_not_made = refl

-- a value that the provider names stands by the name that it has there
the_name_of_the_provider : pair_event_line consumer provider (pair_event.Bound (value.Entry 1))
    ≡ codes "a reply bound entry double\n"
unfolding value_text named_value
the_name_of_the_provider = refl

-- where a run ends in the provider's own run, at both widths
the_provider_alone : twin_text (pair_run_text consumer provider [] 2 spot.Gate (ending.Finished (value.StatusError 3)))
    (pair_run_text consumer provider [] 2 spot.Gate (ending.Finished (value.StatusError 3))) None
    ≡ codes "width 32\nend 2 gate finished status error 3\nwidth 64\nend 2 gate finished status error 3\nsame\n"
unfolding place_text hex_text value_text named_value digits
the_provider_alone = refl
