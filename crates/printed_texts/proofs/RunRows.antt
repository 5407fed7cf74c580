-- Worked rows of the definitions: what is printed of runs of the driver of docs/NOTES.md, and of others.
use Rattle.std.proofs.Common.{◌≡◌, ℕ, List, [], ◌∷◌, ◌++◌, Some, None, codes, false, true, refl}
use Rattle.std.specs.Fmt.{digits}
use Rattle.asm_text.specs.Numbers.{hex_text}
use Rattle.note_types.specs.declared.ending.Ending.TheVariants as ending
use Rattle.note_types.specs.declared.event.Event.{Event}
use Rattle.note_types.specs.declared.event.Event.TheVariants as event
use Rattle.note_types.specs.declared.exception.Exception.TheVariants as exception
use Rattle.note_types.specs.declared.notes.FnNote.{FnNote}
use Rattle.note_types.specs.declared.notes.Notes.{Notes}
use Rattle.note_types.specs.declared.notes.Signature.{Signature}
use Rattle.note_types.specs.declared.reason.Reason.TheVariants as reason
use Rattle.note_types.specs.declared.seen.Seen.{Seen}
use Rattle.note_types.specs.declared.spot.Spot.TheVariants as spot
use Rattle.note_types.specs.declared.types.Ty.TheVariants as ty
use Rattle.note_types.specs.declared.value.Value.{Value}
use Rattle.note_types.specs.declared.value.Value.TheVariants as value
use Rattle.script_draft.specs.Printed.{named_value, value_text}
use Rattle.printed_texts.specs.RunTexts.{arguments_text, end_line, ending_text, event_line, place_text, run_text, twin_text, wild_text}

-- functions and signatures of these names
abbrev pub function : List ℕ → FnNote
function name = record {
  name = name;
  place = 0;
  end = 0;
  level = 0;
  need = record { n = 0; c = 0 };
  locals = None;
  params = [];
  result = ty.Any;
  enter = false;
}

abbrev pub signature : List ℕ → Signature
signature name = record { name = name; method = 0; params = []; result = None }

abbrev pub notes : Notes
notes = record {
  version = 1;
  entry = 0;
  shape = [];
  statics = [];
  thunk = [];
  point = [];
  site = [];
  function = function (codes "main") ∷ function (codes "tick") ∷ [];
  signature = signature (codes "locate") ∷ signature (codes "register") ∷ [];
  methods = codes "Locate" ∷ codes "Register" ∷ [];
}

abbrev given : Value → Seen
given v = record { lent = false; value = v }

abbrev lent : Value → Seen
lent v = record { lent = true; value = v }

abbrev pub one : Value → List Seen
one v = given v ∷ []

-- ---- the driver's run

abbrev asking : List Event
asking = event.Called 0x1014 (Some 0) (one value.Out) ∷ []

abbrev located : List Event
located = asking ++ event.Replied 0 (value.StatusOk 0) ∷ []

abbrev registered : List Event
registered = event.Called 0x1032 (Some 1) (one (value.Entry 1)) ∷ []

abbrev ticked : ℕ → List Event
ticked n = event.Entered 1 (one (value.Int n)) ∷ event.Returned 1 (value.StatusOk 0) ∷ []

abbrev refused : List Event
refused = asking ++ event.Replied 0 (value.StatusError 14) ∷ []

abbrev notified : List Event
notified = event.Notified 1 (one (value.Int 7)) ∷ event.Resumed 1 (value.StatusOk 0) ∷ []

abbrev driver : List Event
driver = located ++ (registered ++ (ticked 1 ++ (ticked 2 ++ event.Replied 1 (value.StatusOk 0) ∷ [])))

the_driver : run_text notes driver 32 spot.Gate (ending.Finished (value.StatusOk 0))
    ≡ codes "call 00001014 locate out\nreply 0 status ok 0\ncall 00001032 register entry tick\nenter tick int 1\n"
    ++ codes "return tick status ok 0\nenter tick int 2\nreturn tick status ok 0\nreply 1 status ok 0\nend 32 gate finished status ok 0\n"
unfolding place_text hex_text value_text named_value digits
the_driver = refl

-- where the script has one call alone
without_the_second_call : run_text notes (located ++ registered) 20 (spot.Place 0x1038) ending.ScriptEnd
    ≡ codes "call 00001014 locate out\nreply 0 status ok 0\ncall 00001032 register entry tick\nend 20 00001038 script end\n"
unfolding place_text hex_text value_text named_value digits
without_the_second_call = refl

-- where the first reply is an error
with_an_error : run_text notes refused 16 spot.Gate (ending.Finished (value.StatusError 14))
    ≡ codes "call 00001014 locate out\nreply 0 status error 14\nend 16 gate finished status error 14\n"
unfolding place_text hex_text value_text named_value digits
with_an_error = refl

-- where the first reply doesn't fit
with_a_wrong_reply : run_text notes asking 9 (spot.Place 0x1016) (ending.Mismatch (reason.Reply 0))
    ≡ codes "call 00001014 locate out\nend 9 00001016 mismatch reply\n"
unfolding place_text hex_text value_text named_value digits
with_a_wrong_reply = refl

-- where a notification comes behind that error
with_a_notification : run_text notes (refused ++ notified) 20 spot.Gate (ending.Finished (value.StatusError 14))
    ≡ codes "call 00001014 locate out\nreply 0 status error 14\nnotify tick int 7\nresume tick status ok 0\n"
    ++ codes "end 20 gate finished status error 14\n"
unfolding place_text hex_text value_text named_value digits
with_a_notification = refl

-- where a notification comes before the thunk is made
with_an_early_notification : run_text notes [] 2 (spot.Place 0x1006) (ending.Mismatch (reason.Notify 0))
    ≡ codes "end 2 00001006 mismatch notify\n"
unfolding place_text hex_text value_text named_value digits
with_an_early_notification = refl

-- ---- runs at both widths

abbrev finished : ℕ → List ℕ
finished steps = run_text notes [] steps spot.Gate (ending.Finished value.Any)

a_width_test : twin_text (finished 7) (finished 5) (Some 3)
    ≡ codes "width 32\nend 7 gate finished any\nwidth 64\nend 5 gate finished any\ndiffer 3\n"
unfolding place_text hex_text value_text named_value digits
a_width_test = refl

the_same : twin_text (finished 4) (finished 4) None
    ≡ codes "width 32\nend 4 gate finished any\nwidth 64\nend 4 gate finished any\nsame\n"
unfolding place_text hex_text value_text named_value digits
the_same = refl

-- ---- the last line

a_division_by_zero : end_line notes 3 (spot.Place 0x1008) (ending.Raised exception.DivideError)
    ≡ codes "end 3 00001008 raised divide_error\n"
unfolding place_text hex_text value_text named_value digits
a_division_by_zero = refl

at_the_limit : end_line notes 10000000 (spot.Place 0xFFFFFFFF) ending.Running
    ≡ codes "end 10000000 ffffffff running\n"
unfolding place_text hex_text value_text named_value digits
at_the_limit = refl

in_the_wild : end_line notes 1 (spot.Wild 0x0000000200ABCDEF) (ending.Raised exception.MemoryFault)
    ≡ codes "end 1 wild 0000000200abcdef raised memory_fault\n"
unfolding wild_text hex_text digits
in_the_wild = refl

a_tenth_frame : end_line notes 90 (spot.Place 0x1030) (ending.Mismatch reason.Depth)
    ≡ codes "end 90 00001030 mismatch depth\n"
unfolding place_text hex_text value_text named_value digits
a_tenth_frame = refl

another_argument : ending_text notes (ending.Mismatch (reason.Argument 3 (given (value.Int 1)) (given (value.Int 2))))
    ≡ codes "mismatch argument 3"
unfolding digits
another_argument = refl

no_site : ending_text notes (ending.Mismatch (reason.Site 0x1014))
    ≡ codes "mismatch site"
no_site = refl

another_target : ending_text notes (ending.Mismatch (reason.Target 0x100020))
    ≡ codes "mismatch target"
another_target = refl

another_signature : ending_text notes (ending.Mismatch (reason.Signature 0 1))
    ≡ codes "mismatch signature"
another_signature = refl

no_callback : ending_text notes (ending.Mismatch (reason.Enter 1 0))
    ≡ codes "mismatch enter"
no_callback = refl

no_thunk : ending_text notes (ending.Mismatch (reason.Thunk 0x102000))
    ≡ codes "mismatch thunk"
no_thunk = refl

not_bound : ending_text notes (ending.Mismatch (reason.Bind 1))
    ≡ codes "mismatch bind"
not_bound = refl

-- ---- arguments

a_call_with_no_site : event_line notes (event.Called 0xFFFFFFFF None [])
    ≡ codes "call ffffffff none\n"
unfolding place_text hex_text
a_call_with_no_site = refl

many_arguments : arguments_text notes (given (value.Int 5) ∷ given (value.Size 1 8) ∷ given (value.Ptr 3 4) ∷ given value.Null
    ∷ given (value.Handle 9) ∷ given (value.Method 1) ∷ given value.Any ∷ [])
    ≡ codes " int 5 size 1,8 ptr 3 4 null handle 9 method Register any"
unfolding value_text named_value digits
many_arguments = refl

lent_arguments : arguments_text notes (lent (value.StatusError 14) ∷ lent (value.Wild 0xABCDEF) ∷ given (value.Wild 0) ∷ [])
    ≡ codes " lent status error 14 lent wild 0000000000abcdef wild 0000000000000000"
unfolding value_text named_value digits
lent_arguments = refl
