-- Worked rows of the definitions: what is printed of steps of the driver of docs/TRACE.md, and of others.
use Rattle.std.proofs.Common.{◌≡◌, ℕ, List, [], ◌∷◌, Option, Some, None, codes, false, true, refl}
use Rattle.std.specs.Fmt.{digits}
use Rattle.asm_text.specs.Mnemonics.{word_of}
use Rattle.asm_text.specs.Numbers.{hex_text}
use Rattle.asm_text.specs.Writing.{listed_text}
use Rattle.ebc_insn.specs.declared.Insn.TheVariants.{Ret}
use Rattle.note_types.specs.Records.{function_at}
use Rattle.note_types.specs.declared.event.Event.TheVariants as event
use Rattle.note_types.specs.declared.notes.FnNote.{FnNote}
use Rattle.note_types.specs.declared.notes.Notes.{Notes}
use Rattle.note_types.specs.declared.spot.Spot.{Spot}
use Rattle.note_types.specs.declared.spot.Spot.TheVariants as spot
use Rattle.note_types.specs.declared.types.Ty.TheVariants as ty
use Rattle.note_types.specs.declared.value.Value.TheVariants as value
use Rattle.printed_texts.specs.RunTexts.{place_text, wild_text}
use Rattle.script_draft.specs.Printed.{named_value, value_text}
use Rattle.step_texts.specs.declared.meaning.Meaning.{Meaning}
use Rattle.step_texts.specs.declared.meaning.Meaning.TheVariants as meaning
use Rattle.step_texts.specs.declared.meaning.Thing.TheVariants as thing
use Rattle.step_texts.specs.declared.step.Change.{Change}
use Rattle.step_texts.specs.declared.step.Step.{Step}
use Rattle.step_texts.specs.StepTexts.{lines_below, meaning_part, step_text}

-- functions of these names, with their code between these places
abbrev function : List ℕ → ℕ → ℕ → FnNote
function name place end = record {
  name = name;
  place = place;
  end = end;
  level = 0;
  need = record { n = 0; c = 0 };
  locals = None;
  params = [];
  result = ty.Any;
  enter = false;
}

abbrev pub notes : Notes
notes = record {
  version = 1;
  entry = 0;
  shape = [];
  statics = [];
  thunk = [];
  point = [];
  site = [];
  function = function (codes "main") 0x1000 0x1044 ∷ function (codes "tick") 0x1044 0x104A ∷ [];
  signature = [];
  methods = [];
}

abbrev same : List (Option Change)
same = None ∷ None ∷ None ∷ None ∷ None ∷ None ∷ None ∷ []

-- a step of this number at a place, which gave R0 such a number, an address of this meaning
abbrev moved : ℕ → Spot → ℕ → Option Meaning → Step
moved number place top meaning = record {
  number = number;
  place = place;
  insn = None;
  registers = Some (record { number = top; meaning = meaning }) ∷ same;
  flag = None;
  stored = None;
}

-- a step of this number at a place that changed nothing
abbrev still : ℕ → Spot → Step
still number place = record (moved number place 0 None) { registers = None ∷ same }

a_callback : step_text notes (moved 21 (spot.Place 0x1038) 0x10414C (Some (meaning.Past thing.Stack 0xEC)))
    (event.Entered 1 (record { lent = false; value = value.Int 1 } ∷ []) ∷ [])
    ≡ codes "step 21 00001038 main+0x38\n  enter tick int 1\n  R0 000000000010414c stack+0xec\n"
unfolding place_text hex_text value_text named_value digits function_at lines_below
a_callback = refl

at_the_gate : step_text notes (moved 24 spot.Gate 0x104160 (Some (meaning.Past thing.Stack 0x100)))
    (event.Returned 1 (value.StatusOk 0) ∷ [])
    ≡ codes "step 24 gate\n  return tick status ok 0\n  R0 0000000000104160 stack+0x100\n"
unfolding place_text hex_text value_text named_value digits function_at lines_below
at_the_gate = refl

a_store : step_text notes
    (record (still 2 (spot.Place 0x1044)) {
      stored = Some (record {
        address = record { number = 0x106190; meaning = Some (meaning.Past thing.Stack 0xF0) };
        bytes = record { items = 0x40 ∷ 0 ∷ 0x10 ∷ 0 ∷ [] };
      });
    }) []
    ≡ codes "step 2 00001044 tick+0x0\n  store 0000000000106190 stack+0xf0 40001000\n"
unfolding place_text hex_text digits function_at lines_below
a_store = refl

a_flag : step_text notes (record (still 12 (spot.Place 0x104A)) { flag = Some true }) [] ≡ codes "step 12 0000104a\n  C 1\n"
unfolding place_text hex_text digits function_at lines_below
a_flag = refl

a_flag_again : step_text notes (record (still 13 (spot.Place 0xFFFFFFFF)) { flag = Some false }) [] ≡ codes "step 13 ffffffff\n  C 0\n"
unfolding place_text hex_text digits function_at lines_below
a_flag_again = refl

outside_the_image : step_text notes (record (still 4 (spot.Wild 0x1040A0)) { insn = Some Ret }) []
    ≡ codes "step 4 wild 00000000001040a0 RET\n"
unfolding wild_text hex_text digits lines_below listed_text word_of
outside_the_image = refl

no_address : step_text notes (moved 5 spot.Gate 7 None) [] ≡ codes "step 5 gate\n  R0 0000000000000007\n"
unfolding hex_text digits lines_below
no_address = refl

an_object : meaning_part notes (Some (meaning.Past (thing.Object 1) 0)) ≡ codes " ptr 1 0"
unfolding digits
an_object = refl

in_an_object : meaning_part notes (Some (meaning.Past (thing.Object 12) 0x20)) ≡ codes " ptr 12 0+0x20"
unfolding digits
in_an_object = refl

in_a_function : meaning_part notes (Some (meaning.Place 0x1044)) ≡ codes " tick+0x0"
unfolding digits function_at
in_a_function = refl

in_the_image : meaning_part notes (Some (meaning.Place 0x2000)) ≡ codes " image+0x2000"
unfolding digits function_at
in_the_image = refl

a_thunk : meaning_part notes (Some (meaning.Past (thing.Entry 1) 0)) ≡ codes " entry tick"
unfolding value_text named_value
a_thunk = refl

a_handle : meaning_part notes (Some (meaning.Past (thing.Handle 3) 1)) ≡ codes " handle 3+0x1"
unfolding digits value_text named_value
a_handle = refl

the_gate : meaning_part notes (Some (meaning.Past thing.Gate 0)) ≡ codes " gate"
the_gate = refl
