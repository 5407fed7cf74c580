-- Worked rows of the definitions: what is printed of what arguments point to, of functions that haven't returned, and of changed bytes.
use Rattle.std.proofs.Common.{◌≡◌, [], ◌∷◌, ◌++◌, None, Some, codes, false, true, refl}
use Rattle.std.specs.Fmt.{digits}
use Rattle.asm_text.specs.Numbers.{hex_text}
use Rattle.note_types.specs.Records.{function_at}
use Rattle.printed_texts.specs.RunTexts.{place_text}
use Rattle.step_texts.specs.declared.meaning.Meaning.TheVariants as meaning
use Rattle.step_texts.specs.declared.meaning.Thing.TheVariants as thing
use Rattle.step_texts.specs.declared.pointed.Cells.TheVariants as kinds
use Rattle.step_texts.specs.declared.state.OpenCall.TheVariants as calls
use Rattle.step_texts.specs.PointedTexts.{contents_text, first_words, leading_text, pointed_line, unit_text}
use Rattle.step_texts.specs.RowTexts.{changed_bytes_part, more_line, row_line}
use Rattle.step_texts.specs.StateTexts.{back_line, call_line, function_line}
use Rattle.step_texts.proofs.Rows.{notes}

a_wide_text : contents_text kinds.Words (72 ∷ 0 ∷ 34 ∷ 0 ∷ 0xAC ∷ 0x20 ∷ 0 ∷ 0 ∷ 7 ∷ 0 ∷ [])
    ≡ codes "\"H" ++ (92 ∷ codes "u0022" ++ (92 ∷ codes "u20ac\""))
unfolding first_words unit_text hex_text
a_wide_text = refl

a_text : contents_text kinds.Bytes (72 ∷ 105 ∷ 126 ∷ 0 ∷ 1 ∷ []) ≡ codes "\"Hi~\""
unfolding leading_text unit_text
a_text = refl

no_character : contents_text kinds.Bytes (0 ∷ 105 ∷ []) ≡ codes "0069"
unfolding leading_text hex_text
no_character = refl

another_character : contents_text kinds.Bytes (72 ∷ 10 ∷ 0 ∷ []) ≡ codes "480a00"
unfolding leading_text hex_text
another_character = refl

no_zero : contents_text kinds.Bytes (72 ∷ 105 ∷ []) ≡ codes "4869"
unfolding leading_text hex_text
no_zero = refl

seventeen_bytes : pointed_line 1 kinds.Others
    (72 ∷ 0 ∷ 2 ∷ 3 ∷ 4 ∷ 5 ∷ 6 ∷ 7 ∷ 8 ∷ 9 ∷ 10 ∷ 11 ∷ 12 ∷ 13 ∷ 14 ∷ 15 ∷ 16 ∷ [])
    ≡ codes "  argument 1 480002030405060708090a0b0c0d0e0f\n"
unfolding hex_text digits
seventeen_bytes = refl

asked_for : call_line notes (Some (calls.Asked 0x1014)) ≡ codes "  asked 00001014\n"
unfolding place_text hex_text
asked_for = refl

accepted : call_line notes (Some (calls.Accepted 1 None)) ≡ codes "  called 1\n"
unfolding digits
accepted = refl

called_in_a_callback : back_line notes (record { number = 0x1051D8; meaning = Some (meaning.Place 0x1048) })
    ≡ codes "  back 00000000001051d8 tick+0x4\n"
unfolding hex_text digits function_at
called_in_a_callback = refl

in_a_callback : function_line notes (record {
  function = 1;
  notified = false;
  back = record { number = 0x1051C8; meaning = Some (meaning.Place 0x1038) };
}) ≡ codes "  entered tick 00000000001051c8 main+0x38\n"
unfolding hex_text digits function_at
in_a_callback = refl

in_a_notification : function_line notes (record {
  function = 0;
  notified = true;
  back = record { number = 0x100000; meaning = Some (meaning.Past thing.Gate 0) };
}) ≡ codes "  notified main 0000000000100000 gate\n"
unfolding hex_text digits
in_a_notification = refl

-- the old bytes are fewer than the new ones
changed : row_line notes (record { number = 0x1071C0; meaning = Some (meaning.Past (thing.Object 1) 0) }) (1 ∷ 2 ∷ []) (1 ∷ 3 ∷ 0 ∷ 4 ∷ [])
    ≡ codes "  bytes 00000000001071c0 ptr 1 0 ..03..04\n"
unfolding changed_bytes_part hex_text digits
changed = refl

two_more : more_line 2 ≡ codes "  more 2\n"
unfolding digits
two_more = refl
