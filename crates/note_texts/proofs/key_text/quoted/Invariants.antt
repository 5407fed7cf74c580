use Rattle.std.proofs.Common.{◌≡◌, ◌++◌, codes, drop, length, string_bytes}
use Rattle.std.specs.List.{flat_map}
use Rattle.std.specs.Str.{chars}
use Rattle.note_texts.specs.KeyTexts.{quoted_char}
use Rattle.note_texts.proofs.key_text.quoted.Given as goal

abbrev pub invariant-loop-c : goal.invariant-loop-c
invariant-loop-c l =
    string_bytes l.text ++ flat_map quoted_char (drop (length l.yielded) (chars l.key)) ≡ codes "\"" ++ flat_map quoted_char (chars l.key)
