use Rattle.std.proofs.Common.{◌≡◌, ◌++◌, drop, length, string_bytes}
use Rattle.std.specs.List.{flat_map}
use Rattle.std.specs.Str.{chars}
use Rattle.explain.specs.Shown.{IsShown, shown_char}
use Rattle.explain.proofs.told.shown_chars.Given as goal

abbrev pub invariant-loop-c : goal.invariant-loop-c
invariant-loop-c l = record {
  text : string_bytes l.out ++ flat_map shown_char (drop (length l.yielded) (chars l.text)) ≡ flat_map shown_char (chars l.text);
  shown : IsShown (string_bytes l.out);
}
