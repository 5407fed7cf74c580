use Rattle.std.proofs.Common.{◌≡◌, ◌++◌, codes}
use Rattle.std.specs.List.{flat_map, range_with_len}
use Rattle.printed_texts.specs.Samples.{function_notes}
use Rattle.printed_texts.proofs.notes_text.notes.Given as goal

abbrev pub invariant-loop-number : goal.invariant-loop-number
invariant-loop-number l =
    l.text.items ≡ codes "version = 1\nentry = \"f0\"\n" ++ flat_map (function_notes l.functions) (range_with_len 0 l.number)
