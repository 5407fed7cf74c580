use Rattle.std.proofs.Common.{◌≡◌, ◌++◌, codes}
use Rattle.std.specs.List.{flat_map, range_with_len}
use Rattle.printed_texts.specs.Samples.{function_source}
use Rattle.printed_texts.proofs.source_text.source.Given as goal

abbrev pub invariant-loop-number : goal.invariant-loop-number
invariant-loop-number l = l.text.items ≡ codes ".global f0\n" ++ flat_map (function_source l.functions) (range_with_len 0 l.number)
