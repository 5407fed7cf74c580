use Rattle.std.proofs.Common.{◌≡◌, ◌++◌, string_bytes}
use Rattle.step_texts.specs.RowTexts.{changed_bytes_part}
use Rattle.step_texts.proofs.row.push_bytes.Given as goal

abbrev pub invariant-loop-k : goal.invariant-loop-k
invariant-loop-k l = string_bytes l.line ≡ string_bytes l.fn.line ++ changed_bytes_part l.old l.new l.k
