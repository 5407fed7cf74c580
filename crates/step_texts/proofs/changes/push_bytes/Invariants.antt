use Rattle.std.proofs.Common.{◌≡◌, ◌++◌, take, string_bytes}
use Rattle.std.specs.List.{flat_map}
use Rattle.asm_text.specs.Numbers.{hex_text}
use Rattle.step_texts.proofs.changes.push_bytes.Given as goal

abbrev pub invariant-loop-byte : goal.invariant-loop-byte
invariant-loop-byte l = string_bytes l.line ≡ string_bytes l.fn.line ++ flat_map (hex_text 2) (take l.byte-index l.bytes)
