use Rattle.std.proofs.Common.{◌≡◌, ◌++◌, take, string_bytes}
use Rattle.note_texts.specs.TypeGrammar.{grants_text}
use Rattle.printed_texts.proofs.ty.granting.Given as goal

abbrev pub invariant-loop-name : goal.invariant-loop-name
invariant-loop-name l = string_bytes l.text ≡ l.word ++ grants_text (take l.name-index l.names)
