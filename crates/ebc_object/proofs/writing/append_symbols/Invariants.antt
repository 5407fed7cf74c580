use Rattle.std.proofs.Common.{◌≡◌, ◌++◌, take}
use Rattle.std.specs.List.{flat_map}
use Rattle.ebc_object.specs.Files.{symbol_bytes}
use Rattle.ebc_object.proofs.writing.append_symbols.Given as goal

abbrev pub invariant-loop-symbol : goal.invariant-loop-symbol
invariant-loop-symbol l = l.file.items ≡ l.fn.file.items ++ flat_map symbol_bytes (take l.symbol-index l.symbols)
