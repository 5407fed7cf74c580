use Rattle.std.proofs.Common.{◌≡◌, ◌++◌, map, string_bytes}
use Rattle.ebc_base.proofs.table.NameTable.into_names.Given as goal

abbrev pub invariant-loop-text : goal.invariant-loop-text
invariant-loop-text l = l.names.items ++ map string_bytes l.text-iterator ≡ l.fn.self
