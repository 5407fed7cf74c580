use Rattle.std.proofs.Common.{◌≡◌, ◌++◌, take}
use Rattle.std.specs.List.{flat_map}
use Rattle.ebc_object.specs.Files.{fixup_bytes}
use Rattle.ebc_object.proofs.writing.append_fixups.Given as goal

abbrev pub invariant-loop-fixup : goal.invariant-loop-fixup
invariant-loop-fixup l = l.file.items ≡ l.fn.file.items ++ flat_map fixup_bytes (take l.fixup-index l.fixups)
