use Rattle.std.proofs.Common.{◌≡◌, ◌+◌, ◌-◌, ◌*◌, ◌≤◌, [], length}
use Rattle.ebc_object.specs.Files.{fixup_size}
use Rattle.ebc_object.specs.Readings.{fixups_at}
use Rattle.ebc_object.specs.Walks.{HasLast}
use Rattle.ebc_object.proofs.fixups.fixups_at.Given as goal

abbrev pub invariant-loop-read : goal.invariant-loop-read
invariant-loop-read l =
    record {
      last : HasLast l.fixups.items;
      at : l.at ≡ l.start + fixup_size * l._read;
      within : l.at ≤ length l.file;
      rest : fixups_at l.count l.file l.sections.code.now l.sections.contents.now l.symbols [] l.start ≡ fixups_at
          (l.count - l._read) l.file l.sections.code.now l.sections.contents.now l.symbols l.fixups.items l.at;
    }
