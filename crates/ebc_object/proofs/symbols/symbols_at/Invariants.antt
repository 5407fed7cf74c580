use Rattle.std.proofs.Common.{◌≡◌, ◌+◌, ◌-◌, ◌≤◌, [], length}
use Rattle.ebc_object.specs.Readings.{names_of, symbols_at, symbols_size}
use Rattle.ebc_object.proofs.symbols.symbols_at.Given as goal

abbrev pub invariant-loop-read : goal.invariant-loop-read
invariant-loop-read l =
    record {
      names : l.names ≡ names_of l.symbols.items;
      count : length l.symbols.items ≡ l._read;
      at : l.at ≡ l.start + symbols_size l.symbols.items;
      within : l.at ≤ length l.file;
      rest : symbols_at l.count l.file l.sections.code.now l.sections.contents.now [] l.start ≡ symbols_at
          (l.count - l._read) l.file l.sections.code.now l.sections.contents.now l.symbols.items l.at;
    }
