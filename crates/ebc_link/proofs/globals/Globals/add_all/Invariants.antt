use Rattle.ebc_link.proofs.Common.{◌≡◌, ◌+◌, ◌≤◌, ◌++◌, None, length, take, definitions_in, first_again, names_of, IsPaired, defined}
use Rattle.ebc_link.proofs.globals.Globals.add_all.Given as goal

abbrev pub invariant-loop-symbol : goal.invariant-loop-symbol
invariant-loop-symbol l =
    record {
      holds : defined l.self ≡ defined l.fn.self ++ definitions_in l.home (take l.symbol-index l.symbols);
      again : first_again (names_of (defined l.fn.self)) (names_of (definitions_in l.home (take l.symbol-index l.symbols))) ≡ None;
      paired : IsPaired l.self;
      few : length l.self.names ≤ length l.fn.self.names + l.symbol-index;
    }
