use Rattle.ebc_link.proofs.Common.{◌≡◌, drop, map, take, find, is_undefined, symbol_place, defined}
use Rattle.ebc_link.proofs.globals.Globals.symbol_places.Given as goal

abbrev pub invariant-loop-symbol : goal.invariant-loop-symbol
invariant-loop-symbol l =
    record {
      first : find (is_undefined (defined l.self)) (drop l.symbol-index l.symbols) ≡ find (is_undefined (defined l.self)) l.symbols;
      places : l.places.items ≡ map (symbol_place (defined l.self) l.home) (take l.symbol-index l.symbols);
    }
