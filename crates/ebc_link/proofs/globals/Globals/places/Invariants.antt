use Rattle.ebc_link.proofs.Common.{◌≡◌, drop, map, take, laid_with, first_in, places_of, undefined_in, defined}
use Rattle.ebc_link.proofs.globals.Globals.places.Given as goal

abbrev pub invariant-loop-number : goal.invariant-loop-number
invariant-loop-number l =
    record {
      first : first_in (undefined_in (defined l.self)) (drop l.number (laid_with l.objects l.homes))
          ≡ first_in (undefined_in (defined l.self)) (laid_with l.objects l.homes);
      places : l.places.items ≡ map (places_of (defined l.self)) (take l.number (laid_with l.objects l.homes));
    }
