use Rattle.ebc_link.proofs.Common.{◌≡◌, ◌*◌, ◌≤◌, [], None, length, take, laid_with, definitions, first_again, names_of, IsPaired, defined}
use Rattle.ebc_object.specs.Objects.{most}
use Rattle.ebc_link.proofs.globals.Globals.of.Given as goal

abbrev pub invariant-loop-number : goal.invariant-loop-number
invariant-loop-number l =
    record {
      holds : defined l.globals ≡ definitions (take l.number (laid_with l.objects l.homes));
      again : first_again [] (names_of (definitions (take l.number (laid_with l.objects l.homes)))) ≡ None;
      paired : IsPaired l.globals;
      few : length l.globals.names ≤ most * l.number;
    }
