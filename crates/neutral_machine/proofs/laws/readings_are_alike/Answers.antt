use Rattle.neutral_machine.proofs.{NamedThings.things_named, ReadingAlike.reads_alike, ReadingAlike.results_alike}
use Rattle.neutral_machine.proofs.laws.readings_are_alike.Goals as goal

pub returns : goal.returns
returns c = λ w world P h ok pl entries fs. let n = things_named w world P h ok pl entries fs in
    (reads_alike w _ P _ _ n, results_alike w _ P _ _ n)
