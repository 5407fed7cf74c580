use Rattle.neutral_machine.proofs.{NamedThings.things_named, WrittenShows.value_shows}
use Rattle.neutral_machine.proofs.laws.written_number_shows.Goals as goal

pub returns : goal.returns
returns c = λ w world P h ok pl entries fs. value_shows w _ P _ _ (things_named w world P h ok pl entries fs)
