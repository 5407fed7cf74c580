use Rattle.native_host.proofs.Common.{ap, ◌∙◌, reading_of, placement_of, sort_of}
use Rattle.native_host.proofs.ResultLaws.{result-told}
use Rattle.native_host.proofs.host.Host.result_of.Goals as goal

pub returns-clause-run : goal.returns-clause-run
returns-clause-run g c world r same host tells seven =
    c.reading.ensures c.args.notes.now c.requires.notes
    ∙ (ap (λ made. reading_of g.row.W c.args.notes.now (placement_of c.args.self.now.places) made
    (sort_of c.result_sort-sort.result) c.cut.result)
    c.as_slice.ensures.value
    ∙ result-told g.row.W world r c.args.self.now c.args.notes.now c.args.func c.args.r7 c.cut.result
    (sort_of c.result_sort-sort.result) same host tells seven c.cut.ensures c.result_sort-sort.ensures)
