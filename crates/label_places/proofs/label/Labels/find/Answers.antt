use Rattle.label_places.proofs.Common.{ap, sym, ◌∙◌, only_in}
use Rattle.label_places.specs.Views.{reference_view}
use Rattle.label_places.proofs.SoughtLaws.{found-by_name, missed-by_name}
use Rattle.label_places.proofs.label.Labels.find.Goals as goal

pub returns-in-Some : goal.returns-in-Some
returns-in-Some c =
    let names = c.args.names.now in
    let r = reference_view c.args.reference.now in
    c.only_in.ensures
    ∙ (ap (only_in names r.object) c.as_slice.ensures.value
    ∙ found-by_name names c.args.self.now.labels r c.args.self.now.by_name c.in-Some.positions.now c.args.self.now.named
    (sym c.in-Some.ensures.value))

pub returns-in-None : goal.returns-in-None
returns-in-None c =
    missed-by_name c.args.names.now c.args.self.now.labels (reference_view c.args.reference.now) c.args.self.now.by_name
    c.args.self.now.named (sym c.in-None.ensures.value)
