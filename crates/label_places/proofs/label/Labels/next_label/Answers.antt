use Rattle.label_places.proofs.Common.{List, subst, Position, HasEnd}
use Rattle.label_places.proofs.EndLaws.{next-label}
use Rattle.label_places.proofs.label.Labels.next_label.Goals as goal

pub returns : goal.returns
returns c =
    let p = c.args.position in
    next-label p.object p.section c.args.place c.args.bound c.next_in.result c.args.self.now.by_place.items c.args.self.now.labels
    c.args.self.now.placed
    (subst (λ (ps : List Position). HasEnd p.object p.section c.args.place c.args.bound ps c.next_in.result) c.as_slice.ensures.value
    c.next_in.ensures)
