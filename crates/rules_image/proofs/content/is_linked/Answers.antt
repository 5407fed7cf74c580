use Rattle.std.proofs.Common.{List, ap, ◌∙◌}
use Rattle.std.specs.List.{list_any}
use Rattle.note_types.specs.declared.notes.Static.{Static}
use Rattle.rules_image.proofs.ContentLemmas.{linked}
use Rattle.rules_image.proofs.content.is_linked.Goals as goal
use Rattle.rules_image.specs.Contents.{is_static_of}

pub returns-then-is_relocated : goal.returns-then-is_relocated
returns-then-is_relocated c =
    linked c.args.image.now c.args.notes.now c.args.place c.args.shape c.args.count c.named_place.result c.has_static.result
    (c.is_relocated.ensures.0 c.if-is_relocated.true)
    c.named_place.ensures
    (c.has_static.ensures
    ∙ ap (λ (xs : List Static). list_any (is_static_of c.named_place.result c.args.shape c.args.count) xs) c.as_slice.ensures)
