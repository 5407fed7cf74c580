use Rattle.std.proofs.Common.{◌≡◌, ◌+◌, ◌%◌, List, ap, arith, ◌∙◌}
use Rattle.std.specs.List.{list_any}
use Rattle.std.proofs.lemmas.Bool.{ltb-true}
use Rattle.note_types.specs.declared.shape.Field.{Field}
use Rattle.rules_image.proofs.ContentLemmas.{no_instance, pointer_found}
use Rattle.rules_image.proofs.content.is_pointer_place.Goals as goal
use Rattle.rules_image.specs.Contents.{is_pointer_at}

pub returns-then-at-size : goal.returns-then-at-size
returns-then-at-size c =
    let whole : c.args.x.now.place + c.from-at.result ≡ c.args.place = omega arith in
    pointer_found c.args.x.now c.args.s.now c.args.place c.from-at.result c.size_at_8-size.result c.requires.fits whole
    c.size_at_8-size.ensures.value c.has_pointer_at.result c.if-at-size.true
    (c.has_pointer_at.ensures ∙ ap (λ (ys : List Field). list_any
    (is_pointer_at (c.from-at.result % c.size_at_8-size.result)) ys) c.as_slice.ensures)

pub returns-else-at-size : goal.returns-else-at-size
returns-else-at-size c =
    let whole : c.args.x.now.place + c.from-at.result ≡ c.args.place = omega arith in (
      λ e. absurd (let less = ltb-true _ _ e in omega arith),
      λ h. absurd
          (no_instance c.args.x.now c.args.s.now c.args.place c.from-at.result c.size_at_8-size.result c.requires.fits whole
          c.size_at_8-size.ensures.value c.if-at-size.false h),
    )
