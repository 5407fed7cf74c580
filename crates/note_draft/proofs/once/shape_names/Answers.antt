use Rattle.std.proofs.Common.{◌≡◌, map, refl, subst, ◌∙◌}
use Rattle.note_texts.specs.Outcome.{Gives}
use Rattle.note_draft.proofs.OnceLemmas.{numbered-names}
use Rattle.note_draft.specs.declared.finding.TableList.TheVariants as list
use Rattle.note_draft.specs.Once.{shape_names, numbered, repeated_in_shapes}
use Rattle.note_draft.proofs.once.shape_names.Goals as goal

pub returns : goal.returns
unfolding repeated_in_shapes
returns c =
    let same : numbered list.Shape c.in_ok-numbering.numbering c.at-fields.result ≡ shape_names c.args.shapes.now
    = numbered-names list.Shape
    (map (λ x. x.name) c.args.shapes.now) c.in_ok-numbering.numbering c.at-fields.result c.in_ok-numbering.ensures
    ∙ rw (c.at-fields.ensures, c.first_repeating_field.ensures) refl in
    subst (λ read. Gives c.numbered.result read) same c.numbered.ensures
