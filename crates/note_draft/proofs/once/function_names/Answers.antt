use Rattle.std.proofs.Common.{◌≡◌, map, refl, subst, ◌∙◌}
use Rattle.note_texts.specs.Outcome.{Gives}
use Rattle.note_draft.proofs.OnceLemmas.{numbered-names}
use Rattle.note_draft.specs.declared.finding.TableList.TheVariants as list
use Rattle.note_draft.specs.Once.{function_names, numbered, repeated_in_functions}
use Rattle.note_draft.proofs.once.function_names.Goals as goal

pub returns : goal.returns
unfolding repeated_in_functions
returns c =
    let same : numbered list.Function c.in_ok-numbering.numbering c.at-place.result ≡ function_names c.args.functions.now
    = numbered-names list.Function
    (map (λ x. x.name) c.args.functions.now) c.in_ok-numbering.numbering c.at-place.result c.in_ok-numbering.ensures
    ∙ rw (c.at-place.ensures, c.in_ok-item.ensures) refl in
    subst (λ read. Gives c.numbered.result read) same c.numbered.ensures
