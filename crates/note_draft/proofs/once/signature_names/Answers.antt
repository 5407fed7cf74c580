use Rattle.std.proofs.Common.{◌≡◌, map, None, refl, subst, ◌∙◌}
use Rattle.note_texts.specs.Outcome.{Gives}
use Rattle.note_draft.proofs.OnceLemmas.{numbered-names, sooner-none}
use Rattle.std.specs.Prelude.{bytes_eq}
use Rattle.note_draft.specs.Findings.{at}
use Rattle.note_draft.specs.Repeats.{first_repeat}
use Rattle.note_draft.specs.declared.finding.Key.TheVariants as key
use Rattle.note_draft.specs.declared.finding.TableList.TheVariants as list
use Rattle.note_draft.specs.Once.{signature_names, numbered, repeated_in_signatures}
use Rattle.note_draft.proofs.once.signature_names.Goals as goal

pub returns : goal.returns
unfolding repeated_in_signatures
returns c =
    let same : numbered list.Signature c.in_ok-numbering.numbering None ≡ signature_names c.args.signatures.now
    = numbered-names list.Signature (map (λ x. x.name) c.args.signatures.now) c.in_ok-numbering.numbering None c.in_ok-numbering.ensures
    ∙ rw (sooner-none (at list.Signature key.Name (first_repeat bytes_eq (map (λ x. x.name) c.args.signatures.now)))) refl in
    subst (λ read. Gives c.numbered.result read) same c.numbered.ensures
