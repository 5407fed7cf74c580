use Rattle.std.proofs.Common.{ap, refl, sym}
use Rattle.std.proofs.lemmas.Option.{slice_get_read}
use Rattle.note_types.specs.declared.notes.FnNote.{FnNote}
use Rattle.note_completion.specs.Causes.{by_function}
use Rattle.note_completion.proofs.CauseLaws.{refused_rule}
use Rattle.note_completion.proofs.depths.check_rule.Goals as goal

pub returns-in-Err-clause-cause : goal.returns-in-Err-clause-cause
returns-in-Err-clause-cause c =
    let notes = c.args.notes.now in
    let f = c.index-as_slice-number.result in
    refused_rule c.args.image.now notes _ _ c.refused.result c.refused.ensures
    (by_function (record {
      number = c.in-Err.number;
      f = f;
      there = slice_get_read notes.function _ c.in-Err.number f refl c.in-Err.ensures.fails.0
          (rw c.as_slice.ensures at c.index-as_slice-number.is);
      first = c.in-Err.ensures.fails.1;
      at = ap (λ (x : FnNote). x.place) (sym c.index-as_slice-number.is);
    }) refl)
