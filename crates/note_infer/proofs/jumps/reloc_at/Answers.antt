use Rattle.note_infer.proofs.Common.{ap, ◌∙◌, Some}
use Rattle.note_infer.proofs.Searching.{reloc_found, reloc_none}
use Rattle.note_infer.proofs.jumps.reloc_at.Goals as goal

pub returns-in-Ok : goal.returns-in-Ok
returns-in-Ok c =
    ap (λ p. Some p) c.named_place.ensures
    ∙ reloc_found c.args.image.now c.args.next c.saturating_sub-place.result c.in-Ok.field-0 c.as_slice.result.now c.requires
    c.as_slice.ensures c.saturating_sub-place.ensures c.in-Ok.ensures.position

pub returns-in-Err : goal.returns-in-Err
returns-in-Err c =
    reloc_none c.args.image.now c.args.next c.saturating_sub-place.result c.in-Err.field-0 c.as_slice.result.now c.requires
    c.as_slice.ensures c.saturating_sub-place.ensures c.in-Err.ensures.position
