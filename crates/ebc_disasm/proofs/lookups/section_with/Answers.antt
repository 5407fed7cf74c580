use Rattle.std.proofs.Common.{◌≡◌, ◌≤◌, ◌∙◌, Some, length, ap, arith, sym}
use Rattle.std.specs.Prelude.{slice_get}
use Rattle.std.proofs.lemmas.Bool.{ltb-true}
use Rattle.std.proofs.lemmas.Option.{slice_get_read}
use Rattle.ebc_disasm.proofs.Halving.{with_end, with_first, with_none}
use Rattle.ebc_disasm.proofs.lookups.section_with.Goals as goal

pub returns-in_err-section : goal.returns-in_err-section
returns-in_err-section c =
    let long : length c.as_slice.result.now ≡ length c.args.image.now.sections = ap length c.as_slice.ensures in
    let past : length c.as_slice.result.now ≤ c.first_past-first.result = c.in_err-section.ensures.lookup.3 in
    rw c.from_residual.ensures
    (sym (with_end c.args.image.now c.args.place c.first_past-first.result c.first_past-first.ensures (omega arith)))

pub returns-then-from-place : goal.returns-then-from-place
returns-then-from-place c =
    let at = c.in_ok-section.ensures.lookup in
    let there : slice_get c.args.image.now.sections c.first_past-first.result ≡ Some c.in_ok-section.section.now =
    ap (λ ss. slice_get ss c.first_past-first.result) (sym c.as_slice.ensures)
    ∙ slice_get_read c.as_slice.result.now (length c.as_slice.result.now) c.first_past-first.result c.in_ok-section.section.now
    (omega arith) (ltb-true _ _ (sym at.0)) at.1
    in
    sym (with_first c.args.image.now c.args.place c.first_past-first.result c.in_ok-section.section.now c.first_past-first.ensures there
    (omega arith))

pub returns-else-from-place : goal.returns-else-from-place
returns-else-from-place c =
    let at = c.in_ok-section.ensures.lookup in
    let there : slice_get c.args.image.now.sections c.first_past-first.result ≡ Some c.in_ok-section.section.now =
    ap (λ ss. slice_get ss c.first_past-first.result) (sym c.as_slice.ensures)
    ∙ slice_get_read c.as_slice.result.now (length c.as_slice.result.now) c.first_past-first.result c.in_ok-section.section.now
    (omega arith) (ltb-true _ _ (sym at.0)) at.1
    in
    sym (with_none c.args.image.now c.args.place c.first_past-first.result c.in_ok-section.section.now c.requires
    c.first_past-first.ensures there (omega arith))
