use Rattle.std.proofs.Common.{◌≡◌, ◌-◌, ℕ, List, get_or, ap, subst, sym, ◌∙◌}
use Rattle.std.specs.Prelude.{Some, slice_get, slice_range}
use Rattle.std.proofs.lemmas.Option.{get_or_from_slice_get}
use Rattle.pe_image.specs.declared.image.Section.{Section}
use Rattle.rules_image.specs.Images.{IsInside}
use Rattle.rules_image.proofs.Sections.{code_in}
use Rattle.rules_image.proofs.tables.code_of.Goals as goal

pub returns : goal.returns
returns c =
    let home = c.in-Some.ensures.some in
    let t : Section = c.index-as_slice-number.result in
    let there : slice_get c.args.image.now.sections c.in-Some.number ≡ Some home.s =
    subst (λ (xs : List Section). slice_get xs c.in-Some.number ≡ Some home.s) c.as_slice.ensures home.there in
    let at : t ≡ get_or c.args.image.now.sections c.in-Some.number t = c.index-as_slice-number.is
    ∙ ap (λ (xs : List Section). get_or xs c.in-Some.number t) c.as_slice-in-Some.ensures in
    let same : t ≡ home.s = at ∙ get_or_from_slice_get c.args.image.now.sections c.in-Some.number home.s t there in
    code_in c.args.image.now c.requires.image c.args.f.now c.in-Some.number t _
    (there ∙ ap (λ (s : Section). Some s) (sym same))
    (subst (λ (s : Section). IsInside s c.args.f.now.place c.args.f.now.end) (sym same) home.inside)
    c.requires.range
    (ap (λ (bs : List ℕ). slice_range bs (c.args.f.now.place - t.place) (c.args.f.now.end - t.place)) c.as_slice-in-Some-2.ensures)
