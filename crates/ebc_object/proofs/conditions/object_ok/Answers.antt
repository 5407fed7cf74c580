use Rattle.std.proofs.Common.{subst, sym, ◌∙◌}
use Rattle.std.specs.Prelude.{AllPairs}
use Rattle.ebc_object.specs.Objects.{AreNamedApart, EndsBefore}
use Rattle.ebc_object.proofs.Tried.{IsObject-by, fixups-of, fixups_tried, symbols-of, symbols_tried}
use Rattle.ebc_object.proofs.conditions.object_ok.Goals as goal

pub returns-then-not-are_symbols : goal.returns-then-not-are_symbols
returns-then-not-are_symbols c =
    let tried =
    symbols_tried c.args.object.now c.as_slice.result.now c.as_slice-2.result.now c.as_slice-symbols.result.now c.are_symbols.result
    c.as_slice.ensures c.as_slice-2.ensures c.as_slice-symbols.ensures c.are_symbols.ensures in
    (λ no. cc, λ is. sym (tried ∙ c.if-not-are_symbols.true) ∙ symbols-of c.args.object.now is)

pub returns-then-not-are_fixups : goal.returns-then-not-are_fixups
returns-then-not-are_fixups c =
    let tried =
    fixups_tried c.args.object.now c.as_slice.result.now c.as_slice-2.result.now c.as_slice-symbols.result.now
    c.as_slice-fixups.result.now c.are_fixups.result
    c.as_slice.ensures c.as_slice-2.ensures c.as_slice-symbols.ensures c.as_slice-fixups.ensures c.are_fixups.ensures in
    (λ no. cc, λ is. sym (tried ∙ c.if-not-are_fixups.true) ∙ fixups-of c.args.object.now is)

pub returns : goal.returns
returns c =
    let symbols =
    symbols_tried c.args.object.now c.as_slice.result.now c.as_slice-2.result.now c.as_slice-symbols.result.now c.are_symbols.result
    c.as_slice.ensures c.as_slice-2.ensures c.as_slice-symbols.ensures c.are_symbols.ensures in
    let fixups =
    fixups_tried c.args.object.now c.as_slice.result.now c.as_slice-2.result.now c.as_slice-symbols.result.now
    c.as_slice-fixups.result.now c.are_fixups.result
    c.as_slice.ensures c.as_slice-2.ensures c.as_slice-symbols.ensures c.as_slice-fixups.ensures c.are_fixups.ensures in (
      λ yes. IsObject-by c.args.object.now (sym c.are_few.ensures ∙ c.if-not-are_few.false) (symbols ∙ c.if-not-are_symbols.false)
          (subst (AllPairs AreNamedApart) c.as_slice-symbols.ensures (c.are_named_apart.ensures.0 c.if-not-are_named_apart.false))
          (fixups ∙ c.if-not-are_fixups.false) (subst (AllPairs EndsBefore) c.as_slice-fixups.ensures (c.ascend.ensures.0 yes)),
      λ is. c.ascend.ensures.1 (subst (AllPairs EndsBefore) (sym c.as_slice-fixups.ensures) is.ascend),
    )
