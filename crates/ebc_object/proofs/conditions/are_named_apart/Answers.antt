use Rattle.std.proofs.Common.{take, refl, sym, subst, ◌∙◌}
use Rattle.std.specs.Prelude.{AllPairs}
use Rattle.std.proofs.lemmas.List.{take_all}
use Rattle.ebc_object.specs.Objects.{AreNamedApart}
use Rattle.ebc_object.proofs.Tried.{any_named, apart_more, named_before}
use Rattle.ebc_object.proofs.conditions.are_named_apart.Goals as goal

pub loop-i-preserved : goal.loop-i-preserved
loop-i-preserved c =
    apart_more c.args.symbols.now c.loop-i.i c.index-symbols-i.result c.loop-i-test.true c.index-symbols-i.is
    (sym (any_named c.index-symbols-i.result.name (take c.loop-i.i c.args.symbols.now))
    ∙ (sym c.is_among.ensures ∙ c.if-is_among.false)) c.loop-i.invariant

pub returns-then-is_among : goal.returns-then-is_among
returns-then-is_among c = (
  λ no. cc,
  λ apart. absurd (named_before c.args.symbols.now c.loop-i.i c.index-symbols-i.result c.loop-i-test.true c.index-symbols-i.is
      (sym (any_named c.index-symbols-i.result.name (take c.loop-i.i c.args.symbols.now))
      ∙ (sym c.is_among.ensures ∙ c.if-is_among.true)) apart),
)

pub returns : goal.returns
returns c = (
  λ yes. subst (AllPairs AreNamedApart) (take_all c.loop-i.i c.args.symbols.now c.loop-i-test.false) c.loop-i.invariant,
  λ apart. refl,
)
