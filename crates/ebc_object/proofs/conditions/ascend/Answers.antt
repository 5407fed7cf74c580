use Rattle.std.proofs.Common.{get_or, refl, sym, subst, ◌∙◌}
use Rattle.std.specs.Prelude.{AllPairs}
use Rattle.std.proofs.lemmas.List.{get_or_default, take_all}
use Rattle.ebc_object.specs.declared.object.Fixup.{Fixup}
use Rattle.ebc_object.specs.Objects.{EndsBefore}
use Rattle.ebc_object.proofs.Tried.{ascend_more}
use Rattle.ebc_object.proofs.conditions.ascend.Goals as goal

abbrev zero_fixup : Fixup
zero_fixup = record { section = 0; kind = 0; offset = 0; symbol = 0; from = 0 }

pub loop-i-preserved : goal.loop-i-preserved
loop-i-preserved c =
    let f : Fixup = get_or c.args.fixups.now c.loop-i.i zero_fixup in
    let more = ascend_more c.args.fixups.now c.loop-i.i f c.loop-i-test.true
    (get_or_default c.args.fixups.now c.loop-i.i zero_fixup f c.loop-i-test.true)
    (sym c.last_ends_before.ensures ∙ c.if-not-last_ends_before.false) c.loop-i.invariant.last c.loop-i.invariant.pairs in
    record { pairs = more.0; last = more.1 }

pub returns : goal.returns
returns c = (
  λ yes. subst (AllPairs EndsBefore) (take_all c.loop-i.i c.args.fixups.now c.loop-i-test.false) c.loop-i.invariant.pairs,
  λ pairs. refl,
)
