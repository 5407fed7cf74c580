use Rattle.std.proofs.Common.{◌<◌, ℕ, List, length, get_or, arith, subst}
use Rattle.std.proofs.lemmas.List.{get_or_default}
use Rattle.note_types.specs.declared.notes.Static.{Static}
use Rattle.rules_image.specs.Checks.{StaticFits}
use Rattle.rules_image.specs.Images.{IsFirstFailing}
use Rattle.rules_image.proofs.Firsts.{HoldsOf, first_failing, holds_all, holds_more}
use Rattle.rules_image.proofs.StaticLaws.{all_statics, first_of_statics}
use Rattle.rules_image.proofs.statics.first_static.Goals as goal

-- how an element is read
at_none : Static
at_none = record { place = 0; shape = 0; count = 0 }

pub returns-then-not-static_holds-clause-some : goal.returns-then-not-static_holds-clause-some
unfolding at_none
returns-then-not-static_holds-clause-some c =
    let within : c.loop-number.number < length c.args.statics.now = c.loop-number-test.true in
    let x : Static = get_or c.args.statics.now c.loop-number.number at_none in (
      within,
      first_of_statics c.args.image.now c.args.notes.now c.loop-number.number
          (subst (λ (ts : List Static). IsFirstFailing (HoldsOf
          (StaticFits c.args.image.now c.args.notes.now) ts) c.loop-number.number) c.requires.statics
          (first_failing (StaticFits c.args.image.now c.args.notes.now) c.args.statics.now c.loop-number.number x within
          (get_or_default c.args.statics.now c.loop-number.number at_none x within) c.loop-number.invariant
          (λ h. let yes = c.static_holds.ensures.1 h in let is = c.if-not-static_holds.true in cc))),
    )

pub loop-number-preserved : goal.loop-number-preserved
unfolding at_none
loop-number-preserved c =
    let within : c.loop-number.number < length c.args.statics.now = c.loop-number-test.true in
    let x : Static = get_or c.args.statics.now c.loop-number.number at_none in
    holds_more (StaticFits c.args.image.now c.args.notes.now) c.args.statics.now c.loop-number.number x within
    (get_or_default c.args.statics.now c.loop-number.number at_none x within) c.loop-number.invariant
    (c.static_holds.ensures.0 c.if-not-static_holds.false)

pub returns-clause-none : goal.returns-clause-none
returns-clause-none c =
    all_statics c.args.image.now c.args.notes.now
    (subst (λ (ts : List Static). (k : ℕ) → HoldsOf (StaticFits c.args.image.now c.args.notes.now) ts k) c.requires.statics
    (holds_all (StaticFits c.args.image.now c.args.notes.now) c.args.statics.now c.loop-number.number
    (omega arith) c.loop-number.invariant))
