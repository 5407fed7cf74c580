use Rattle.std.proofs.Common.{ℕ, List, arith, subst}
use Rattle.note_types.specs.declared.notes.FnNote.{FnNote}
use Rattle.rules_image.specs.Images.{IsFunction, IsFirstFailing}
use Rattle.rules_image.proofs.Firsts.{HoldsOf, first_failing, holds_all, holds_more}
use Rattle.rules_image.proofs.tables.first_misplaced.Goals as goal

pub returns-then-not-function_holds-clause-some : goal.returns-then-not-function_holds-clause-some
returns-then-not-function_holds-clause-some c = (
  omega arith,
  subst (λ (fs : List FnNote). IsFirstFailing
      (HoldsOf (λ j (f : FnNote). IsFunction c.args.image.now c.args.notes.now j f) fs) c.loop-number.number) c.requires
      (first_failing
      (λ j (f : FnNote). IsFunction c.args.image.now c.args.notes.now j f) c.args.functions.now c.loop-number.number
      c.index-functions-number.result (omega arith) c.index-functions-number.is c.loop-number.invariant
      (λ h. let yes = c.function_holds.ensures.1 h in let is = c.if-not-function_holds.true in cc)),
)

pub loop-number-preserved : goal.loop-number-preserved
loop-number-preserved c =
    holds_more
    (λ j (f : FnNote). IsFunction c.args.image.now c.args.notes.now j f) c.args.functions.now c.loop-number.number
    c.index-functions-number.result (omega arith) c.index-functions-number.is c.loop-number.invariant
    (c.function_holds.ensures.0 c.if-not-function_holds.false)

pub returns-clause-none : goal.returns-clause-none
returns-clause-none c =
    subst (λ (fs : List FnNote). (k : ℕ) → HoldsOf (λ j (f : FnNote). IsFunction c.args.image.now c.args.notes.now j f) fs k) c.requires
    (holds_all (λ j (f : FnNote). IsFunction c.args.image.now c.args.notes.now j f) c.args.functions.now c.loop-number.number
    (omega arith) c.loop-number.invariant)
