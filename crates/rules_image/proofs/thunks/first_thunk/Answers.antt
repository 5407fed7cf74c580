use Rattle.std.proofs.Common.{◌<◌, ℕ, List, length, get_or, arith, subst}
use Rattle.std.proofs.lemmas.List.{get_or_default}
use Rattle.note_types.specs.declared.notes.Thunk.{Thunk}
use Rattle.rules_image.specs.Images.{IsThunk, IsFirstFailing}
use Rattle.rules_image.proofs.Firsts.{HoldsOf, first_failing, holds_all, holds_more}
use Rattle.rules_image.proofs.thunks.first_thunk.Goals as goal

-- how an element is read
at_none : Thunk
at_none = record { place = 0; function = 0 }

pub returns-then-not-thunk_holds-clause-some : goal.returns-then-not-thunk_holds-clause-some
unfolding at_none
returns-then-not-thunk_holds-clause-some c =
    let within : c.loop-number.number < length c.args.thunks.now = c.loop-number-test.true in
    let x : Thunk = get_or c.args.thunks.now c.loop-number.number at_none in (
      within,
      subst (λ (ts : List Thunk). IsFirstFailing
          (HoldsOf (IsThunk c.args.image.now c.args.notes.now) ts) c.loop-number.number) c.requires.thunks
          (first_failing (IsThunk c.args.image.now c.args.notes.now) c.args.thunks.now c.loop-number.number x within
          (get_or_default c.args.thunks.now c.loop-number.number at_none x within) c.loop-number.invariant
          (λ h. let yes = c.thunk_holds.ensures.1 h in let is = c.if-not-thunk_holds.true in cc)),
    )

pub loop-number-preserved : goal.loop-number-preserved
unfolding at_none
loop-number-preserved c =
    let within : c.loop-number.number < length c.args.thunks.now = c.loop-number-test.true in
    let x : Thunk = get_or c.args.thunks.now c.loop-number.number at_none in
    holds_more (IsThunk c.args.image.now c.args.notes.now) c.args.thunks.now c.loop-number.number x within
    (get_or_default c.args.thunks.now c.loop-number.number at_none x within) c.loop-number.invariant
    (c.thunk_holds.ensures.0 c.if-not-thunk_holds.false)

pub returns-clause-none : goal.returns-clause-none
returns-clause-none c =
    subst (λ (ts : List Thunk). (k : ℕ) → HoldsOf (IsThunk c.args.image.now c.args.notes.now) ts k) c.requires.thunks
    (holds_all (IsThunk c.args.image.now c.args.notes.now) c.args.thunks.now c.loop-number.number (omega arith) c.loop-number.invariant)
