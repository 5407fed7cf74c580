use Rattle.std.proofs.Common.{arith}
use Rattle.rules_image.proofs.Disjoint.{refuted, thunk_apart}
use Rattle.rules_image.proofs.ThunkLaws.{apart_of, enters_of, thunk_of}
use Rattle.rules_image.proofs.thunks.thunk_holds.Goals as goal

pub is_thunk_apart-requires-clause-apart : goal.is_thunk_apart-requires-clause-apart
is_thunk_apart-requires-clause-apart c = λ e. thunk_apart c.args.notes.now c.args.number c.args.x.now (c.requires.apart e) c.requires.there

pub returns-then-not-is_thunk_apart : goal.returns-then-not-is_thunk_apart
returns-then-not-is_thunk_apart c =
    refuted (λ h.
    let yes = c.is_thunk_apart.ensures.1 (apart_of c.args.image.now c.args.notes.now c.args.number c.args.x.now h) in
    let is = c.if-not-is_thunk_apart.true in
    cc)

pub returns : goal.returns
returns c = (
  λ e. thunk_of c.args.image.now c.args.notes.now c.args.number c.args.x.now (omega arith)
      (c.is_thunk_apart.ensures.0 c.if-not-is_thunk_apart.false) (c.enters_its_function.ensures.0 e),
  λ h. c.enters_its_function.ensures.1 (enters_of c.args.image.now c.args.notes.now c.args.number c.args.x.now h),
)
