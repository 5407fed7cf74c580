use Rattle.twin_run.proofs.Common.{ℕ, ◌<◌, ◌≤◌, arith, sym, ◌∙◌, IsFree, IsQuiet, Runner, Script}
use Rattle.twin_run.proofs.{InStep.same_before_one, SteppingOn.free_fewer, SteppingOn.free_steps, SteppingOn.one_step}
use Rattle.twin_run.proofs.in_step.steps.Goals as goal

-- where so many are free, fewer are
is_free : {w : ℕ} (script : Script) (x : Runner w) (n m : ℕ) → (0 < n → IsQuiet script x → IsFree script x n) → 0 < m → m ≤ n
    → IsQuiet script x → IsFree script x m
is_free script x n m free some fewer quiet = free_fewer script x n m (free (omega (arith, some, fewer)) quiet) fewer

pub returns-then-free-eq0-clause-steps4 : goal.returns-then-free-eq0-clause-steps4
returns-then-free-eq0-clause-steps4 c =
    one_step 4 c.args.notes.now c.args.script.now c.args.at4.now c.step.new.self c.requires.running4 c.step.ensures.step
    c.step.ensures.counted

pub returns-then-free-eq0-clause-steps8 : goal.returns-then-free-eq0-clause-steps8
returns-then-free-eq0-clause-steps8 c =
    one_step 8 c.args.notes.now c.args.script.now c.args.at8.now c.step-then-free-eq0.new.self c.requires.running8
    c.step-then-free-eq0.ensures.step c.step-then-free-eq0.ensures.counted

pub returns-then-free-eq0-clause-same : goal.returns-then-free-eq0-clause-same
returns-then-free-eq0-clause-same c = λ world r s notes script is4 is8 same. same_before_one world r s same

pub returns-clause-steps4 : goal.returns-clause-steps4
returns-clause-steps4 c =
    free_steps 4 c.args.notes.now c.args.script.now c.min-free.result c.instructions-steps.result _ c.args.at4.now
    c.instructions-steps.new.at4 c.instructions-steps.ensures.done4 c.requires.running4
    (is_free c.args.script.now c.args.at4.now c.free.result c.min-free.result (c.free.ensures.free c.args.script.now)
    (omega (arith, c.if-free-eq0.false)) (omega (arith, c.min.ensures, c.min-free.ensures))) c.saturating_add-at4.ensures

pub returns-clause-steps8 : goal.returns-clause-steps8
returns-clause-steps8 c =
    free_steps 8 c.args.notes.now c.args.script.now c.min-free.result c.instructions-steps.result _ c.args.at8.now
    c.instructions-steps.new.at8 c.instructions-steps.ensures.done8 c.requires.running8
    (is_free c.args.script.now c.args.at8.now c.free-2.result c.min-free.result (c.free-2.ensures.free c.args.script.now)
    (omega (arith, c.if-free-eq0.false)) (omega (arith, c.min.ensures, c.min-free.ensures))) c.saturating_add-at8.ensures

pub returns-clause-same : goal.returns-clause-same
returns-clause-same c = λ world r s notes script is4 is8 same.
    let some : 0 < c.min-free.result = omega (arith, c.if-free-eq0.false) in
    c.instructions-steps.ensures.same world r s notes
    (is_free world.script c.args.at4.now c.free.result c.min-free.result (c.free.ensures.free world.script) some
    (omega (arith, c.min.ensures, c.min-free.ensures)) is4.quiet)
    (is_free world.script c.args.at8.now c.free-2.result c.min-free.result (c.free-2.ensures.free world.script) some
    (omega (arith, c.min.ensures, c.min-free.ensures)) is8.quiet)
    (sym is4.at.ending ∙ c.requires.running4) is4.at is8.at same
