use Rattle.twin_run.proofs.Common.{◌≡◌, Bool, true, false, not, refl, nat_eq}
use Rattle.std.specs.Bool.{OnFalse, OnTrue}
use Rattle.twin_run.proofs.HostingLaws.{called_there, none_there}
use Rattle.twin_run.proofs.runner.Runner.is_called.Goals as goal

when : (b : Bool) (A : Type 0) → (b ≡ false → A) → OnTrue (not b) A
when true A is = tt
when false A is = is refl

unless : (b : Bool) (A : Type 0) → (b ≡ true → A) → OnFalse (not b) A
unless true A is = is refl
unless false A is = tt

pub returns-clause-called : goal.returns-clause-called
returns-clause-called g c =
    when (nat_eq c.mark-entry.result.0 4294967295) _ (called_there c.args.self.now.frames c.mark-entry.result.0 c.requires
    c.mark-entry.ensures.entry)

pub returns-clause-none : goal.returns-clause-none
returns-clause-none g c =
    unless (nat_eq c.mark-entry.result.0 4294967295) _ (none_there c.args.self.now.frames c.mark-entry.result.0 c.mark-entry.ensures.entry)
