use Rattle.std.proofs.Common.{subst}
use Rattle.note_infer.specs.Inferred.{IsInferred}
use Rattle.note_completion.specs.Causes.{by_points}
use Rattle.note_completion.proofs.missing.found_points.Goals as goal

pub returns-in_ok-state-in-Stuck : goal.returns-in_ok-state-in-Stuck
returns-in_ok-state-in-Stuck c = record {
  cause = by_points c.in-Stuck.state
      (subst (IsInferred c.args.image.now c.args.notes.now) c.in-Stuck.is c.in_ok-points.ensures.inferred);
}

pub returns-in-Many : goal.returns-in-Many
returns-in-Many c = record {
  cause = (
    c.in-Many.leaders,
    subst (IsInferred c.args.image.now c.args.notes.now) c.in-Many.is c.in_ok-points.ensures.inferred,
  );
}
