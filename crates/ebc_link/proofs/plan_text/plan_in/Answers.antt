use Rattle.toml.specs.View.{table_view}
use Rattle.ebc_link.proofs.PlanLaws.{entry_name}
use Rattle.ebc_link.proofs.plan_text.plan_in.Goals as goal

pub returns-clause-sound : goal.returns-clause-sound
returns-clause-sound c = record {
  some = c.in_ok-objects.ensures.some;
  few = c.in_ok-objects.ensures.few;
  names = c.in_ok-objects.ensures.names;
  apart = rw c.as_slice.ensures at c.in_ok-objects_once.ensures.apart;
  entry = entry_name (table_view c.args.table.now) c.in_ok-entry.entry c.in_ok-entry.ensures;
  subsystem = c.in_ok-subsystem.ensures.within;
  base = c.in_ok-base.ensures.whole;
  small = c.in_ok-base.ensures.small;
}
