use Rattle.ebc_link.proofs.Common.{codes}
use Rattle.toml.proofs.Views.{table_get}
use Rattle.ebc_link.proofs.plan_text.objects_value.Goals as goal

pub returns : goal.returns
returns c = table_get c.get.result (codes "objects") c.args.table.now.entries c.get.ensures.value
