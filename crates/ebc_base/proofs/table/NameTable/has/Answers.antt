use Rattle.std.proofs.Common.{string_bytes, bytes_eq, ◌∙◌}
use Rattle.ebc_base.proofs.TableLaws.{list_any-map}
use Rattle.ebc_base.proofs.table.NameTable.has.Goals as goal

pub returns : goal.returns
returns c = rw (← c.self.view_is, ← c.as_str.ensures) (c.contains.ensures
    ∙ list_any-map (bytes_eq c.as_str.result.now) string_bytes c.self.inside.names.keys)
