use Rattle.std.proofs.Common.{string_bytes, bytes_eq, sym, ◌∙◌}
use Rattle.ebc_base.proofs.TableLaws.{position_or_len-map, position_or_len-found, position_or_len-missing}
use Rattle.ebc_base.proofs.table.NameTable.number.Goals as goal

pub returns-in-Some-clause-number : goal.returns-in-Some-clause-number
returns-in-Some-clause-number c =
    rw (← c.self.view_is, ← c.as_str.ensures)
    (position_or_len-found _ c.self.inside.names.keys c.in-Some.number (sym c.get_index_of.ensures.index ∙ c.in-Some.is)
    ∙ position_or_len-map (bytes_eq c.as_str.result.now) string_bytes c.self.inside.names.keys)

pub returns-in-None-clause-number : goal.returns-in-None-clause-number
returns-in-None-clause-number c =
    rw (← c.self.view_is, ← c.as_str.ensures)
    (c.len.ensures.len ∙ position_or_len-missing _ c.self.inside.names.keys (sym c.get_index_of.ensures.index ∙ c.in-None.is)
    ∙ position_or_len-map (bytes_eq c.as_str.result.now) string_bytes c.self.inside.names.keys)
