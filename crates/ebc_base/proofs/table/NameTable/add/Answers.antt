use Rattle.std.proofs.Common.{ap, ◌∙◌, string_bytes, bytes_eq}
use Rattle.std.specs.Prelude.{not}
use Rattle.ebc_base.proofs.TableLaws.{list_any-map, names-insert_key}
use Rattle.ebc_base.proofs.table.NameTable.add.Goals as goal

pub returns-clause-new : goal.returns-clause-new
returns-clause-new c =
    rw (← c.self.view_is, ← c.as_str.ensures, ← c.in_ok-copy.ensures.ok)
    (c.in_ok-new.ensures.added ∙ ap not (list_any-map (bytes_eq (string_bytes c.in_ok-copy.copy)) string_bytes c.self.inside.names.keys))

pub returns-clause-ok : goal.returns-clause-ok
returns-clause-ok c =
    rw (← c.self.view_is, ← c.as_str.ensures, ← c.in_ok-copy.ensures.ok, c.in_ok-new.ensures.keys)
    (names-insert_key c.in_ok-copy.copy c.self.inside.names.keys)
