use Rattle.std.proofs.Common.{sym, subst}
use Rattle.type_notes.specs.Locals.{IsFieldSet}
use Rattle.type_notes.proofs.FieldSetLaws.{field_set-fields}
use Rattle.type_notes.proofs.resolve.field_set.Goals as goal

pub returns-clause-fields : goal.returns-clause-fields
returns-clause-fields c = subst (λ set. IsFieldSet c.args.fields.now c.args.names.now set) (sym c.field_bits.ensures)
    (field_set-fields c.args.fields.now c.args.names.now)
