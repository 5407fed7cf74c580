use Rattle.std.proofs.Common.{subst, sym}
use Rattle.note_types.proofs.RecordLaws.{fields_few}
use Rattle.rules_image.specs.Tables.{HaveFewFields}
use Rattle.rules_image.proofs.tables.check_shapes.Goals as goal

pub first_unfit-requires : goal.first_unfit-requires
first_unfit-requires c = subst HaveFewFields (sym c.as_slice.ensures) (λ k s there. fields_few c.args.notes.now k s c.requires there)
