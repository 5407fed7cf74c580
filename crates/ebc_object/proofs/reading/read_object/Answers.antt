use Rattle.std.proofs.Common.{arith, rules}
use Rattle.ebc_object.proofs.Spelled.{object-read}
use Rattle.ebc_object.specs.Readings.{object_of_file}
use Rattle.ebc_object.proofs.reading.read_object.Goals as goal

pub returns-clause-reading : goal.returns-clause-reading
unfolding object_of_file
returns-clause-reading c = search rules

pub returns-clause-format : goal.returns-clause-format
returns-clause-format c = (object-read c.args.file.now _ (record { below = λ i. omega (arith, c.type_inv.file i) })
    (returns-clause-reading c)).0

pub returns-clause-sound : goal.returns-clause-sound
returns-clause-sound c = (object-read c.args.file.now _ (record { below = λ i. omega (arith, c.type_inv.file i) })
    (returns-clause-reading c)).1
