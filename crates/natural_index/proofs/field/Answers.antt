use Rattle.std.proofs.lemmas.Nat.{one_shl, and_mask}
use Rattle.natural_index.proofs.field.Goals as goal

pub returns : goal.returns
returns c = rw (one_shl c.args.width 64 c.requires.width) (and_mask _ c.args.width)
