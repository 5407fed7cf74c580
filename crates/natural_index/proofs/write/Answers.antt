use Rattle.std.proofs.Common.{◌≡◌, Bool, true, false, refl, arith}
use Rattle.natural_index.specs.Index.{bit}
use Rattle.natural_index.proofs.Laws.{packed, raw_below, index_again}
use Rattle.natural_index.proofs.write.Goals as goal
use mir.Val.{bool_byte}

byte_bit : (b : Bool) → bool_byte b ≡ bit b
byte_bit true = refl
byte_bit false = refl

pub returns-clause-raw : goal.returns-clause-raw
returns-clause-raw c =
    let i = c.args.i.now in
    rw (c.natural_width-natural.ensures, byte_bit i.neg) (packed c.args.bits i (omega (arith, c.requires.size))
    (omega (arith, c.requires.size)) c.requires.room)

pub returns-clause-within : goal.returns-clause-within
returns-clause-within c = rw (returns-clause-raw c) (raw_below c.args.bits c.args.i.now (omega (arith, c.requires.size)) c.requires.room)

pub returns-clause-read_again : goal.returns-clause-read_again
returns-clause-read_again c = rw (returns-clause-raw c) (index_again c.args.bits c.args.i.now
    (omega (arith, c.requires.size)) c.requires.room)
