use Rattle.std.proofs.Common.{rules, ◌<◌, ◌^◌, sym, subst, ◌≡◌, ℕ, List, replicate, ap, ◌∙◌, arith}
use Rattle.std.specs.Int.{w64, from_le_bytes}
use Rattle.std.specs.Prelude.{slice_index}
use Rattle.ebc_width.proofs.ByteLaws.{little_endian-below}
use Rattle.ebc_width.proofs.Numbers.{read_number}
use Rattle.raw_region.proofs.number.read_sized.Goals as goal
use borrow.Rule.Slice.PartMut.{put_mid}

pub returns-clause-number : goal.returns-clause-number
returns-clause-number c =
    let word : List ℕ = put_mid 0 c.args.count (replicate 8 0) c.copy_from_slice.new.self in
    let value : c.from_le_bytes.result ≡ from_le_bytes w64 word = c.from_le_bytes.ensures in
    value
    ∙ read_number c.args.bytes.now word c.args.offset c.args.count (omega (arith, c.requires.count)) c.requires.within
    (ap (put_mid 0 c.args.count (replicate 8 0)) c.copy_from_slice.ensures.after)

pub returns-clause-below : goal.returns-clause-below
returns-clause-below c =
    let bytes : (i : ℕ) → slice_index c.args.bytes.now i < 256 = search rules in
    subst (λ n. n < 256 ^ c.args.count) (sym (returns-clause-number c))
    (little_endian-below (slice_index c.args.bytes.now) c.args.offset c.args.count bytes)
