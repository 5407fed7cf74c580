use Rattle.ebc_link.proofs.Common.{append-nil, arith, drop_all, laid_in}
use Rattle.ebc_link.proofs.LaidLaws.{length-laid}
use Rattle.ebc_link.proofs.resolved.Resolved.append_relocs.Goals as goal

pub returns : goal.returns
returns c =
    let r = c.args.self.now in
    let long = length-laid r.objects.now r.homes.items c.requires.homes in
    rw (drop_all c.loop-number.number (laid_in r) (omega (arith, long, c.loop-number-test.false)), append-nil) at c.loop-number.invariant
