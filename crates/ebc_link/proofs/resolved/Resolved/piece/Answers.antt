use Rattle.ebc_link.proofs.Common.{arith, subst, sym, IsLow, defined_in}
use Rattle.ebc_link.proofs.LaidLaws.{laid_more}
use Rattle.ebc_link.proofs.ResolvedLaws.{is_at, length-places, places_at}
use Rattle.ebc_link.proofs.resolved.Resolved.piece.Goals as goal

pub returns-clause-places : goal.returns-clause-places
returns-clause-places c =
    places_at c.args.self.now c.args.number c.index-self-number.result c.index.result.now c.as_slice.result.now c.index-2.result.now
    c.requires.resolved c.requires.number c.index.ensures c.as_slice.ensures c.index-2.ensures

pub returns-clause-laid : goal.returns-clause-laid
returns-clause-laid c =
    laid_more c.args.self.now.objects.now c.args.self.now.homes.items c.args.number _ c.index.result.now
    (is_at c.args.self.now c.args.number c.index-self-number.result c.index.result.now c.requires.resolved c.requires.number
    c.index.ensures)

pub returns-clause-piece : goal.returns-clause-piece
returns-clause-piece c =
    let resolved = c.requires.resolved in
    let low = resolved.low c.args.number c.index.result.now (omega (arith, c.requires.number, resolved.homes)) in
    record {
      object = resolved.objects c.args.number c.index-self-number.result c.requires.number;
      low = subst IsLow (sym c.index.ensures) low;
      places = length-places (defined_in c.args.self.now) _ c.index.result.now c.as_slice.result.now (returns-clause-places c);
    }
