use Rattle.ebc_link.proofs.Common.{drop_all, first_in, ◌+◌, drop, sym, ◌∙◌, arith, far_in, defined_in, laid_in, laid_of}
use Rattle.ebc_link.proofs.{ResolvedLaws.far_so, FirstLaws.first_here, FirstLaws.first_more, LaidLaws.length-laid}
use Rattle.ebc_link.proofs.resolved.Resolved.first_far.Goals as goal

pub returns-in-Some : goal.returns-in-Some
returns-in-Some c =
    let r = c.args.self.now in
    let i = c.loop-number.number in
    let p = c.piece.result in
    sym (first_here (far_in (defined_in r)) (laid_in r) (drop (i + 1) (laid_in r)) i (laid_of p) c.in-Some.place c.piece.ensures.laid
    (far_so (defined_in r) p c.first_far.result c.piece.ensures.places c.first_far.ensures ∙ c.in-Some.is) c.loop-number.invariant)

pub loop-number-preserved : goal.loop-number-preserved
loop-number-preserved c =
    let r = c.args.self.now in
    let i = c.loop-number.number in
    let p = c.piece.result in
    first_more (far_in (defined_in r)) (laid_in r) (drop (i + 1) (laid_in r)) i (laid_of p) c.piece.ensures.laid
    (far_so (defined_in r) p c.first_far.result c.piece.ensures.places c.first_far.ensures ∙ c.in_default.is) c.loop-number.invariant

pub returns : goal.returns
unfolding first_in
returns c =
    let r = c.args.self.now in
    let long = length-laid r.objects.now r.homes.items c.requires.homes in
    rw (drop_all c.loop-number.number (laid_in r) (omega (arith, long, c.loop-number-test.false))) at c.loop-number.invariant
