use Rattle.ebc_link.proofs.Common.{◌≡◌, ◌+◌, ◌++◌, [], ap, arith, drop, get_or, subst, sym, take, ◌∙◌, take_all, err_from_is_err_and}
use Rattle.ebc_link.proofs.Common.{laid_with, Fails, Twice, unless_some, definitions, definitions_in, first_again, names_of, defined}
use Rattle.ebc_link.proofs.{AgainLaws.again_none, EndLaws.none_where_ok, EndLaws.twice-fails, EndLaws.twice-more, GlobalLaws.objects-more}
use Rattle.ebc_link.proofs.{GlobalLaws.objects-split, LaidLaws.IsAt, LaidLaws.at_number, LaidLaws.laid_at, LaidLaws.laid_more}
use Rattle.ebc_link.proofs.{LaidLaws.laid_taken, LaidLaws.length-laid, LaidLaws.no_home}
use Rattle.ebc_link.proofs.globals.Globals.of.Goals as goal

pub loop-number-init : goal.loop-number-init
unfolding definitions
loop-number-init c = record {
  holds = c.new-globals.ensures.none;
  again = again_none [];
  paired = c.new-globals.ensures.paired;
  few = omega (arith, c.new-globals.ensures.empty);
}

pub returns-in_err-add_all-clause-twice : goal.returns-in_err-add_all-clause-twice
returns-in_err-add_all-clause-twice c =
    let p = err_from_is_err_and c.from_residual.result c.from_residual.ensures.1 in
    let i = c.loop-number.number in
    let os = c.args.objects.now in
    let hs = c.args.homes.now in
    let ls = laid_with os hs in
    let o = c.index-objects-number.result in
    let h = get_or hs i no_home in
    let e = c.in_err-add_all.field-0.0 in
    let now = defined c.loop-number.globals in
    let at : IsAt os hs i o h = at_number os hs i o no_home c.loop-number-test.true c.requires.homes c.index-objects-number.is in
    rw (p.1, p.2)
    (twice-fails e [] now (definitions (take i ls)) (definitions_in h o.symbols) (definitions (drop (i + 1) ls)) (definitions ls)
    c.loop-number.invariant.holds (objects-split ls (drop (i + 1) ls) i (laid_at o h) (laid_more os hs i o h at))
    c.loop-number.invariant.again
    (subst (λ ss. Fails e (unless_some Twice (first_again (names_of now) (names_of (definitions_in h ss))))) c.as_slice.ensures
    c.in_err-add_all.ensures.twice))

pub loop-number-preserved : goal.loop-number-preserved
loop-number-preserved c =
    let i = c.loop-number.number in
    let os = c.args.objects.now in
    let hs = c.args.homes.now in
    let ls = laid_with os hs in
    let o = c.index-objects-number.result in
    let h = get_or hs i no_home in
    let now = defined c.loop-number.globals in
    let at : IsAt os hs i o h = at_number os hs i o no_home c.loop-number-test.true c.requires.homes c.index-objects-number.is in
    let more = objects-more ls i (laid_at o h) (laid_taken os hs i o h at) in
    let none = none_where_ok Twice (first_again (names_of now) (names_of (definitions_in h c.as_slice.result.now)))
    c.in_ok-add_all.ensures.twice in
    record {
      holds = c.in_ok-add_all.ensures.defined
          ∙ (ap (λ ss. now ++ definitions_in h ss) c.as_slice.ensures
          ∙ (ap (λ ds. ds ++ definitions_in h o.symbols) c.loop-number.invariant.holds ∙ sym more));
      again = ap (λ ds. first_again [] (names_of ds)) more
          ∙ twice-more [] now (definitions (take i ls)) (definitions_in h o.symbols) c.loop-number.invariant.holds
          c.loop-number.invariant.again
          (ap (λ ss. first_again (names_of now) (names_of (definitions_in h ss))) (sym c.as_slice.ensures) ∙ none);
      paired = c.in_ok-add_all.ensures.paired;
      few = omega (arith, c.in_ok-add_all.ensures.few);
    }

pub returns-clause-twice : goal.returns-clause-twice
returns-clause-twice c =
    let ls = laid_with c.args.objects.now c.args.homes.now in
    let long = length-laid c.args.objects.now c.args.homes.now c.requires.homes in
    let whole : take c.loop-number.number ls ≡ ls = take_all c.loop-number.number ls (omega (arith, long, c.loop-number-test.false)) in
    ap (unless_some Twice) (ap (λ ms. first_again [] (names_of (definitions ms))) (sym whole) ∙ c.loop-number.invariant.again)

pub returns-clause-defined : goal.returns-clause-defined
returns-clause-defined c =
    let ls = laid_with c.args.objects.now c.args.homes.now in
    let long = length-laid c.args.objects.now c.args.homes.now c.requires.homes in
    let whole : take c.loop-number.number ls ≡ ls = take_all c.loop-number.number ls (omega (arith, long, c.loop-number-test.false)) in
    c.loop-number.invariant.holds ∙ ap definitions whole
