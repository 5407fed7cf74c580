use Rattle.ebc_link.proofs.Common.{[], ◌∷◌, ◌++◌, ap, append-nil, append_assoc, arith, sym, take, drop, ◌+◌, ◌∙◌, ◌≡◌, take_all}
use Rattle.ebc_link.proofs.Common.{err_from_is_err_and, Twice, unless_some, definitions_in, first_again, names_of, defined}
use Rattle.ebc_link.proofs.{AgainLaws.again_none, EndLaws.none_where_ok, EndLaws.twice-fails, EndLaws.twice-more}
use Rattle.ebc_link.proofs.{GlobalLaws.definitions-more, GlobalLaws.definitions-split}
use Rattle.ebc_link.proofs.globals.Globals.add_all.Goals as goal

pub loop-symbol-init : goal.loop-symbol-init
loop-symbol-init c = record {
  holds = sym (append-nil (defined c.args.self.now));
  again = again_none (names_of (defined c.args.self.now));
  paired = c.requires.paired;
  few = omega arith;
}

pub returns-in_err-add-clause-twice : goal.returns-in_err-add-clause-twice
returns-in_err-add-clause-twice c =
    let p = err_from_is_err_and c.from_residual.result c.from_residual.ensures.1 in
    let i = c.loop-symbol.symbol-index in
    let s = c.symbol-item.result in
    let home = c.args.home in
    let symbols = c.args.symbols.now in
    rw (p.1, p.2)
    (twice-fails c.in_err-add.field-0.0 (defined c.args.self.now) (defined c.loop-symbol.self) (definitions_in home (take i symbols))
    (definitions_in home (s ∷ [])) (definitions_in home (drop (i + 1) symbols)) (definitions_in home symbols)
    c.loop-symbol.invariant.holds (definitions-split home symbols i s (omega arith) c.symbol-item.is)
    c.loop-symbol.invariant.again c.in_err-add.ensures.twice)

pub loop-symbol-preserved : goal.loop-symbol-preserved
loop-symbol-preserved c =
    let i = c.loop-symbol.symbol-index in
    let s = c.symbol-item.result in
    let home = c.args.home in
    let symbols = c.args.symbols.now in
    let old = defined c.args.self.now in
    let more = definitions-more home symbols i s (omega arith) c.symbol-item.is in
    record {
      holds = c.in_ok-add.ensures.defined
          ∙ (ap (λ ds. ds ++ definitions_in home (s ∷ [])) c.loop-symbol.invariant.holds
          ∙ (append_assoc old (definitions_in home (take i symbols)) (definitions_in home (s ∷ [])) ∙ ap (λ ds. old ++ ds) (sym more)));
      again = ap (λ ds. first_again (names_of old) (names_of ds)) more
          ∙ twice-more old (defined c.loop-symbol.self) (definitions_in home (take i symbols)) (definitions_in home (s ∷ []))
          c.loop-symbol.invariant.holds c.loop-symbol.invariant.again
          (none_where_ok Twice _ c.in_ok-add.ensures.twice);
      paired = c.in_ok-add.ensures.paired;
      few = omega (arith, c.in_ok-add.ensures.few);
    }

pub returns-clause-twice : goal.returns-clause-twice
returns-clause-twice c =
    let symbols = c.args.symbols.now in
    let whole : take c.loop-symbol.symbol-index symbols ≡ symbols = take_all c.loop-symbol.symbol-index symbols (omega arith) in
    ap (unless_some Twice)
    (ap (λ ss. first_again (names_of (defined c.args.self.now)) (names_of (definitions_in c.args.home ss))) (sym whole)
    ∙ c.loop-symbol.invariant.again)

pub returns-clause-defined : goal.returns-clause-defined
returns-clause-defined c =
    let symbols = c.args.symbols.now in
    let whole : take c.loop-symbol.symbol-index symbols ≡ symbols = take_all c.loop-symbol.symbol-index symbols (omega arith) in
    c.loop-symbol.invariant.holds ∙ ap (λ ss. defined c.args.self.now ++ definitions_in c.args.home ss) whole
