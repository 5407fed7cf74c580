use Rattle.std.proofs.Common.{◌≡◌, ◌+◌, length, ap, refl, ◌∙◌, arith}
use Rattle.std.proofs.lemmas.List.{length_push}
use Rattle.std.proofs.lemmas.Result.{err_from_is_err_and}
use Rattle.ebc_object.specs.Files.{symbol_size}
use Rattle.ebc_object.proofs.Counted.{names_more, size_more, symbols_all, symbols_end, symbols_more}
use Rattle.ebc_object.proofs.symbols.symbols_at.Goals as goal

pub returns-in_err-symbol-clause-symbols : goal.returns-in_err-symbol-clause-symbols
returns-in_err-symbol-clause-symbols c =
    let p = err_from_is_err_and c.from_residual.result c.from_residual.ensures.1 in
    rw (p.1, p.2, c.loop-read.invariant.rest)
    (symbols_end c.args.count c.loop-read._read c.args.file.now c.args.sections.now.code.now c.args.sections.now.contents.now
    c.loop-read.names
    c.loop-read.symbols.items c.loop-read.at c.in_err-symbol.field-0.0
    (omega arith) c.loop-read.invariant.names c.in_err-symbol.ensures.symbol)

pub loop-read-preserved : goal.loop-read-preserved
loop-read-preserved c =
    let next : c.loop-read.at + (7 + length c.as_str.result.now) ≡ c.loop-read.at + symbol_size c.in_ok-symbol.symbol =
    ap (λ n. c.loop-read.at + (7 + length n)) c.as_str.ensures in
    record {
      names = names_more c.loop-read.names c.symbol_at.new.names c.loop-read.symbols.items c.push.new.self.items c.in_ok-symbol.symbol
          c.loop-read.invariant.names c.in_ok-push.ensures.items c.in_ok-symbol.ensures.names;
      count = omega (arith, length_push c.loop-read.symbols.items c.in_ok-symbol.symbol, ap length c.in_ok-push.ensures.items);
      at = size_more c.args.start c.loop-read.at (c.loop-read.at +
          (7 + length c.as_str.result.now)) c.loop-read.symbols.items c.push.new.self.items c.in_ok-symbol.symbol c.loop-read.invariant.at
          c.in_ok-push.ensures.items next;
      within = omega (arith, next, c.in_ok-symbol.ensures.within);
      rest = c.loop-read.invariant.rest
          ∙ (symbols_more c.args.count c.loop-read._read c.args.file.now c.args.sections.now.code.now c.args.sections.now.contents.now
          c.loop-read.names
          c.loop-read.symbols.items c.push.new.self.items c.loop-read.at c.in_ok-symbol.symbol
          (omega arith) c.loop-read.invariant.names c.in_ok-push.ensures.items c.in_ok-symbol.ensures.symbol
          ∙ rw (← next) refl);
    }

pub returns-clause-symbols : goal.returns-clause-symbols
returns-clause-symbols c =
    c.loop-read.invariant.rest
    ∙ symbols_all c.args.count c.loop-read._read c.args.file.now c.args.sections.now.code.now c.args.sections.now.contents.now
    c.loop-read.symbols.items c.loop-read.at (omega arith)
