use Rattle.std.proofs.Common.{◌∙◌, arith}
use Rattle.std.proofs.lemmas.Result.{err_from_is_err_and}
use Rattle.ebc_object.proofs.Counted.{fixups_all, fixups_end, fixups_more}
use Rattle.ebc_object.proofs.Spelled.{HasLast-read}
use Rattle.ebc_object.proofs.Stands.{AreBytes}
use Rattle.ebc_object.proofs.fixups.fixups_at.Goals as goal

pub returns-in_err-fixup-clause-fixups : goal.returns-in_err-fixup-clause-fixups
returns-in_err-fixup-clause-fixups c =
    let p = err_from_is_err_and c.from_residual.result c.from_residual.ensures.1 in
    rw (p.1, p.2, c.loop-read.invariant.rest)
    (fixups_end c.args.count c.loop-read._read c.args.file.now c.args.sections.now.code.now c.args.sections.now.contents.now c.args.symbols
    c.as_slice.result.now c.loop-read.fixups.items c.loop-read.at c.in_err-fixup.field-0.0
    (omega arith) c.as_slice.ensures.value c.in_err-fixup.ensures.fixup)

pub loop-read-preserved : goal.loop-read-preserved
loop-read-preserved c =
    let bytes : AreBytes c.args.file.now = record { below = λ i. omega (arith, c.type_inv.file i) } in
    record {
      last = HasLast-read c.args.file.now c.args.sections.now.code.now c.args.sections.now.contents.now c.args.symbols c.as_slice.result.now
          c.loop-read.fixups.items c.push.new.self.items
          c.loop-read.at c.in_ok-fixup.fixup bytes c.as_slice.ensures.value c.in_ok-push.ensures.items c.in_ok-fixup.ensures.fixup;
      at = omega arith;
      within = omega (arith, c.in_ok-fixup.ensures.within);
      rest = c.loop-read.invariant.rest
          ∙ fixups_more c.args.count c.loop-read._read c.args.file.now c.args.sections.now.code.now c.args.sections.now.contents.now
          c.args.symbols
          c.as_slice.result.now c.loop-read.fixups.items c.push.new.self.items c.loop-read.at c.in_ok-fixup.fixup
          (omega arith) c.as_slice.ensures.value c.in_ok-push.ensures.items c.in_ok-fixup.ensures.fixup;
    }

pub returns-clause-fixups : goal.returns-clause-fixups
returns-clause-fixups c =
    c.loop-read.invariant.rest
    ∙ fixups_all c.args.count c.loop-read._read c.args.file.now c.args.sections.now.code.now c.args.sections.now.contents.now c.args.symbols
    c.loop-read.fixups.items c.loop-read.at (omega arith)
