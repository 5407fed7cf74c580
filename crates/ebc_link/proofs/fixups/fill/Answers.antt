use Rattle.ebc_link.proofs.Common.{Fixup, arith, ◌∙◌, drop_all, drop_more, get_or, with_fixups}
use Rattle.std.proofs.lemmas.Bool.{eq-eqb, ne_eqb}
use Rattle.ebc_link.proofs.fixups.fill.Goals.{then-fixup-section, else-fixup-section}
use Rattle.ebc_link.proofs.fixups.fill.Goals as goal

abbrev no_fixup : Fixup
no_fixup = record { section = 0; kind = 0; offset = 0; symbol = 0; from = 0 }

pub loop-fixup-preserved : goal.loop-fixup-preserved
unfolding with_fixups
loop-fixup-preserved c =
    let fs = c.args.fixups.now in
    let i = c.loop-fixup.fixup-index in
    let next = drop_more fs i no_fixup c.loop-fixup-test.true in
    elim c.if-fixup-section.branch [
      | then-fixup-section w ↦ rw (w.bytes-is ∙ w.fill_in.ensures)
          (rw (next, eq-eqb (get_or fs i no_fixup).section c.args.section w.if-fixup-section.true) at c.loop-fixup.invariant)
      | else-fixup-section w ↦ rw w.bytes-is
          (rw (next, ne_eqb (get_or fs i no_fixup).section c.args.section w.if-fixup-section.false) at c.loop-fixup.invariant)
    ]

pub returns : goal.returns
unfolding with_fixups
returns c = rw (drop_all c.loop-fixup.fixup-index c.args.fixups.now (omega arith)) at c.loop-fixup.invariant
