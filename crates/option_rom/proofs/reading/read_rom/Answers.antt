use Rattle.option_rom.proofs.Common.{◌∙◌, Ok, ap, sym}
use Rattle.std.proofs.lemmas.Result.{err_from_is_err_and}
use Rattle.option_rom.proofs.Loops.{HasRead-all, HasRead-fails, HasRead-more, HasRead-none, all_takeable}
use Rattle.option_rom.proofs.{Loops.first_told, Walks.read-rom}
use Rattle.option_rom.proofs.reading.read_rom.Goals as goal

pub loop-next-init : goal.loop-next-init
loop-next-init c = HasRead-none c.args.file.now c.new-images.result.items c.new-images.ensures.items

pub returns-in_err-next-clause-reading : goal.returns-in_err-next-clause-reading
returns-in_err-next-clause-reading c =
    let p = err_from_is_err_and c.from_residual.result c.from_residual.ensures.1 in
    rw (p.1, p.2)
    (HasRead-fails c.args.file.now c.loop-next.images.items c.loop-next.next c.in-Some.at c.in_err-next.field-0.0 c.loop-next.invariant
    c.in-Some.is c.in_err-next.ensures.checks)

pub returns-in_err-next-clause-fault : goal.returns-in_err-next-clause-fault
returns-in_err-next-clause-fault c =
    let p = err_from_is_err_and c.from_residual.result c.from_residual.ensures.1 in
    rw (p.1, p.2)
    (first_told c.args.file.now c.in_err-next.field-0.0
    (HasRead-fails c.args.file.now c.loop-next.images.items c.loop-next.next c.in-Some.at c.in_err-next.field-0.0 c.loop-next.invariant
    c.in-Some.is c.in_err-next.ensures.checks))

pub loop-next-preserved : goal.loop-next-preserved
loop-next-preserved c =
    HasRead-more c.args.file.now c.loop-next.images.items c.append_image.new.images.items c.loop-next.next c.in_ok-next.next c.in-Some.at
    c.loop-next.invariant c.in-Some.is c.in_ok-next.ensures.checks c.in_ok-next.ensures.image c.in_ok-next.ensures.next
    c.in_ok-next.ensures.later

pub returns-clause-reading : goal.returns-clause-reading
returns-clause-reading c = HasRead-all c.args.file.now c.loop-next.images.items c.loop-next.next c.loop-next.invariant c.in_default.is
    ∙ ap Ok (sym c.new.ensures)

pub returns-clause-rom : goal.returns-clause-rom
returns-clause-rom c = read-rom c.args.file.now c.new.result (returns-clause-reading c)

pub returns-clause-takeable : goal.returns-clause-takeable
returns-clause-takeable c = all_takeable c.args.file.now c.new.result c.requires (returns-clause-rom c)
