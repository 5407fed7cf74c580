use Rattle.std.proofs.Common.{◌<◌, ◌^◌, sym, arith}
use Rattle.pe_image.specs.Mapped.{section_with}
use Rattle.ebc_disasm.proofs.Targets.{named_none, named_some, place_small}
use Rattle.ebc_disasm.proofs.bytes.named.Goals as goal

pub overflow_cast-result : goal.overflow_cast-result
unfolding section_with
overflow_cast-result c =
    let small : c.named_place-target.result < 2 ^ 22 =
    place_small c.args.image.now c.named_place-target.result c.in-Some.field-0.now c.requires (sym c.in-Some.ensures) in
    omega arith

pub returns-in-Some : goal.returns-in-Some
unfolding section_with
returns-in-Some c =
    sym (named_some c.args.image.now c.args.place c.named_place-target.result c.in-Some.field-0.now c.named_place-target.ensures
    (sym c.in-Some.ensures))

pub returns-in-None : goal.returns-in-None
unfolding section_with
returns-in-None c =
    sym (named_none c.args.image.now c.args.place c.named_place-target.result c.named_place-target.ensures (sym c.in-None.ensures))
