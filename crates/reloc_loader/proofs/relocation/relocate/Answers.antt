use Rattle.reloc_loader.proofs.Common.{◌≡◌, ◌+◌, ◌%◌, ◌^◌, ap, ◌∙◌, None, little_endian, put, with_bytes}
use Rattle.std.proofs.lemmas.Option.{same_Some}
use Rattle.object_memory.specs.Memory.{held_number}
use Rattle.object_memory.proofs.Laws.{held_number-with_bytes, memory_after-with_bytes}
use Rattle.reloc_loader.proofs.relocation.relocate.Goals as goal

pub returns-in-Some-clause-becomes : goal.returns-in-Some-clause-becomes
returns-in-Some-clause-becomes g c m f is =
    let number : c.in-Some.number ≡ little_endian f c.args.at 8 =
    same_Some _ _ (c.in-Some.ensures.number ∙ held_number-with_bytes m c.args.mem.now f c.args.at 8 is c.requires) in
    c.store.ensures.after ∙ (memory_after-with_bytes m c.args.mem.now f c.args.at 8 _ is c.requires
    ∙ ap (λ n. with_bytes m (put f c.args.at 8 ((n + c.args.distance) % 2 ^ 64))) number)

pub returns-in_default-clause-becomes : goal.returns-in_default-clause-becomes
returns-in_default-clause-becomes g c m f is =
    let none : None ≡ held_number c.args.mem.now c.args.at 8 = c.in_default.ensures.number in
    let some = held_number-with_bytes m c.args.mem.now f c.args.at 8 is c.requires in
    absurd cc
