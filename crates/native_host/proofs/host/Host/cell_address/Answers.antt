use Rattle.native_host.proofs.Common.{◌+◌, ◌*◌, ◌<◌, ◌≤◌, ◌^◌, refl, arith, cell_address, placement_of}
use Rattle.native_host.proofs.KeptLaws.{address-is, if-none}
use Rattle.native_host.proofs.host.Host.cell_address.Goals as goal

pub returns-in_err-start-clause-past : goal.returns-in_err-start-clause-past
returns-in_err-start-clause-past g c =
    let sum = address-is g.row.W c.args.notes.now c.args.self.now.places c.args.self.now.made.items c.args.object c.args.instance
    c.object_base.result c.size_of.result (c.args.field.now.n * g.row.W + c.args.field.now.c) c.args.field.now c.requires.notes
    c.object_base.ensures
    c.size_of.ensures refl in
    let past : c.object_base.result + c.in_ok-offset.offset < 2 ^ 64 → ⊥ = c.in_err-start.ensures in
    let offset = c.in_ok-offset.ensures in
    let most : 2 ^ 64 ≤ cell_address g.row.W c.args.notes.now (placement_of c.args.self.now.places) c.args.self.now.made.items
    c.args.object c.args.instance c.args.field.now = omega (arith, sum, past, offset) in
    if-none _ _ most

pub returns-in_err-at-clause-past : goal.returns-in_err-at-clause-past
returns-in_err-at-clause-past g c =
    let sum = address-is g.row.W c.args.notes.now c.args.self.now.places c.args.self.now.made.items c.args.object c.args.instance
    c.object_base.result c.size_of.result (c.args.field.now.n * g.row.W + c.args.field.now.c) c.args.field.now c.requires.notes
    c.object_base.ensures
    c.size_of.ensures refl in
    let past : c.in_ok-start.start + c.pair_at.result < 2 ^ 64 → ⊥ = c.in_err-at.ensures in
    let offset = c.in_ok-offset.ensures in
    let start = c.in_ok-start.ensures in
    let pair = c.pair_at.ensures.bytes in
    let most : 2 ^ 64 ≤ cell_address g.row.W c.args.notes.now (placement_of c.args.self.now.places) c.args.self.now.made.items
    c.args.object c.args.instance c.args.field.now = omega (arith, sum, past, offset, start, pair) in
    if-none _ _ most

pub returns-clause-at : goal.returns-clause-at
returns-clause-at g c =
    let sum = address-is g.row.W c.args.notes.now c.args.self.now.places c.args.self.now.made.items c.args.object c.args.instance
    c.object_base.result c.size_of.result (c.args.field.now.n * g.row.W + c.args.field.now.c) c.args.field.now c.requires.notes
    c.object_base.ensures
    c.size_of.ensures refl in
    let offset = c.in_ok-offset.ensures in
    let start = c.in_ok-start.ensures in
    let at = c.in_ok-at.ensures in
    let pair = c.pair_at.ensures.bytes in
    omega (arith, sum, offset, start, at, pair)
