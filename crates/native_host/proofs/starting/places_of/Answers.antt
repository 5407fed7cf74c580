use Rattle.native_host.proofs.Common.{rules, ◌≡◌, length, ap, arith, placed_objects, world_of, rooms_in}
use Rattle.native_host.proofs.StartLaws.{all_sum, sizes}
use Rattle.native_host.proofs.starting.places_of.Goals as goal

pub returns-clause-limit : goal.returns-clause-limit
returns-clause-limit g c =
    let all = all_sum g.row.W (world_of c.args.image.now c.args.notes.now c.args.script.now) in
    let given : c.as_slice.result.now ≡ sizes g.row.W c.args.notes.now = search rules in
    let rooms = ap (λ ss. rooms_in ss (placed_objects c.args.script.now (length c.args.script.now.call))) given in
    let past = c.in_ok-objects.ensures.past in
    let start = c.memory_start-first.ensures.start in
    let stack = c.stack_bytes-stack_bytes.ensures.bytes in
    let methods = c.len-methods.ensures in
    let functions = c.len-functions.ensures in
    let a = c.padded_size.ensures in
    let b = c.padded_size-2.ensures in
    let d = c.padded_size-3.ensures in
    let x = c.from.ensures in
    let y = c.from-2.ensures in
    let z = c.from-3.ensures in
    let u = c.from-4.ensures in
    omega (arith, all, rooms, past, start, stack, methods, functions, a, b, d, x, y, z, u)
