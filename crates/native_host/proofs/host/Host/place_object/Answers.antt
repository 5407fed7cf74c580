use Rattle.native_host.proofs.Common.{◌≡◌, ◌*◌, length, ap, ◌∙◌, arith, next_base, placed, script_object, object_bytes, placement_of}
use Rattle.object_memory.specs.declared.ObjId.{ObjId}
use Rattle.native_host.proofs.{KeptLaws.instance_bytes-is, PlaceLaws.with_object-placed}
use Rattle.native_host.proofs.host.Host.place_object.Goals as goal

pub returns-clause-placed : goal.returns-clause-placed
returns-clause-placed g c s =
    let size : c.args.object.now.count * c.instance_bytes.result ≡ object_bytes g.row.W c.args.notes.now (script_object c.args.object.now) =
    ap (λ n. c.args.object.now.count * n) (c.instance_bytes.ensures
    ∙ instance_bytes-is g.row.W c.args.notes.now c.args.self.now.places c.args.object.now.shape c.requires.notes) in
    let bytes : 1 * (c.args.object.now.count * c.instance_bytes.result)
    ≡ object_bytes g.row.W c.args.notes.now (script_object c.args.object.now) =
    omega (arith, size) in
    let base : c.in-Ok.field-0.base ≡ next_base g.row.W c.args.mem.now = ap (λ (i : ObjId). i.base) c.in-Ok.ensures.id in
    with_object-placed g.row.W c.args.notes.now (placement_of c.args.self.now.places) s c.args.mem.now c.place.new.self c.args.object.now
    (length c.args.self.now.made.items) (c.in-Ok.ensures.placed ∙ ap (placed g.row.W c.args.mem.now) bytes) c.requires.next.base
    (λ y from to. c.in-Ok.ensures.zeros y (omega (arith, base, from)) (omega (arith, base, to, bytes)))
