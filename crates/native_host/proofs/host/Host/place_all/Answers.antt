use Rattle.native_host.proofs.Common.{◌≡◌, ◌++◌, length, map, ap, ap₂, sym, subst, ◌∙◌, arith, mapped, Memory, ranges, Concrete}
use Rattle.native_host.proofs.Common.{with_objects, script_object, static_object, Placement, placed_ranges, world_of, bare_machine}
use Rattle.native_host.proofs.Common.{start_machine, World, with_memory, placement_of, AreComing}
use Rattle.ebc_base.proofs.Lists.{length-map}
use Rattle.native_host.proofs.ComingLaws.{bare_ranges, made_at_start, own_image, own_native, own_stack, start_coming, start_ranges}
use Rattle.native_host.proofs.StartLaws.{all_count, all_sum, made_count, objects_few, all_rest_made}
use Rattle.native_host.proofs.ComingLaws.{start_state}
use Rattle.native_host.proofs.host.Host.place_all.Goals as goal

pub place_image-requires : goal.place_image-requires
place_image-requires g c =
    let world : World = world_of c.args.image.now c.args.notes.now c.args.script.now in
    let fresh = c.requires.fresh in
    let sum = all_sum g.row.W world in
    let number = all_count g.row.W world in
    let bytes = fresh.bytes in
    let count = fresh.count in
    let P : Placement = placement_of c.args.self.now.places in (
      omega arith,
      (
        omega arith,
        (
          c.requires.width,
          (
            c.requires.image,
            (
              c.requires.notes,
              (
                fresh.notes,
                (
                  fresh.size,
                  (
                    fresh.empty,
                    (
                      omega (arith, bytes, sum),
                      (
                        omega (arith, count, number),
                        (
                          fresh.stack,
                          (
                            own_native g.row.W world P fresh.placement,
                            (own_stack g.row.W world P fresh.placement, own_image g.row.W world P fresh.placement),
                          ),
                        ),
                      ),
                    ),
                  ),
                ),
              ),
            ),
          ),
        ),
      ),
    )

pub make_objects-requires : goal.make_objects-requires
make_objects-requires g c =
    let world : World = world_of c.args.image.now c.args.notes.now c.args.script.now in
    let fresh = c.requires.fresh in
    let P : Placement = placement_of c.args.self.now.places in
    let m : Memory = c.place_image.new.mem in
    let number = ap length fresh.made ∙ length-map static_object c.args.notes.now.statics in
    let statics = c.requires.notes.few.statics in
    let objects = ap length c.as_slice.ensures in
    let all = made_count c.args.notes.now c.args.script.now (length c.args.script.now.call) in
    let few = objects_few c.args.notes.now c.args.script.now c.requires.script in
    let made = all_rest_made c.args.script.now in
    let reserved = fresh.reserved in
    let coming = start_coming g.row.W world P m fresh.placement
    (bare_ranges g.row.W world P (mapped c.args.image.now P.image) m (c.place_image.ensures.state c.args.script.now))
    c.requires.width c.requires.script (c.place_image.ensures.limits.0 ∙ fresh.bytes) (c.place_image.ensures.limits.1 ∙ fresh.count) in (
      omega arith,
      (
        omega arith,
        (
          c.requires.width,
          (
            fresh.notes,
            (
              subst (λ n. AreComing g.row.W c.args.notes.now P n m c.as_slice.result.now) (sym number)
                  (subst (λ os. AreComing g.row.W c.args.notes.now P (length c.args.notes.now.statics) m os) (sym c.as_slice.ensures)
                  coming),
              (omega (arith, number, objects, all, made, reserved), omega (arith, number, statics, objects, few, made)),
            ),
          ),
        ),
      ),
    )

pub returns-clause-made : goal.returns-clause-made
returns-clause-made g c =
    c.make_objects.ensures.made ∙ (ap₂ (λ ts os. ts ++ map script_object os) c.requires.fresh.made c.as_slice.ensures
    ∙ made_at_start c.args.notes.now c.args.script.now)

pub returns-clause-state : goal.returns-clause-state
returns-clause-state g c =
    let world : World = world_of c.args.image.now c.args.notes.now c.args.script.now in
    let fresh = c.requires.fresh in
    let P : Placement = placement_of c.args.self.now.places in
    let number = ap length fresh.made ∙ length-map static_object c.args.notes.now.statics in
    let made = ap₂ (λ ts os. ts ++ map script_object os) fresh.made c.as_slice.ensures
    ∙ made_at_start c.args.notes.now c.args.script.now in
    subst (λ (Q : Placement). with_memory (start_machine g.row.W world Q (mapped c.args.image.now Q.image)) c.make_objects.new.mem
    ≡ start_machine g.row.W world Q (mapped c.args.image.now Q.image)) fresh.placement
    (start_state g.row.W world P (mapped c.args.image.now P.image) c.place_image.new.mem c.make_objects.new.mem
    (length c.args.self.now.made.items) c.as_slice.result.now (c.args.self.now.made.items ++ map script_object c.as_slice.result.now)
    number c.as_slice.ensures made (c.place_image.ensures.state c.args.script.now) c.make_objects.ensures.after)

pub returns-clause-memory : goal.returns-clause-memory
returns-clause-memory g c =
    let world : World = world_of c.args.image.now c.args.notes.now c.args.script.now in
    let fresh = c.requires.fresh in
    let P : Placement = placement_of c.args.self.now.places in
    let m : Memory = c.place_image.new.mem in
    let f = mapped c.args.image.now P.image in
    let s : Concrete = bare_machine g.row.W world P f in
    let number = ap length fresh.made ∙ length-map static_object c.args.notes.now.statics in
    let there : ranges c.make_objects.new.mem ≡ placed_ranges g.row.W world P 0 =
    c.make_objects.ensures.ranges s
    ∙ (ap₂ (λ x zs. (with_objects g.row.W c.args.notes.now P x (map script_object zs) (with_memory s m)).objects) number c.as_slice.ensures
    ∙ start_ranges g.row.W world P m fresh.placement
    (bare_ranges g.row.W world P f m (c.place_image.ensures.state c.args.script.now)) s) in
    record {
      objects = there ∙ ap (λ Q. placed_ranges g.row.W world Q 0) fresh.placement;
      bytes = c.make_objects.ensures.limits.0 ∙ (c.place_image.ensures.limits.0 ∙ fresh.bytes);
      count = c.make_objects.ensures.limits.1 ∙ (c.place_image.ensures.limits.1 ∙ fresh.count);
    }
