use Rattle.native_host.proofs.Common.{ap, length, sym, ◌∙◌, arith, ◌+◌, world_of}
use Rattle.native_host.proofs.StartLaws.{all_count, events_few, made_count, objects_few}
use Rattle.native_host.proofs.starting.fresh_host.Goals as goal

pub count_objects-objects-requires : goal.count_objects-objects-requires
count_objects-objects-requires g c = objects_few c.args.notes.now c.args.script.now c.requires.script

pub statics_made-requires-clause-more : goal.statics_made-requires-clause-more
statics_made-requires-clause-more g c =
    let few = objects_few c.args.notes.now c.args.script.now c.requires.script in
    let count = c.count_objects-objects.ensures in
    omega (arith, few, count)

pub count_events-requires : goal.count_events-requires
count_events-requires g c = events_few c.args.notes.now c.args.script.now c.requires.script

pub overflow_cast-objects : goal.overflow_cast-objects
overflow_cast-objects g c =
    let few = objects_few c.args.notes.now c.args.script.now c.requires.script in
    let count = c.count_objects-objects.ensures in
    omega (arith, few, count)

pub overflow_add-objects : goal.overflow_add-objects
overflow_add-objects g c =
    let few = objects_few c.args.notes.now c.args.script.now c.requires.script in
    let count = c.count_objects-objects.ensures in
    omega (arith, few, count)

pub returns-clause-fresh : goal.returns-clause-fresh
returns-clause-fresh g c =
    let places = c.in_ok-places.ensures in
    let count = c.count_objects-objects.ensures in
    let room = c.in_ok-made.ensures.room in
    let all = made_count c.args.notes.now c.args.script.now (length c.args.script.now.call) in
    record {
      placement = places.placement;
      size = places.size;
      notes = places.kept;
      made = c.in_ok-made.ensures.made;
      reserved = omega (arith, room, count, all);
      stack = places.stack;
      empty = ap (λ m. m.objects) c.in_ok-mem.ensures.empty;
      bytes = ap (λ m. m.byte_limit) c.in_ok-mem.ensures.empty ∙ places.limit;
      count = ap (λ m. m.object_limit) c.in_ok-mem.ensures.empty ∙ (ap (λ n. n + 3) count
          ∙ sym (all_count g.row.W (world_of c.args.image.now c.args.notes.now c.args.script.now)));
    }
