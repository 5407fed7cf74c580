use Rattle.native_host.proofs.Common.{◌≡◌, ◌+◌, ◌++◌, length, map, slice_get, refl, sym, ap, ap₂, subst, ◌∙◌, arith, Some, option_copied}
use Rattle.native_host.proofs.Common.{Memory, Concrete, ScriptCall, memory_state, with_objects, made_objects, script_object, Placement}
use Rattle.native_host.proofs.Common.{World, with_memory, host_world, placement_of, AreComing}
use Rattle.native_host.proofs.AcceptLaws.{call_coming, call_ranges, made-few, made-within, memory-accepted, params-few, serving-accepted}
use Rattle.native_host.proofs.host.Host.accept.Goals as goal

pub make_objects-requires : goal.make_objects-requires
make_objects-requires g c =
    let serving = c.requires.serving in
    let world : World = host_world c.args.notes.now c.args.script.now c.args.self.now in
    let P : Placement = placement_of c.args.self.now.places in
    let call : ScriptCall = c.in-Some.call.now in
    let there : slice_get c.args.script.now.call c.args.self.now.entries ≡ Some call =
    sym (ap option_copied (sym c.in-Some.is) ∙ c.item_at.ensures) in
    let number = ap length serving.host.made in
    let objects = ap length c.as_slice.ensures in
    let within = made-within c.args.script.now c.args.self.now.entries call there c.args.notes.now in
    let few = made-few c.args.script.now c.args.self.now.entries call there c.args.notes.now serving.read serving.scripted in
    let reserved = serving.reserved in
    let coming = call_coming g.row.W world P c.args.mem.now c.args.self.now.entries call serving.host.placement there c.requires.memory
    c.requires.width serving.scripted in (
      omega arith,
      (
        omega arith,
        (
          c.requires.width,
          (
            serving.host.notes,
            (
              subst (λ n. AreComing g.row.W c.args.notes.now P n c.args.mem.now c.as_slice.result.now) (sym number)
                  (subst (λ os. AreComing g.row.W c.args.notes.now P
                  (length (made_objects c.args.notes.now c.args.script.now c.args.self.now.entries)) c.args.mem.now os)
                  (sym c.as_slice.ensures) coming),
              (omega (arith, number, objects, within, reserved), omega (arith, number, objects, few)),
            ),
          ),
        ),
      ),
    )

pub overflow_cast-len : goal.overflow_cast-len
overflow_cast-len g c =
    let serving = c.requires.serving in
    let call : ScriptCall = c.in-Some.call.now in
    let there : slice_get c.args.script.now.call c.args.self.now.entries ≡ Some call =
    sym (ap option_copied (sym c.in-Some.is) ∙ c.item_at.ensures) in
    let args = (serving.scripted.calls c.args.self.now.entries call there).args in
    let few = params-few c.args.notes.now call.signature serving.read in
    let count : c.len.result ≡ length call.args = c.len.ensures in omega (arith, args, few, count)

pub overflow_add-self : goal.overflow_add-self
overflow_add-self g c =
    let there : slice_get c.args.script.now.call c.args.self.now.entries ≡ Some c.in-Some.call.now =
    sym (ap option_copied (sym c.in-Some.is) ∙ c.item_at.ensures) in
    let few = (c.requires.serving.scripted.calls c.args.self.now.entries c.in-Some.call.now there).few in omega (arith, few)

pub returns-clause-serving : goal.returns-clause-serving
returns-clause-serving g c =
    serving-accepted g.row.W c.args.notes.now c.args.script.now c.args.self.now _ c.in-Some.call.now c.requires.serving
    (sym (ap option_copied (sym c.in-Some.is) ∙ c.item_at.ensures)) (ap (λ h. h.places) c.make_objects.ensures.same) refl
    (c.make_objects.ensures.made ∙ ap (λ os. c.args.self.now.made.items ++ map script_object os) c.as_slice.ensures)
    c.make_objects.ensures.reserved

pub returns-clause-memory : goal.returns-clause-memory
returns-clause-memory g c =
    let serving = c.requires.serving in
    let world : World = host_world c.args.notes.now c.args.script.now c.args.self.now in
    let P : Placement = placement_of c.args.self.now.places in
    let m : Memory = c.args.mem.now in
    let s : Concrete = memory_state m in
    let there : slice_get c.args.script.now.call c.args.self.now.entries ≡ Some c.in-Some.call.now =
    sym (ap option_copied (sym c.in-Some.is) ∙ c.item_at.ensures) in
    let lie = c.make_objects.ensures.ranges s
    ∙ (ap₂ (λ n os. (with_objects g.row.W c.args.notes.now P n (map script_object os) (with_memory s m)).objects)
    (ap length serving.host.made) c.as_slice.ensures
    ∙ call_ranges g.row.W world P m c.args.self.now.entries c.in-Some.call.now serving.host.placement there c.requires.memory s) in
    memory-accepted g.row.W c.args.notes.now c.args.script.now c.args.self.now c.make_objects.new.self.places
    (c.args.self.now.entries + 1) m c.make_objects.new.mem (ap (λ h. h.places) c.make_objects.ensures.same) refl c.requires.memory lie
    c.make_objects.ensures.limits.0 c.make_objects.ensures.limits.1
