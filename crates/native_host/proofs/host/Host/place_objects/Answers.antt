use Rattle.native_host.proofs.Common.{◌≡◌, ℕ, ◌+◌, ◌++◌, ◌∷◌, [], List, length, map, drop, get_or, sym, ap, ap₂, subst, ◌∙◌, arith}
use Rattle.native_host.proofs.Common.{length_push, Memory, placed, Notes, ScriptObject, with_object, with_objects, script_object, Placement}
use Rattle.native_host.proofs.Common.{object_bytes, object_range, with_memory, TypedObject, Host, placement_of, AreComing}
use Rattle.native_host.proofs.PlaceLaws.{coming-here, made-next, objects-end, objects-next}
use Rattle.native_host.proofs.PlacedLaws.{limits_placed}
use Rattle.native_host.proofs.host.Host.place_objects.Goals as goal

pub loop-object-preserved : goal.loop-object-preserved
loop-object-preserved g c =
    let notes : Notes = c.args.notes.now in
    let os : List ScriptObject = c.args.objects.now in
    let k : ℕ = c.loop-object.object-index in
    let o : ScriptObject = c.object-item.result in
    let before : Memory = c.loop-object.mem in
    let after : Memory = c.place_object.new.mem in
    let P : Placement = placement_of c.args.self.now.places in
    let number : ℕ = length c.loop-object.self.made.items in
    let kept = c.loop-object.invariant in
    let is = c.object-item.is in
    let less = c.loop-object-test.true in
    let more : length c.place_object.new.self.made.items ≡ number + 1 =
    ap length c.place_object.ensures.made ∙ length_push c.loop-object.self.made.items (script_object o) in
    let memory : after ≡ placed g.row.W before (object_bytes g.row.W notes (script_object (get_or os k o))) =
    c.place_object.ensures.memory ∙ ap (λ x. placed g.row.W before (object_bytes g.row.W notes (script_object x))) is in
    let limits = limits_placed g.row.W before (object_bytes g.row.W notes (script_object o)) in
    let held = kept.reserved in
    let grown = c.place_object.ensures.reserved in
    record {
      placed = λ s.
          ap (λ j. with_objects g.row.W notes P j (map script_object (drop (k + 1) os)) (with_memory s after)) more
          ∙ (sym (objects-next g.row.W notes P number k os o (with_memory s before) (with_memory s after) less
          (ap₂ (λ (Q : Placement) (x : ScriptObject). with_object (with_memory s before)
          (object_range g.row.W notes Q number (script_object x)))
          (sym (ap (λ (h : Host g.row.W). placement_of h.places) kept.same)) (sym is) ∙ c.place_object.ensures.placed s))
          ∙ kept.placed s);
      coming = subst (λ j. AreComing g.row.W notes P j after (drop (k + 1) os)) (sym more)
          (subst (λ m. AreComing g.row.W notes P (number + 1) m (drop (k + 1) os)) (sym memory)
          (coming-here g.row.W notes P number k before os o less kept.coming).1);
      made = c.place_object.ensures.made ∙ (ap₂ (λ (ts : List TypedObject) (x : ScriptObject). ts ++ script_object x ∷ []) kept.made is
          ∙ made-next c.args.self.now.made.items k os o less);
      same = c.place_object.ensures.same ∙ ap (λ (h : Host g.row.W). record h { made = c.place_object.new.self.made }) kept.same;
      reserved = omega (arith, held, grown);
      limits = (
        ap (λ (m : Memory). m.byte_limit) c.place_object.ensures.memory ∙ (limits.0 ∙ kept.limits.0),
        ap (λ (m : Memory). m.object_limit) c.place_object.ensures.memory ∙ (limits.1 ∙ kept.limits.1),
      );
    }

pub returns-clause-placed : goal.returns-clause-placed
returns-clause-placed g c s =
    sym (c.loop-object.invariant.placed s)
    ∙ objects-end g.row.W c.args.notes.now (placement_of c.args.self.now.places) (length c.loop-object.self.made.items)
    c.loop-object.object-index c.args.objects.now (with_memory s c.loop-object.mem) c.loop-object-test.false

pub returns-clause-limits : goal.returns-clause-limits
returns-clause-limits g c = c.loop-object.invariant.limits
