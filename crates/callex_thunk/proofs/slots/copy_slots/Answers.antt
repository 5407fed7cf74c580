use Rattle.std.proofs.Common.{◌≡◌, ℕ, ◌<◌, length, List, [], ◌∷◌, ◌++◌, refl, sym, ap, ap₂, ◌∙◌, arith, Option, Some, None, IsSome}
use Rattle.std.proofs.lemmas.Option.{none-some}
use Rattle.std.proofs.lemmas.Bool.{true≢false}
use Rattle.ebc_width.specs.Width.{cut_at}
use Rattle.note_types.specs.Concrete.{loaded}
use Rattle.host_model.specs.Readings.{slots_from}
use Rattle.frame_stack.specs.Frames.{with_slot}
use Rattle.std.specs.Prelude.{slice_index}
use Rattle.callex_thunk.specs.Slots.{memory_state}
use Rattle.callex_thunk.proofs.SlotLaws.{along-start, along-next, along-number, along-end, loaded-number}
use Rattle.callex_thunk.proofs.FrameLaws.{with_arguments-none, with_arguments-more, copied-some}
use Rattle.callex_thunk.proofs.slots.copy_slots.Goals as goal

-- the numbers of slots that are mapped
numbers : (o : Option (List ℕ)) → IsSome o → (xs : List ℕ) × (o ≡ Some xs)
numbers None mapped = absurd (true≢false (sym mapped))
numbers (Some xs) mapped = (xs, refl)

pub loop-k-init : goal.loop-k-init
loop-k-init g c =
    let xs = numbers (slots_from g.row.W (memory_state c.args.mem.now) c.args.first c.args.params.now) c.requires.mapped in
    record {
      some = c.requires.frame;
      done = [];
      rest = xs.0;
      along = along-start g.row.W (memory_state c.args.mem.now) c.args.first c.args.params.now xs.0 xs.1;
      frames = sym (with_arguments-none c.args.frames.now);
    }

pub unreachable-requires : goal.unreachable-requires
unreachable-requires g c =
    let next = along-next g.row.W (memory_state c.args.mem.now) c.args.first c.args.params.now c.loop-k.addr c.loop-k.k
    c.slot_bytes-bytes.result
    c.loop-k.invariant.done c.loop-k.invariant.rest _ c.requires.width c.loop-k-test.true c.slot_bytes-bytes.ensures.bytes
    c.loop-k.invariant.along in
    let none : None ≡ loaded (memory_state c.args.mem.now) c.cut.result c.slot_bytes-bytes.result =
    sym c.in_default.is ∙ (c.load.ensures.number ∙ loaded-number c.args.mem.now c.cut.result c.slot_bytes-bytes.result) in
    none-some next.0 (none ∙ (ap (λ a. loaded (memory_state c.args.mem.now) a c.slot_bytes-bytes.result) c.cut.ensures ∙ next.2))

pub loop-k-preserved : goal.loop-k-preserved
loop-k-preserved g c =
    let is : loaded (memory_state c.args.mem.now) (cut_at g.row.W c.loop-k.addr) c.slot_bytes-bytes.result ≡ Some c.in-Some.number =
    ap (λ a. loaded (memory_state c.args.mem.now) a c.slot_bytes-bytes.result) (sym c.cut.ensures)
    ∙ (sym (c.load.ensures.number ∙ loaded-number c.args.mem.now c.cut.result c.slot_bytes-bytes.result) ∙ c.in-Some.is) in
    let next = along-number g.row.W (memory_state c.args.mem.now) c.args.first c.args.params.now c.loop-k.addr c.loop-k.k
    c.slot_bytes-bytes.result c.in-Some.number
    c.loop-k.invariant.done c.loop-k.invariant.rest _ c.requires.width c.loop-k-test.true c.slot_bytes-bytes.ensures.bytes is
    c.loop-k.invariant.along in
    let count : length c.loop-k.invariant.done ≡ c.loop-k.k = c.loop-k.invariant.along.count in
    let less : length c.loop-k.invariant.done < 16 = omega (arith, c.loop-k-test.true, c.requires.few) in
    record {
      some = omega (arith, c.set_slot.ensures.len, c.loop-k.invariant.some);
      done = c.loop-k.invariant.done ++ c.in-Some.number ∷ [];
      rest = next.0;
      along = next.1;
      frames =
          c.set_slot.ensures.after
          ∙ (ap₂ (λ k fs. with_slot k c.in-Some.number fs) (sym count) c.loop-k.invariant.frames
          ∙ with_arguments-more (slice_index c.region.result.now) c.args.frames.now c.loop-k.invariant.done c.in-Some.number
          (record { frames = c.region.ensures.frames }) less);
    }

pub returns : goal.returns
returns g c =
    copied-some (slots_from g.row.W (memory_state c.args.mem.now) c.args.first c.args.params.now) c.loop-k.invariant.done c.args.frames.now
    c.loop-k.frames
    (along-end g.row.W (memory_state c.args.mem.now) c.args.first c.args.params.now c.loop-k.addr c.loop-k.k c.loop-k.invariant.done
    c.loop-k.invariant.rest c.loop-k-test.false c.loop-k.invariant.along)
    c.loop-k.invariant.frames
