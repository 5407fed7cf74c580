use Rattle.native_host.proofs.Common.{◌≡◌, ◌+◌, ◌<◌, ◌++◌, length, drop, sym, ap, ◌∙◌, arith, slice_index, length_push, byte_at}
use Rattle.native_host.proofs.Common.{arguments_read, placement_of}
use Rattle.native_host.proofs.{AskingLaws.read-end, AskingLaws.read-next, TopLaws.sixteen-top, TopLaws.top-at}
use Rattle.native_host.proofs.host.Host.arguments.Goals as goal

pub loop-k-preserved : goal.loop-k-preserved
loop-k-preserved g c = record {
  count = ap length c.push.ensures ∙ (length_push c.loop-k.args c.argument.result ∙ ap (λ n. n + 1) c.loop-k.invariant.count);
  read = λ f there.
      let many : length f.slots ≡ 16 = sixteen-top (slice_index c.region.result.now) c.args.frames.now f c.region.ensures.frames there in
      let below : c.loop-k.k < length f.slots = omega (arith, many, c.loop-k-test.true, c.requires.few) in
      ap (λ seen. seen ++ arguments_read g.row.W c.args.notes.now (placement_of c.args.self.now.places) c.args.self.now.made.items
      (byte_at c.args.mem.now) (drop (c.loop-k.k + 1) c.args.params.now) (drop (c.loop-k.k + 1) f.slots)) c.push.ensures
      ∙ (read-next g.row.W c.args.notes.now (placement_of c.args.self.now.places) c.args.self.now.made.items (byte_at c.args.mem.now)
      c.args.params.now f.slots c.loop-k.k c.slot-number.result _ c.loop-k.args c.argument.result c.loop-k-test.true below
      (c.slot-number.ensures f (top-at c.args.frames.now f c.depth-below.result there c.depth-below.ensures.count)) c.argument.ensures
      ∙ c.loop-k.invariant.read f there);
}

pub returns : goal.returns
returns g c f there =
    sym (read-end g.row.W c.args.notes.now (placement_of c.args.self.now.places) c.args.self.now.made.items (byte_at c.args.mem.now)
    c.args.params.now f.slots c.loop-k.k c.loop-k.args c.loop-k-test.false) ∙ c.loop-k.invariant.read f there
