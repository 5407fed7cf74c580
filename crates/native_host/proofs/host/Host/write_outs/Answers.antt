use Rattle.native_host.proofs.Common.{refl, sym, ◌∙◌, with_memory, keeps-more, keeps-none, placement_of, out_store, top_slots}
use Rattle.native_host.proofs.StoreLaws.{stores-end, stores-next}
use Rattle.native_host.proofs.host.Host.write_outs.Goals as goal

pub loop-out-init : goal.loop-out-init
loop-out-init g c = record { stores = λ s. refl; objects = keeps-none c.args.mem.now }

pub loop-out-preserved : goal.loop-out-preserved
loop-out-preserved g c = record {
  stores = λ s.
      sym (stores-next g.row.W c.args.notes.now (placement_of c.args.self.now.places) c.args.self.now.made.items (top_slots
      c.args.frames.now) (out_store c.args.params.now) c.args.outs.now
      c.loop-out.out-index _ (with_memory s c.loop-out.mem) (with_memory s c.write_out.new.mem) c.loop-out-test.true
      (c.write_out.ensures.after s))
      ∙ c.loop-out.invariant.stores s;
  objects = keeps-more c.args.mem.now c.loop-out.mem c.write_out.new.mem c.loop-out.invariant.objects c.write_out.ensures.objects;
}

pub returns-clause-after : goal.returns-clause-after
returns-clause-after g c s =
    sym (c.loop-out.invariant.stores s)
    ∙ stores-end g.row.W c.args.notes.now (placement_of c.args.self.now.places) c.args.self.now.made.items (top_slots c.args.frames.now)
    (out_store c.args.params.now) c.args.outs.now
    c.loop-out.out-index (with_memory s c.loop-out.mem) c.loop-out-test.false

pub returns-clause-objects : goal.returns-clause-objects
returns-clause-objects g c = c.loop-out.invariant.objects
