use Rattle.native_host.proofs.Common.{refl, sym, ◌∙◌, with_memory, keeps-more, keeps-none, placement_of, write_store}
use Rattle.native_host.proofs.StoreLaws.{stores-end, stores-next}
use Rattle.native_host.proofs.host.Host.write_all.Goals as goal

pub loop-write-init : goal.loop-write-init
loop-write-init g c = record { stores = λ s slots. refl; objects = keeps-none c.args.mem.now }

pub loop-write-preserved : goal.loop-write-preserved
loop-write-preserved g c = record {
  stores = λ s slots.
      sym (stores-next g.row.W c.args.notes.now (placement_of c.args.self.now.places) c.args.self.now.made.items slots (write_store
      c.args.notes.now c.args.self.now.made.items) c.args.writes.now
      c.loop-write.write-index _ (with_memory s c.loop-write.mem) (with_memory s c.write.new.mem) c.loop-write-test.true
      (c.write.ensures.after s slots))
      ∙ c.loop-write.invariant.stores s slots;
  objects = keeps-more c.args.mem.now c.loop-write.mem c.write.new.mem c.loop-write.invariant.objects c.write.ensures.objects;
}

pub returns-clause-after : goal.returns-clause-after
returns-clause-after g c s slots =
    sym (c.loop-write.invariant.stores s slots)
    ∙ stores-end g.row.W c.args.notes.now (placement_of c.args.self.now.places) c.args.self.now.made.items slots (write_store
    c.args.notes.now c.args.self.now.made.items) c.args.writes.now
    c.loop-write.write-index (with_memory s c.loop-write.mem) c.loop-write-test.false

pub returns-clause-objects : goal.returns-clause-objects
returns-clause-objects g c = c.loop-write.invariant.objects
