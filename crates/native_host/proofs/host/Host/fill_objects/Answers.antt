use Rattle.native_host.proofs.Common.{◌≡◌, ◌+◌, drop, sym, ap, ◌∙◌, arith, with_memory, keeps-more, keeps-none, filling, object_stores}
use Rattle.native_host.proofs.Common.{after_stores, placement_of}
use Rattle.native_host.proofs.StoreLaws.{filling-end, filling-next, stores-append, stores-none}
use Rattle.native_host.proofs.host.Host.fill_objects.Goals as goal

pub loop-k-init : goal.loop-k-init
loop-k-init g c = record {
  stores = λ s slots.
      ap (λ n. after_stores g.row.W c.args.notes.now (placement_of c.args.self.now.places) c.args.self.now.made.items slots
      (filling c.args.notes.now n c.args.objects.now)
      (with_memory s c.args.mem.now)) (let e : c.args.first + 0 ≡ c.args.first = omega arith in e);
  objects = keeps-none c.args.mem.now;
}

pub loop-k-preserved : goal.loop-k-preserved
loop-k-preserved g c = record {
  stores = λ s slots.
      sym (ap (λ vs. after_stores g.row.W c.args.notes.now (placement_of c.args.self.now.places) c.args.self.now.made.items slots vs
      (with_memory s c.loop-k.mem))
      (filling-next c.args.notes.now c.args.first c.loop-k.k c.args.objects.now c.index-objects-k.result c.loop-k-test.true)
      ∙ (stores-append g.row.W c.args.notes.now (placement_of c.args.self.now.places) c.args.self.now.made.items slots _
      (filling c.args.notes.now (c.args.first + (c.loop-k.k + 1)) (drop (c.loop-k.k + 1) c.args.objects.now)) (with_memory s c.loop-k.mem)
      ∙ ap (after_stores g.row.W c.args.notes.now (placement_of c.args.self.now.places) c.args.self.now.made.items slots
      (filling c.args.notes.now (c.args.first + (c.loop-k.k + 1)) (drop (c.loop-k.k + 1) c.args.objects.now)))
      (ap (λ o. after_stores g.row.W c.args.notes.now (placement_of c.args.self.now.places) c.args.self.now.made.items slots
      (object_stores c.args.notes.now (c.args.first + c.loop-k.k, o))
      (with_memory s c.loop-k.mem)) (sym c.index-objects-k.is)
      ∙ c.fill_object.ensures.after s slots)))
      ∙ c.loop-k.invariant.stores s slots;
  objects = keeps-more c.args.mem.now c.loop-k.mem c.fill_object.new.mem c.loop-k.invariant.objects c.fill_object.ensures.objects;
}

pub returns-clause-after : goal.returns-clause-after
returns-clause-after g c s slots =
    sym (c.loop-k.invariant.stores s slots)
    ∙ (ap (λ vs. after_stores g.row.W c.args.notes.now (placement_of c.args.self.now.places) c.args.self.now.made.items slots vs
    (with_memory s c.loop-k.mem))
    (filling-end c.args.notes.now c.args.first c.loop-k.k c.args.objects.now c.loop-k-test.false)
    ∙ stores-none g.row.W c.args.notes.now (placement_of c.args.self.now.places) c.args.self.now.made.items slots
    (with_memory s c.loop-k.mem))

pub returns-clause-objects : goal.returns-clause-objects
returns-clause-objects g c = c.loop-k.invariant.objects
