use Rattle.native_host.proofs.Common.{◌≡◌, ◌≤◌, ◌++◌, length, map, take, drop, vec_capacity, Concrete, with_objects, script_object}
use Rattle.native_host.proofs.Common.{with_memory, placement_of, AreComing}
use Rattle.native_host.proofs.host.Host.place_objects.Given as goal

abbrev pub invariant-loop-object : goal.invariant-loop-object
invariant-loop-object g l = record {
  placed : (s : Concrete) → with_objects g.row.W l.notes (placement_of l.fn.self.places) (length l.self.made.items)
      (map script_object (drop l.object-index l.objects)) (with_memory s l.mem)
      ≡ with_objects g.row.W l.notes (placement_of l.fn.self.places) (length l.fn.self.made.items) (map script_object l.objects)
      (with_memory s l.fn.mem);
  coming : AreComing g.row.W l.notes (placement_of l.fn.self.places) (length l.self.made.items) l.mem (drop l.object-index l.objects);
  made : l.self.made.items ≡ l.fn.self.made.items ++ map script_object (take l.object-index l.objects);
  same : l.self ≡ record l.fn.self { made = l.self.made };
  reserved : vec_capacity l.fn.self.made ≤ vec_capacity l.self.made;
  limits : (l.mem.byte_limit ≡ l.fn.mem.byte_limit) × (l.mem.object_limit ≡ l.fn.mem.object_limit);
}
