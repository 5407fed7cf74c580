use Rattle.std.proofs.Common.{refl, arith, ap, ◌∙◌}
use Rattle.object_memory.specs.Memory.{placed}
use Rattle.reloc_loader.proofs.Mapping.{is_placed_at}
use Rattle.link_tests.proofs.image_loading.leaves_other_objects.Goals as goal

pub load-requires : goal.load-requires
load-requires g c = (
  omega arith,
  (
    c.in_ok-image.ensures.sound,
    (
      λ even. is_placed_at 4 c.store.new.self c.place-2.new.self c.in_ok-image.image.size c.in_ok-id.id.base c.in_ok-id.id
          (c.in_ok-id.ensures.placed ∙ ap (placed 4 c.store.new.self) (omega arith)) c.in_ok-id.ensures.id refl,
      λ even x from to. c.in_ok-id.ensures.zeros x from (omega arith),
    ),
  ),
)
