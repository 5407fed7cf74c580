use Rattle.reloc_loader.proofs.Common.{◌≡◌, take, IsMemory, with_bytes, within, laid, moved, distance_of}
use Rattle.reloc_loader.proofs.load.Given as goal

abbrev pub invariant-loop-section : goal.invariant-loop-section
invariant-loop-section g l =
    record {
      is : l.mem ≡ with_bytes l.fn.mem (within l.fn.mem l.base l.image.size (laid (take l.section-index l.image.sections)));
      memory : IsMemory g.row.W l.mem;
    }

abbrev pub invariant-loop-place : goal.invariant-loop-place
invariant-loop-place g l =
    record {
      is : l.mem ≡ with_bytes l.fn.mem (within l.fn.mem l.base l.image.size
          (moved (laid l.image.sections) (take l.place-index l.image.relocs) (distance_of l.base l.image.base)));
      memory : IsMemory g.row.W l.mem;
    }
