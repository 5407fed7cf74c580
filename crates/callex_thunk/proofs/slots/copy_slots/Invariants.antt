use Rattle.std.proofs.Common.{◌≡◌, ℕ, ◌<◌, List, length}
use Rattle.callex_thunk.specs.Slots.{memory_state, with_arguments}
use Rattle.callex_thunk.proofs.SlotLaws.{IsAlong}
use Rattle.callex_thunk.proofs.slots.copy_slots.Given as goal

abbrev pub invariant-loop-k : goal.invariant-loop-k
invariant-loop-k g l = record {
  some : 0 < length l.frames;
  done : List ℕ;
  rest : List ℕ;
  along : IsAlong g.row.W (memory_state l.mem) l.first l.params l.addr l.k done rest;
  frames : l.frames ≡ with_arguments done l.fn.frames;
}
