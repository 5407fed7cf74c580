use Rattle.std.proofs.Common.{◌≡◌, drop}
use Rattle.std.specs.Prelude.{is_some}
use Rattle.host_model.specs.Readings.{slots_from}
use Rattle.callex_thunk.specs.Slots.{memory_state}
use Rattle.callex_thunk.proofs.slots.are_mapped.Given as goal

abbrev pub invariant-loop-param : goal.invariant-loop-param
invariant-loop-param g l = is_some (slots_from g.row.W (memory_state l.mem) l.addr (drop l.param-index l.params)) ≡ is_some
    (slots_from g.row.W (memory_state l.mem) l.first l.params)
