use Rattle.std.proofs.Common.{◌≡◌, ◌++◌, reverse, take}
use Rattle.std.specs.Prelude.{nat_eq}
use Rattle.std.specs.List.{filter, flat_map}
use Rattle.object_memory.specs.Memory.{ranges}
use Rattle.step_texts.specs.StateTexts.{back_line}
use Rattle.run_trace.specs.Addresses.{held}
use Rattle.run_trace.specs.declared.calls.InnerCall.{InnerCall}
use Rattle.run_trace.proofs.opened.append_backs.Given as goal

abbrev pub invariant-loop-above : goal.invariant-loop-above
invariant-loop-above g l =
    l.out.items ≡ l.fn.out.items ++ flat_map (λ (c : InnerCall). back_line l.notes (held l.notes (ranges l.runner.mem) c.back))
    (filter (λ c. nat_eq c.entered l.depth) (take l.above (reverse l.calls)))
