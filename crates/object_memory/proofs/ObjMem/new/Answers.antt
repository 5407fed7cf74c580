use Rattle.std.proofs.Common.{rules, subst, sym}
use Rattle.object_memory.specs.Memory.{IsMemory}
use Rattle.object_memory.proofs.Laws.{IsMemory-empty}
use Rattle.object_memory.proofs.Views.{IsKept-empty, memory_of-empty}
use Rattle.object_memory.proofs.ObjMem.new.Goals as goal

pub invariant_of-result : goal.invariant_of-result
invariant_of-result g c =
    IsKept-empty g.row.W c.args.limit c.args.objects _ _ c.in_ok-spans.spans.items c.in_ok-region.region c.in_ok-homes.homes.items
    c.requires.width c.requires.limit
    c.in_ok-spans.ensures.items c.in_ok-region.ensures c.in_ok-homes.ensures.items (search rules) (search rules) (search rules)

pub returns-clause-empty : goal.returns-clause-empty
returns-clause-empty g c =
    memory_of-empty g.row.W c.args.limit c.args.objects c.in_ok-spans.spans.items c.in_ok-region.region c.in_ok-spans.ensures.items
    c.in_ok-region.ensures

pub returns-clause-memory : goal.returns-clause-memory
returns-clause-memory g c =
    subst (IsMemory g.row.W) (sym (returns-clause-empty g c))
    (IsMemory-empty g.row.W c.args.limit c.args.objects c.requires.width c.requires.limit)
