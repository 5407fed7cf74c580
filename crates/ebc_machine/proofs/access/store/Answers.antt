use Rattle.std.proofs.Common.{◌≡◌, refl, sym, ap, ◌∙◌, Bool, true, false}
use Rattle.std.specs.Bool.{OnTrue}
use Rattle.object_memory.specs.Memory.{byte_at, ranges}
use Rattle.object_memory.proofs.Laws.{ranges-memory_after}
use Rattle.ebc_machine.proofs.Memories.{byte_limit-stored, object_limit-stored, bytes-stored}
use Rattle.ebc_machine.proofs.access.store.Goals as goal

on_true : (b : Bool) (P : Type 0) → (b ≡ true → P) → OnTrue b P
on_true true P holds = holds refl
on_true false P holds = tt

pub returns-clause-objects : goal.returns-clause-objects
returns-clause-objects g c = record {
  objects = ap ranges c.store.ensures.after ∙ ranges-memory_after c.args.mem.now c.args.addr c.args.count c.args.value;
  byte_limit = ap (λ m. m.byte_limit) c.store.ensures.after ∙ byte_limit-stored c.args.mem.now c.args.addr c.args.count c.args.value;
  object_limit = ap (λ m. m.object_limit) c.store.ensures.after ∙ object_limit-stored c.args.mem.now c.args.addr c.args.count c.args.value;
}

pub returns-clause-bytes : goal.returns-clause-bytes
returns-clause-bytes g c =
    on_true c.store.result _
    (λ held. ap byte_at c.store.ensures.after
    ∙ bytes-stored c.args.mem.now c.args.addr c.args.count c.args.value (sym c.store.ensures.done ∙ held))
