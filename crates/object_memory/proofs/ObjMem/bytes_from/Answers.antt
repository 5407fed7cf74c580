use Rattle.std.proofs.Common.{◌≡◌, ℕ, ◌+◌, ◌-◌, List, length, Some, take, drop, ap, ap₂, sym, subst, ◌∙◌}
use Rattle.object_memory.specs.declared.span.Span.{Span}
use Rattle.object_memory.specs.Memory.{Memory, first_base, rest_from, IsMemory}
use Rattle.object_memory.specs.Layout.{memory_of, IsFound}
use Rattle.object_memory.proofs.Laws.{rest_from-absent}
use Rattle.object_memory.proofs.Views.{rest_from-memory_of}
use Rattle.object_memory.proofs.ObjMem.bytes_from.Goals as goal

pub returns-in_err-span-clause-none : goal.returns-in_err-span-clause-none
returns-in_err-span-clause-none g c = rw c.from_residual.ensures (rest_from-absent c.args.self.now c.args.addr c.in_err-span.ensures.none)

pub returns-clause-found : goal.returns-clause-found
returns-clause-found g c =
    let s : Span = c.in_ok-span.span in
    let number : ℕ = c.in_ok-span.field-0-0 in
    let spans : List Span = c.self.inside.spans.items in
    let cells : List ℕ = c.self.inside.region in
    let memory : IsMemory g.row.W (memory_of g.row.W spans cells (length cells) c.self.inside.object_limit) = subst
    (λ (m : Memory). IsMemory g.row.W m) (sym c.self.view_is) c.in_ok-span.ensures.memory in
    let found : IsFound g.row.W (memory_of g.row.W spans cells (length cells) c.self.inside.object_limit) c.args.addr 1 number s = subst
    (λ (m : Memory). IsFound g.row.W m c.args.addr 1 number s) (sym c.self.view_is) c.in_ok-span.ensures.found in
    let place : c.split_at.result.1.now ≡ drop (c.args.addr - first_base g.row.W) cells = c.split_at.ensures.back ∙ ap₂
    (λ n xs. drop (c.args.addr - n) xs) c.first.ensures c.bytes.ensures in
    ap (λ m. rest_from m c.args.addr) (sym c.self.view_is)
    ∙ rest_from-memory_of g.row.W spans cells (length cells) c.self.inside.object_limit c.args.addr number s memory found
    ∙ ap Some (sym (c.split_at-2.ensures.front ∙ ap (take (s.base + s.size - c.args.addr)) place))
