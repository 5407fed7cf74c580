use Rattle.std.proofs.Common.{◌≡◌, ℕ, ◌+◌, ◌-◌, List, length, Some, true, arith, ap, sym, ◌∙◌}
use Rattle.object_memory.specs.declared.span.Span.{Span}
use Rattle.ebc_width.specs.Ranges.{holds}
use Rattle.object_memory.specs.Memory.{first_base, ranges, held_number}
use Rattle.object_memory.specs.Layout.{memory_of}
use Rattle.object_memory.proofs.Laws.{held_number-absent}
use Rattle.object_memory.proofs.Views.{held_number-memory_of, inside_cells}
use Rattle.object_memory.proofs.ObjMem.load.Goals as goal

pub returns-in_err-find-clause-number : goal.returns-in_err-find-clause-number
returns-in_err-find-clause-number g c = c.from_residual.ensures
    ∙ sym (held_number-absent c.args.self.now c.args.addr c.args.count c.in_err-find.ensures.none)

pub returns-clause-number : goal.returns-clause-number
returns-clause-number g c =
    let spans : List Span = c.self.inside.spans.items in
    let cells : List ℕ = c.self.inside.region in
    let place : ℕ = c.args.addr - c.first.result in
    let found = c.in_ok-find.ensures.found in
    let from : first_base g.row.W + place ≡ c.args.addr = grind arith in
    let held : holds (ranges (memory_of g.row.W spans cells (length cells) c.self.inside.object_limit)) c.args.addr c.args.count ≡ true = ap
    (λ m. holds (ranges m) c.args.addr c.args.count) c.self.view_is ∙ found.held in
    ap Some c.load.ensures.number
    ∙ sym (held_number-memory_of g.row.W spans cells (length cells) c.self.inside.object_limit c.args.addr c.args.count place
    (inside_cells g.row.W spans cells _ _ _ c.self.invariant.layout) held from)
    ∙ ap (λ m. held_number m c.args.addr c.args.count) c.self.view_is
