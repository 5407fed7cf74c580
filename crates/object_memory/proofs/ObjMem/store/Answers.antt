use Rattle.std.proofs.Common.{◌≡◌, inr, ℕ, ◌+◌, ◌-◌, ◌*◌, ◌≤◌, List, length, true, arith, ap, sym, ◌∙◌}
use Rattle.std.specs.Prelude.{slice_index}
use Rattle.object_memory.specs.declared.span.Span.{Span}
use Rattle.ebc_width.specs.Ranges.{holds}
use Rattle.object_memory.specs.Memory.{first_base, ranges, byte_at, memory_after}
use Rattle.object_memory.specs.Layout.{memory_of}
use Rattle.ebc_width.proofs.ByteLaws.{put-apart, put-below}
use Rattle.object_memory.proofs.Laws.{memory_after-absent, byte_at-memory_after}
use Rattle.object_memory.proofs.Views.{memory_after-memory_of, IsKept-written, IsMemory-memory_of, inside_cells, held_below}
use Rattle.object_memory.proofs.ObjMem.store.Goals as goal

pub returns-in_default-clause-after : goal.returns-in_default-clause-after
returns-in_default-clause-after g c =
    sym (memory_after-absent c.args.self.now c.args.addr c.args.count c.args.value c.in_default.ensures.none)

pub invariant_of-self : goal.invariant_of-self
invariant_of-self g c =
    let spans : List Span = c.self.inside.spans.items in
    let cells : List ℕ = c.self.inside.region in
    let place : ℕ = c.args.addr - c.first.result in
    let found = c.in-Some.ensures.found in
    let from : first_base g.row.W + place ≡ c.args.addr = grind arith in
    let below : place + c.args.count ≤ 16 * length c.self.inside.homes.items =
    held_below g.row.W spans cells _ c.self.inside.object_limit _ c.args.addr c.args.count _ place _ c.args.self.now
    c.self.invariant.layout c.self.view_is found from in
    IsKept-written g.row.W spans cells c.store.new.self c.self.inside.homes.items _ _ _ c.self.invariant c.store.ensures.len
    (λ i. rw (c.store.ensures.bytes i) (put-below (slice_index cells) _ _ _ i (c.self.invariant.layout.bytes i)))
    (λ i behind. c.store.ensures.bytes i ∙ put-apart (slice_index cells) place c.args.count c.args.value i
    (inr (omega (arith, below, behind))))

pub returns-clause-after : goal.returns-clause-after
returns-clause-after g c =
    let spans : List Span = c.self.inside.spans.items in
    let cells : List ℕ = c.self.inside.region in
    let place : ℕ = c.args.addr - c.first.result in
    let found = c.in-Some.ensures.found in
    let from : first_base g.row.W + place ≡ c.args.addr = grind arith in
    let held : holds (ranges (memory_of g.row.W spans cells (length cells) c.self.inside.object_limit)) c.args.addr c.args.count ≡ true = ap
    (λ m. holds (ranges m) c.args.addr c.args.count) c.self.view_is ∙ found.held in
    ap (λ n. memory_of g.row.W spans c.store.new.self n c.self.inside.object_limit) c.store.ensures.len
    ∙ memory_after-memory_of g.row.W spans cells c.store.new.self
    (length cells) c.self.inside.object_limit c.args.addr c.args.count c.args.value place
    (inside_cells g.row.W spans cells _ _ _ c.self.invariant.layout) held from
    c.store.ensures.len
    c.store.ensures.bytes
    ∙ ap (λ m. memory_after m c.args.addr c.args.count c.args.value) c.self.view_is

pub returns-clause-memory : goal.returns-clause-memory
returns-clause-memory g c = IsMemory-memory_of g.row.W c.self.inside.spans.items c.store.new.self c.self.inside.object_limit _ _
    (invariant_of-self g c).layout

pub returns-clause-bytes : goal.returns-clause-bytes
returns-clause-bytes g c = λ x. ap (λ m. byte_at m x) (returns-clause-after g c)
    ∙ byte_at-memory_after c.args.self.now c.args.addr c.args.count c.args.value x c.in-Some.ensures.found.held
