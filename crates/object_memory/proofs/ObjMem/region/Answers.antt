use Rattle.std.proofs.Common.{length, ap, sym, subst, ◌∙◌, List, ℕ}
use Rattle.std.specs.Prelude.{slice_index}
use Rattle.object_memory.specs.declared.span.Span.{Span}
use Rattle.ebc_width.specs.Ranges.{holds}
use Rattle.object_memory.specs.Memory.{Memory, IsMemory, ranges, byte_at}
use Rattle.object_memory.proofs.Laws.{offset_of-some}
use Rattle.object_memory.proofs.Views.{IsMemory-memory_of, byte_at-memory_of, inside_cells}
use Rattle.object_memory.proofs.ObjMem.region.Goals as goal

pub returns-clause-memory : goal.returns-clause-memory
returns-clause-memory g c =
    subst (λ (m : Memory). IsMemory g.row.W m) c.self.view_is
    (IsMemory-memory_of g.row.W c.self.inside.spans.items c.self.inside.region c.self.inside.object_limit _ _ c.self.invariant.layout)

pub returns-clause-bytes : goal.returns-clause-bytes
returns-clause-bytes g c = λ x i at.
    let cells : List ℕ = c.self.inside.region in let spans : List Span = c.self.inside.spans.items in
    let there = offset_of-some g.row.W c.args.self.now x i at in let held = ap (λ m. holds (ranges m) x 1) c.self.view_is ∙ there.0 in
    ap (slice_index cells) (sym there.1)
    ∙ sym (byte_at-memory_of g.row.W spans cells (length cells) c.self.inside.object_limit x
    (inside_cells g.row.W spans cells _ _ _ c.self.invariant.layout) held)
    ∙ ap (λ m. byte_at m x) c.self.view_is
