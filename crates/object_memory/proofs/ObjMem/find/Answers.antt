use Rattle.std.proofs.Common.{◌≡◌, List, length, map, ap, subst, sym, ◌∙◌}
use Rattle.std.proofs.lemmas.Option.{IfSome_then}
use Rattle.object_memory.specs.declared.span.Span.{Span}
use Rattle.ebc_width.specs.Ranges.{holds}
use Rattle.object_memory.specs.Memory.{Memory, ranges, IsMemory}
use Rattle.object_memory.specs.Layout.{span_range, IsSpanOf, IsFound}
use Rattle.object_memory.proofs.Views.{IsFound-memory_of, IsMemory-memory_of, holds-memory_of}
use Rattle.object_memory.proofs.ObjMem.find.Goals as goal

pub find_span-requires : goal.find_span-requires
find_span-requires g c = rw (c.first.ensures, c.deref.ensures.value, c.deref-2.ensures.value) c.self.invariant.are

pub returns-clause-found : goal.returns-clause-found
returns-clause-found g c =
    IfSome_then c.find_span.result c.find_span.ensures.found (λ r is.
    subst (λ (m : Memory). IsFound g.row.W m c.args.addr c.args.count r.0 r.1) c.self.view_is
    (IsFound-memory_of g.row.W c.self.inside.spans.items c.self.inside.region
    (length c.self.inside.region) c.self.inside.object_limit _ _ c.args.addr c.args.count r.0 r.1 c.self.invariant.layout
    (subst (λ (spans : List Span). IsSpanOf spans c.args.addr c.args.count r.0 r.1) c.deref.ensures.value is)))

pub returns-clause-none : goal.returns-clause-none
returns-clause-none g c =
    let same : holds (ranges c.args.self.now) c.args.addr c.args.count ≡ holds
    (map span_range c.deref.result.now) c.args.addr c.args.count =
    ap (λ m. holds (ranges m) c.args.addr c.args.count) (sym c.self.view_is)
    ∙ holds-memory_of g.row.W c.self.inside.spans.items c.self.inside.region
    (length c.self.inside.region) c.self.inside.object_limit c.args.addr c.args.count
    ∙ ap (λ spans. holds (map span_range spans) c.args.addr c.args.count) (sym c.deref.ensures.value) in
    rw same c.find_span.ensures.none

pub returns-clause-memory : goal.returns-clause-memory
returns-clause-memory g c =
    subst (IsMemory g.row.W) c.self.view_is
    (IsMemory-memory_of g.row.W c.self.inside.spans.items c.self.inside.region c.self.inside.object_limit _ _ c.self.invariant.layout)
