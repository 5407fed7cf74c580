use Rattle.std.proofs.Common.{rules, ◌≡◌, ℕ, ◌+◌, ◌-◌, ◌*◌, ◌/◌, ◌≤◌, ◌<◌, List, ◌∷◌, ◌++◌, [], length, take, replicate, arith, sym, ap}
use Rattle.std.proofs.Common.{ap₂, subst, subst₂, ◌∙◌, vec_capacity}
use Rattle.std.proofs.lemmas.List.{take_all}
use Rattle.object_memory.specs.declared.span.Span.{Span}
use Rattle.object_memory.specs.Memory.{Memory, IsMemory, byte_at, next_base, padded, placed, first_base}
use Rattle.object_memory.specs.Layout.{memory_of, IsKept}
use Rattle.object_memory.proofs.Views.{next_span, next_base-memory_of, IsMemory-memory_of, memory_of-next_span, IsKept-next_span}
use Rattle.object_memory.proofs.Laws.{byte_at-placed, byte_at-above}
use Rattle.object_memory.proofs.ObjMem.place.Goals as goal

-- there is one span more, and homes for it
record IsNext (w : ℕ) (spans : List Span) (homes : List ℕ) (n : ℕ) (more_spans : List Span) (more_homes : List ℕ) : Type 0 where
  longer : more_spans ≡ spans ++ next_span w (16 * length homes) n ∷ []
  housed : more_homes ≡ homes ++ replicate (padded n / 16) (length spans)

is_next : (w : ℕ) (spans : List Span) (homes : List ℕ)
    (n : ℕ) {more_spans : List Span} {more_homes : List ℕ} {first before size taken places number : ℕ} → more_spans ≡ spans
    ++ record { base = first + before; size = size } ∷ [] → more_homes ≡ take ((before + taken) / 16) homes
    ++ replicate ((before + taken) / 16 - places) number → first ≡ first_base w → before ≡ 16 * length homes → size ≡ n → taken ≡ padded n
    → places ≡ length homes → number ≡ length spans → IsNext w spans homes n more_spans more_homes
is_next w spans homes n {before = before} {taken = taken} longer housed f b s t p u = record {
  longer = longer ∙ ap₂ (λ base k. spans ++ record { base = base; size = k } ∷ []) (ap₂ (λ x y. x + y) f b) s;
  housed = housed ∙ ap₂ (λ xs k. xs ++ k) (take_all ((before + taken) / 16) homes (omega arith))
      (ap₂ (λ k x. replicate k x) (omega arith) u);
}

pub invariant_of-self : goal.invariant_of-self
invariant_of-self g c =
    let n : ℕ = c.args.size * c.args.count in
    let cells : List ℕ = c.self.inside.region in
    let spans : List Span = c.self.inside.spans.items in
    let homes : List ℕ = c.self.inside.homes.items in
    let next = is_next g.row.W spans homes n c.in-Ok-push.ensures.items c.in-Ok.ensures.items c.first.ensures (search rules) (search rules)
    (search rules) (search rules) (search rules) in
    let fits : 16 * length homes + padded n ≤ length cells = search rules in
    let more : length spans < c.self.inside.object_limit = search rules in
    subst₂ (λ s h. IsKept g.row.W s cells h c.self.inside.object_limit (vec_capacity c.push.new.self) (vec_capacity c.resize.new.self))
    (sym next.longer) (sym next.housed)
    (IsKept-next_span g.row.W spans cells homes _ _ _ _ _ n c.self.invariant c.requires.some fits more c.in-Ok-push.ensures.capacity
    c.in-Ok.ensures.capacity)

pub returns-clause-placed : goal.returns-clause-placed
returns-clause-placed g c =
    let n : ℕ = c.args.size * c.args.count in
    let cells : List ℕ = c.self.inside.region in
    let spans : List Span = c.self.inside.spans.items in
    let homes : List ℕ = c.self.inside.homes.items in
    let next = is_next g.row.W spans homes n c.in-Ok-push.ensures.items c.in-Ok.ensures.items c.first.ensures (search rules) (search rules)
    (search rules) (search rules) (search rules) in
    let fits : 16 * length homes + padded n ≤ length cells = search rules in
    ap (λ s. memory_of g.row.W s cells (length cells) c.self.inside.object_limit) next.longer
    ∙ memory_of-next_span g.row.W spans cells (length cells) c.self.inside.object_limit (16 * length homes) _ n c.self.invariant.layout fits
    ∙ ap (λ m. placed g.row.W m n) c.self.view_is

pub returns-clause-memory : goal.returns-clause-memory
returns-clause-memory g c = IsMemory-memory_of g.row.W c.push.new.self.items c.self.inside.region c.self.inside.object_limit _ _
    (invariant_of-self g c).layout

pub returns-then-after-len-clause-memory : goal.returns-then-after-len-clause-memory
returns-then-after-len-clause-memory g c =
    subst (λ (m : Memory). IsMemory g.row.W m) c.self.view_is
    (IsMemory-memory_of g.row.W c.self.inside.spans.items c.self.inside.region c.self.inside.object_limit _ _ c.self.invariant.layout)

pub returns-clause-bytes : goal.returns-clause-bytes
returns-clause-bytes g c = λ x. ap (λ m. byte_at m x) (returns-clause-placed g c)
    ∙ byte_at-placed g.row.W c.args.self.now (c.args.size * c.args.count) x

pub returns-clause-zeros : goal.returns-clause-zeros
returns-clause-zeros g c = λ x from to.
    let cells : List ℕ = c.self.inside.region in
    let spans : List Span = c.self.inside.spans.items in
    let homes : List ℕ = c.self.inside.homes.items in
    let memory : IsMemory g.row.W c.args.self.now = subst (λ (m : Memory). IsMemory g.row.W m) c.self.view_is
    (IsMemory-memory_of g.row.W spans cells c.self.inside.object_limit _ _ c.self.invariant.layout) in
    let base : c.first.result + 16 * length homes ≡ next_base g.row.W c.args.self.now =
    ap (λ a. a + 16 * length homes) c.first.ensures
    ∙ sym (next_base-memory_of g.row.W spans cells (length cells) c.self.inside.object_limit
    (16 * length homes) c.self.invariant.layout.whole)
    ∙ ap (next_base g.row.W) c.self.view_is in
    let same : c.len.result ≡ length homes = search rules in
    returns-clause-bytes g c x ∙ byte_at-above g.row.W c.args.self.now x memory (omega (arith, from, base, same))
