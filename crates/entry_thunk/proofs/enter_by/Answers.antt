use Rattle.entry_thunk.proofs.Common.{◌≡◌, ℕ, ◌+◌, ◌-◌, ◌%◌, ◌^◌, refl, sym, ◌∙◌, arith, None, Concrete, concrete_of, inside, params_of}
use Rattle.std.specs.Prelude.{slice_index}
use Rattle.std.proofs.lemmas.Option.{none-some}
use Rattle.entry_thunk.proofs.{CellLaws.with_cells-none, EnterLaws.called_at, EnterLaws.inside-cells}
use Rattle.entry_thunk.proofs.enter_by.Goals as goal

pub returns-then-not-cells_mapped-clause-fault : goal.returns-then-not-cells_mapped-clause-fault
returns-then-not-cells_mapped-clause-fault g c =
    let s : Concrete = concrete_of c.args.m.now c.args.mem.now in
    let top : ℕ = (slice_index c.args.m.now.regs 0 + (2 ^ 64 - (16 + c.params_bytes.result))) % 2 ^ 64 in
    let none : inside g.row.W s c.args.target (params_of c.args.kinds.now) c.args.args.now ≡ None =
    inside-cells g.row.W s c.args.target top c.params_bytes.result (params_of c.args.kinds.now) c.args.args.now
    (sym c.params_bytes.ensures.bytes) c.params_bytes.ensures.most refl
    ∙ with_cells-none g.row.W top c.args.kinds.now c.args.args.now (called_at s c.args.target top) c.requires.each
    (sym c.cells_mapped.ensures ∙ c.if-not-cells_mapped.true) in
    (λ is. (omega (arith, c.depth.ensures.count, c.depth.ensures.few, c.if-depth-eq-FRAMES.false), none), λ h. refl)

pub returns-clause-inside : goal.returns-clause-inside
returns-clause-inside g c =
    let s : Concrete = concrete_of c.args.m.now c.args.mem.now in
    let top : ℕ = (slice_index c.args.m.now.regs 0 + (2 ^ 64 - (16 + c.params_bytes.result))) % 2 ^ 64 in
    inside-cells g.row.W s c.args.target top c.params_bytes.result (params_of c.args.kinds.now) c.args.args.now
    (sym c.params_bytes.ensures.bytes) c.params_bytes.ensures.most refl
    ∙ c.store_cells.ensures.stored (called_at s c.args.target top) refl

pub returns-clause-fault : goal.returns-clause-fault
returns-clause-fault g c =
    let s : Concrete = concrete_of c.args.m.now c.args.mem.now in
    let top : ℕ = (slice_index c.args.m.now.regs 0 + (2 ^ 64 - (16 + c.params_bytes.result))) % 2 ^ 64 in
    let some =
    inside-cells g.row.W s c.args.target top c.params_bytes.result (params_of c.args.kinds.now) c.args.args.now
    (sym c.params_bytes.ensures.bytes) c.params_bytes.ensures.most refl
    ∙ c.store_cells.ensures.stored (called_at s c.args.target top) refl in
    (λ is. absurd (cc), λ h. absurd (none-some _ (sym h.1 ∙ some)))
