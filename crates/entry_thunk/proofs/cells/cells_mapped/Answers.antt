use Rattle.entry_thunk.proofs.Common.{◌≡◌, ◌+◌, ◌%◌, ◌^◌, ◌&&◌, sym, ap, ◌∙◌, cut_at, holds, ranges, slots_mapped}
use Rattle.entry_thunk.proofs.{CellLaws.cells_mapped-word, CellLaws.all-three, CellLaws.not-both, cells.cells_mapped.Goals.then-holds}
use Rattle.entry_thunk.proofs.cells.cells_mapped.Goals.{else-holds}
use Rattle.entry_thunk.proofs.cells.cells_mapped.Goals as goal

pub returns-then-holds-2 : goal.returns-then-holds-2
returns-then-holds-2 g c =
    let low = holds (ranges c.args.mem.now) (cut_at g.row.W c.args.top) 8 in
    let high = holds (ranges c.args.mem.now) (cut_at g.row.W ((c.args.top + 8) % 2 ^ 64)) 8 in
    let first : c.holds.result ≡ low = c.holds.ensures.answer ∙ ap (λ a. holds (ranges c.args.mem.now) a 8) c.cut.ensures in
    let both : c.if-holds.value ≡ (low && high) =
    elim c.if-holds.branch [
      | then-holds w ↦ w.value-is ∙ (w.holds-then-holds.ensures.answer
          ∙ (ap (λ a. holds (ranges c.args.mem.now) a 8) w.cut-then-holds.ensures ∙ ap (λ b. b && high) (sym w.if-holds.true ∙ first)))
      | else-holds w ↦ w.value-is ∙ (w.if-holds.false ∙ ap (λ b. b && high) (sym w.if-holds.false ∙ first))
    ] in
    c.slots_mapped.ensures
    ∙ (all-three low high (slots_mapped g.row.W (ranges c.args.mem.now) ((c.args.top + 16) % 2 ^ 64) c.args.kinds.now)
    (sym both ∙ c.if-holds-2.true)
    ∙ sym (cells_mapped-word g.row.W (ranges c.args.mem.now) c.args.top c.args.kinds.now c.requires))

pub returns-else-holds-2 : goal.returns-else-holds-2
returns-else-holds-2 g c =
    let low = holds (ranges c.args.mem.now) (cut_at g.row.W c.args.top) 8 in
    let high = holds (ranges c.args.mem.now) (cut_at g.row.W ((c.args.top + 8) % 2 ^ 64)) 8 in
    let first : c.holds.result ≡ low = c.holds.ensures.answer ∙ ap (λ a. holds (ranges c.args.mem.now) a 8) c.cut.ensures in
    let both : c.if-holds.value ≡ (low && high) =
    elim c.if-holds.branch [
      | then-holds w ↦ w.value-is ∙ (w.holds-then-holds.ensures.answer
          ∙ (ap (λ a. holds (ranges c.args.mem.now) a 8) w.cut-then-holds.ensures ∙ ap (λ b. b && high) (sym w.if-holds.true ∙ first)))
      | else-holds w ↦ w.value-is ∙ (w.if-holds.false ∙ ap (λ b. b && high) (sym w.if-holds.false ∙ first))
    ] in
    c.if-holds-2.false
    ∙ (not-both low high (slots_mapped g.row.W (ranges c.args.mem.now) ((c.args.top + 16) % 2 ^ 64) c.args.kinds.now)
    (sym both ∙ c.if-holds-2.false)
    ∙ sym (cells_mapped-word g.row.W (ranges c.args.mem.now) c.args.top c.args.kinds.now c.requires))
