use Rattle.entry_thunk.proofs.Common.{◌+◌, ◌%◌, ◌^◌, refl, sym, ap, ◌∙◌, arith, cut_at, holds, ranges, stored, params_of, with_memory}
use Rattle.entry_thunk.proofs.Common.{slots_mapped}
use Rattle.std.proofs.Common.{inr}
use Rattle.entry_thunk.proofs.CellLaws.{cells-parts, cells-stored, keeps-more}
use Rattle.entry_thunk.proofs.cells.store_cells.Goals as goal

pub store-requires : goal.store-requires
store-requires g c =
    let parts = cells-parts g.row.W (ranges c.args.mem.now) c.args.top c.args.kinds.now c.requires.width c.requires.mapped in
    (omega arith, (inr (inr (inr refl)), ap (λ a. holds (ranges c.args.mem.now) a 8) c.cut.ensures ∙ parts.0))

pub store-requires-2 : goal.store-requires-2
store-requires-2 g c =
    let parts = cells-parts g.row.W (ranges c.args.mem.now) c.args.top c.args.kinds.now c.requires.width c.requires.mapped in (
      omega arith,
      (
        inr (inr (inr refl)),
        ap (λ a. holds (ranges c.store.new.mem) a 8) c.cut-2.ensures
            ∙ (ap (λ os. holds os (cut_at g.row.W ((c.args.top + 8) % 2 ^ 64)) 8) c.store.ensures.objects.objects ∙ parts.1),
      ),
    )

pub store_slots-requires : goal.store_slots-requires
store_slots-requires g c =
    let parts = cells-parts g.row.W (ranges c.args.mem.now) c.args.top c.args.kinds.now c.requires.width c.requires.mapped in (
      omega arith,
      (
        c.requires.width,
        (
          c.requires.each,
          ap (λ os. slots_mapped g.row.W os ((c.args.top + 16) % 2 ^ 64) c.args.kinds.now)
              (c.store-2.ensures.objects.objects ∙ c.store.ensures.objects.objects) ∙ parts.2,
        ),
      ),
    )

pub returns-clause-stored : goal.returns-clause-stored
returns-clause-stored g c s gate =
    cells-stored g.row.W c.args.top (params_of c.args.kinds.now) c.args.args.now s c.args.mem.now c.store.new.mem c.store-2.new.mem
    c.store_slots.new.mem c.requires.width
    (ap (λ v. stored (with_memory s c.args.mem.now) (cut_at g.row.W c.args.top) 8 v) gate
    ∙ (ap (λ a. stored (with_memory s c.args.mem.now) a 8 c.args.gate) (sym c.cut.ensures) ∙ c.store.ensures.stored s))
    (ap (λ a. stored (with_memory s c.store.new.mem) a 8 0) (sym c.cut-2.ensures) ∙ c.store-2.ensures.stored s)
    (c.store_slots.ensures.stored s)

pub returns-clause-objects : goal.returns-clause-objects
returns-clause-objects g c =
    keeps-more c.args.mem.now c.store-2.new.mem c.store_slots.new.mem
    (keeps-more c.args.mem.now c.store.new.mem c.store-2.new.mem c.store.ensures.objects c.store-2.ensures.objects)
    c.store_slots.ensures.objects
