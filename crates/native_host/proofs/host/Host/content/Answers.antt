use Rattle.native_host.proofs.Common.{◌≡◌, Some, sym, ap, ap₂, ◌∙◌, none-some, same_Some, little_endian, covers, byte_at, held_number}
use Rattle.native_host.proofs.Common.{ranges, held_number-held, stack_range, reading_of, placement_of}
use Rattle.ebc_width.proofs.RangeLaws.{holds-at}
use Rattle.native_host.proofs.host.Host.content.Goals as goal

pub unreachable-requires : goal.unreachable-requires
unreachable-requires g c =
    let within = ap (λ k. covers c.args.x k (stack_range g.row.W c.args.notes.now (placement_of c.args.self.now.places)))
    c.cell_bytes.ensures.bytes ∙ c.requires.within in
    none-some _ (sym c.in_default.is ∙ (c.load.ensures.number ∙ held_number-held c.args.mem.now c.args.x c.cell_bytes.result
    (holds-at (ranges c.args.mem.now) c.args.x c.cell_bytes.result 1
    (stack_range g.row.W c.args.notes.now (placement_of c.args.self.now.places)) c.requires.stack within)))

pub returns : goal.returns
returns g c =
    let within = ap (λ k. covers c.args.x k (stack_range g.row.W c.args.notes.now (placement_of c.args.self.now.places)))
    c.cell_bytes.ensures.bytes ∙ c.requires.within in
    let held : held_number c.args.mem.now c.args.x c.cell_bytes.result ≡ Some
    (little_endian (byte_at c.args.mem.now) c.args.x c.cell_bytes.result) =
    held_number-held c.args.mem.now c.args.x c.cell_bytes.result
    (holds-at (ranges c.args.mem.now) c.args.x c.cell_bytes.result 1
    (stack_range g.row.W c.args.notes.now (placement_of c.args.self.now.places)) c.requires.stack within) in
    c.read.ensures
    ∙ ap₂ (λ sort x. reading_of g.row.W c.args.notes.now (placement_of c.args.self.now.places) c.args.self.now.made.items sort x)
    c.sort_of_cell.ensures
    (same_Some _ _ (sym c.in-Some.is ∙ (c.load.ensures.number ∙ held))
    ∙ ap (little_endian (byte_at c.args.mem.now) c.args.x) c.cell_bytes.ensures.bytes)
