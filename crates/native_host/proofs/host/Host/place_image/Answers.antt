use Rattle.native_host.proofs.Common.{◌≡◌, ◌+◌, ◌*◌, sym, ap, ◌∙◌, arith, first_base, padded, placed, area_bytes, stack_bytes, placement_of}
use Rattle.reloc_loader.proofs.Mapping.{is_placed_at}
use Rattle.native_host.proofs.PlacedLaws.{bare_is, base_even, third_base, three_limits, three_ranges, three_room, three_zeros, two_room}
use Rattle.native_host.proofs.StartLaws.{stack_some}
use Rattle.native_host.proofs.host.Host.place_image.Goals as goal

pub place_next-requires-2 : goal.place_next-requires-2
place_next-requires-2 g c =
    let notes = c.args.notes.now in
    let area : 16 * (1 + c.args.self.now.places.methods + c.args.self.now.places.functions + 1024) ≡ area_bytes notes =
    let x = c.requires.notes.methods in let y = c.requires.notes.functions in omega (arith, x, y) in
    let stack : 1 * c.args.self.now.places.stack_bytes ≡ stack_bytes g.row.W notes =
    let x = c.requires.notes.stack_bytes in omega (arith, x) in
    let some = stack_some g.row.W notes c.requires.read in
    let small = c.requires.small in
    let limit = c.requires.limit in
    let count = c.requires.count in (
      omega arith,
      (
        omega (arith, some, stack),
        (
          omega (arith, small),
          two_room g.row.W c.args.mem.now c.place_next.new.mem (area_bytes notes)
              (1 * c.args.self.now.places.stack_bytes) c.requires.empty
              (c.place_next.ensures.placed ∙ ap (placed g.row.W c.args.mem.now) area)
              (omega (arith, limit, stack)) (omega (arith, count)),
        ),
      ),
    )

pub place_next-id-requires : goal.place_next-id-requires
place_next-id-requires g c =
    let notes = c.args.notes.now in
    let area : 16 * (1 + c.args.self.now.places.methods + c.args.self.now.places.functions + 1024) ≡ area_bytes notes =
    let x = c.requires.notes.methods in let y = c.requires.notes.functions in omega (arith, x, y) in
    let stack : 1 * c.args.self.now.places.stack_bytes ≡ stack_bytes g.row.W notes =
    let x = c.requires.notes.stack_bytes in omega (arith, x) in
    let size = c.requires.image.size in
    let entry = c.requires.image.entry in
    let limit = c.requires.limit in (
      omega arith,
      (
        omega (arith, entry),
        (
          omega (arith, size),
          three_room g.row.W c.args.mem.now c.place_next.new.mem c.place_next-2.new.mem
              (area_bytes notes) (stack_bytes g.row.W notes) (1 * c.args.image.now.size) c.requires.empty
              (c.place_next.ensures.placed ∙ ap (placed g.row.W c.args.mem.now) area)
              (c.place_next-2.ensures.placed ∙ ap (placed g.row.W c.place_next.new.mem) stack) (omega (arith, limit)) c.requires.count,
        ),
      ),
    )

pub load_image-requires : goal.load_image-requires
load_image-requires g c =
    let notes = c.args.notes.now in
    let area : 16 * (1 + c.args.self.now.places.methods + c.args.self.now.places.functions + 1024) ≡ area_bytes notes =
    let x = c.requires.notes.methods in let y = c.requires.notes.functions in omega (arith, x, y) in
    let stack : 1 * c.args.self.now.places.stack_bytes ≡ stack_bytes g.row.W notes =
    let x = c.requires.notes.stack_bytes in omega (arith, x) in
    let size : 1 * c.args.image.now.size ≡ c.args.image.now.size = omega arith in
    let pa = c.place_next.ensures.placed ∙ ap (placed g.row.W c.args.mem.now) area in
    let pb = c.place_next-2.ensures.placed ∙ ap (placed g.row.W c.place_next.new.mem) stack in
    let pc = c.place_next-id.ensures.placed ∙ ap (placed g.row.W c.place_next-2.new.mem) size in
    let third = third_base g.row.W c.args.mem.now c.place_next.new.mem c.place_next-2.new.mem (area_bytes notes) (stack_bytes g.row.W notes)
    c.requires.empty pa pb in
    let native = c.requires.native in
    let under = c.requires.stack in
    let base = c.requires.base in
    let at : c.args.self.now.places.image ≡ first_base g.row.W + padded (area_bytes notes) + padded (stack_bytes g.row.W notes) =
    omega (arith, native, under, base) in (
      omega arith,
      (
        c.requires.image,
        (
          base_even g.row.W (area_bytes notes) (stack_bytes g.row.W notes) c.args.self.now.places.image c.requires.width at,
          (
            is_placed_at g.row.W c.place_next-2.new.mem c.place_next-id.new.mem c.args.image.now.size c.args.self.now.places.image
                c.place_next-id.result pc c.place_next-id.ensures.id (ap (λ i. i.base) c.place_next-id.ensures.id ∙ (third ∙ sym at)),
            three_zeros g.row.W c.args.mem.now c.place_next.new.mem c.place_next-2.new.mem c.place_next-id.new.mem (area_bytes notes)
                (stack_bytes g.row.W notes) c.args.image.now.size c.requires.empty pa pb pc,
          ),
        ),
      ),
    )

pub returns-clause-state : goal.returns-clause-state
returns-clause-state g c = λ script.
    let notes = c.args.notes.now in
    let area : 16 * (1 + c.args.self.now.places.methods + c.args.self.now.places.functions + 1024) ≡ area_bytes notes =
    let x = c.requires.notes.methods in let y = c.requires.notes.functions in omega (arith, x, y) in
    let stack : 1 * c.args.self.now.places.stack_bytes ≡ stack_bytes g.row.W notes =
    let x = c.requires.notes.stack_bytes in omega (arith, x) in
    let size : 1 * c.args.image.now.size ≡ c.args.image.now.size = omega arith in
    let pa = c.place_next.ensures.placed ∙ ap (placed g.row.W c.args.mem.now) area in
    let pb = c.place_next-2.ensures.placed ∙ ap (placed g.row.W c.place_next.new.mem) stack in
    let pc = c.place_next-id.ensures.placed ∙ ap (placed g.row.W c.place_next-2.new.mem) size in
    bare_is g.row.W c.args.image.now notes script (placement_of c.args.self.now.places) c.place_next-id.new.mem c.load_image.new.mem
    c.requires.native c.requires.stack c.requires.base
    (three_ranges g.row.W c.args.mem.now c.place_next.new.mem c.place_next-2.new.mem c.place_next-id.new.mem (area_bytes notes)
    (stack_bytes g.row.W notes) c.args.image.now.size c.requires.empty pa pb pc)
    (three_zeros g.row.W c.args.mem.now c.place_next.new.mem c.place_next-2.new.mem c.place_next-id.new.mem (area_bytes notes)
    (stack_bytes g.row.W notes) c.args.image.now.size c.requires.empty pa pb pc)
    c.load_image.ensures.loaded c.load_image.ensures.mapped c.load_image.ensures.others

pub returns-clause-limits : goal.returns-clause-limits
returns-clause-limits g c =
    three_limits g.row.W c.args.mem.now c.place_next.new.mem c.place_next-2.new.mem c.place_next-id.new.mem c.load_image.new.mem _ _ _ _
    c.args.image.now c.place_next.ensures.placed c.place_next-2.ensures.placed c.place_next-id.ensures.placed c.load_image.ensures.loaded
