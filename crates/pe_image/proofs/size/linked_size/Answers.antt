use Rattle.std.proofs.Common.{arith}
use Rattle.pe_image.proofs.SizeLaws.{few_apart, size_by_parts, size_of_images}
use Rattle.pe_image.proofs.size.linked_size.Goals as goal

pub relocs_length-requires-clause-few : goal.relocs_length-requires-clause-few
relocs_length-requires-clause-few c = few_apart c.args.relocs.now c.requires.apart (λ i. omega (arith, c.type_inv.relocs i))

pub returns-clause-images : goal.returns-clause-images
returns-clause-images c =
    size_of_images c.args.text c.args.contents c.page_from.result c.args.relocs.now
    (size_by_parts c.args.text c.args.contents c.page_from-contents_place.result c.page_from-relocs_place.result c.relocs_length.result
    c.page_from.result c.args.relocs.now c.page_from-contents_place.ensures.place c.page_from-relocs_place.ensures.place
    c.relocs_length.ensures.length c.page_from.ensures.place)
