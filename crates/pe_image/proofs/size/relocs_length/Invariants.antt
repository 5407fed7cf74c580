use Rattle.std.proofs.Common.{◌≡◌, ◌+◌, ◌*◌, ◌≤◌, length}
use Rattle.std.specs.List.{range_with_len, sum_by}
use Rattle.pe_image.specs.Sizes.{page_length}
use Rattle.pe_image.specs.Walks.{from_page}
use Rattle.pe_image.proofs.size.relocs_length.Given as goal

abbrev pub invariant-loop-page : goal.invariant-loop-page
invariant-loop-page l =
    record {
      total : l.total ≡ sum_by (page_length l.fn.places) (range_with_len 0 l.page);
      rest : l.rest ≡ from_page l.page l.fn.places;
      bound : l.total + 2 * length l.rest ≤ 2 * length l.fn.places + 10 * l.page;
    }
