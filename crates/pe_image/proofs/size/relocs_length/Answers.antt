use Rattle.std.proofs.Common.{◌≡◌, ◌+◌, refl, sym, ap, ap₂, ◌∙◌, arith, length}
use Rattle.std.specs.List.{range_with_len, sum_by}
use Rattle.pe_image.specs.Sizes.{block_length, page_length, relocs_length}
use Rattle.pe_image.proofs.Pages.{from_first, page_split}
use Rattle.pe_image.proofs.SizeLaws.{pages_more}
use Rattle.pe_image.proofs.size.relocs_length.Goals as goal

pub loop-page-init : goal.loop-page-init
loop-page-init c = record { total = refl; rest = sym (from_first c.args.places.now); bound = omega arith }

pub loop-page-preserved : goal.loop-page-preserved
loop-page-preserved c =
    let parts = page_split c.args.places.now c.loop-page.rest.now c.split_at.result.0.now c.split_at.result.1.now c.loop-page.page
    c.count_on.result c.requires.apart c.loop-page.invariant.rest c.count_on.ensures.count c.split_at.ensures.front
    c.split_at.ensures.back in
    record {
      total = ap₂ (λ m n. m + n) c.loop-page.invariant.total
          (c.block_length-total.ensures.length ∙ ap (λ ps. block_length (length ps)) parts.0)
          ∙ sym (pages_more c.args.places.now c.loop-page.page);
      rest = parts.1;
      bound = omega (arith, c.loop-page.invariant.bound, c.block_length-total.ensures.bound, c.split_at.ensures.back_len);
    }

pub returns-clause-length : goal.returns-clause-length
unfolding relocs_length
returns-clause-length c =
    let all : c.loop-page.page ≡ 1024 = omega arith in
    c.loop-page.invariant.total ∙ ap (λ n. sum_by (page_length c.args.places.now) (range_with_len 0 n)) all
