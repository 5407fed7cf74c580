use Rattle.std.proofs.Common.{ap, ◌∙◌, length, replicate, Some, List, ℕ}
use Rattle.std.proofs.lemmas.List.{length-map, length-replicate}
use Rattle.raw_region.specs.Slots.{written_bytes}
use Rattle.raw_region.proofs.Slots.{written_bytes-map, written_of}
use Rattle.raw_region.proofs.Region.new.Goals as goal

pub invariant_of-result : goal.invariant_of-result
invariant_of-result c =
    let made = c.in_ok-base.ensures.block in let zeros : List ℕ = replicate c.args.len 0 in let all = c.zero.ensures.1 in
    record {
      block = record {
        cells_at = c.zero.ensures.0 ∙ made.cells_at;
        long = ap length all ∙ length-map zeros Some ∙ length-replicate c.args.len 0;
        deed_at = made.deed_at;
        deed_len = made.deed_len;
        deed_alloc = made.deed_alloc;
      };
      written = written_of c.zero.new.cells.slots zeros all;
    }

pub returns : goal.returns
returns c = ap written_bytes c.zero.ensures.1 ∙ written_bytes-map (replicate c.args.len 0)
