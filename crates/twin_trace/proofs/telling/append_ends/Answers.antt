use Rattle.std.proofs.Common.{◌∙◌, ◌++◌}
use Rattle.side_by_side.specs.SideBySide.{side_by_side}
use Rattle.twin_trace.proofs.telling.append_ends.Goals as goal

pub returns : goal.returns
returns c =
    let four = c.in_ok-at32.ensures in
    let eight = c.in_ok-at64.ensures in
    record {
      at4 = four.0;
      at8 = eight.0;
      reports4 = four.1;
      reports8 = eight.1;
      lines = c.in_ok-append_beside.ensures
          ∙ (λ i. c.args.out.now.items ++ side_by_side ((c.as_slice.ensures.value ∙ four.2) i) ((c.as_slice-2.ensures.value ∙ eight.2) i));
    }
