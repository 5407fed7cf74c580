use Rattle.std.proofs.Common.{◌↔◌, List, subst}
use Rattle.std.specs.Prelude.{IsTrue}
use Rattle.pe_image.specs.declared.image.Section.{Section}
use Rattle.rules_image.proofs.RangesLemmas.{zero_from, zero_to}
use Rattle.rules_image.proofs.ranges.is_zero.Goals as goal
use Rattle.rules_image.specs.Contents.{AreZeroIn}

pub returns : goal.returns
returns c =
    let same : IsTrue c.are_zero_in.result ↔ AreZeroIn c.args.image.now.sections c.args.from c.args.to =
    subst (λ (xs : List Section). IsTrue c.are_zero_in.result
    ↔ AreZeroIn xs c.args.from c.args.to) c.as_slice.ensures c.are_zero_in.ensures in (
      λ e. zero_from c.args.image.now c.args.from c.args.to (same.0 e),
      λ z. same.1 (zero_to c.args.image.now c.requires c.args.from c.args.to z),
    )
