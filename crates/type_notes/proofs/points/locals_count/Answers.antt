use Rattle.std.proofs.Common.{rules, tests}
use Rattle.std.proofs.lemmas.Iterator.{YieldsList-from_slice}
use Rattle.std.proofs.lemmas.Iterator.Consumers.{YieldsList-from_filter, count_from_yields_List}
use Rattle.type_notes.specs.Conditions.{is_locals}
use Rattle.type_notes.proofs.points.locals_count.Goals as goal

pub returns : goal.returns
returns c = count_from_yields_List c.filter.result _ c.count.ensures.ran
    (YieldsList-from_filter _ is_locals (YieldsList-from_slice c.args.items.now cc) c.filter.ensures.closure
    (λ x b q k. search (rules, tests)))
