use Rattle.std.proofs.Common.{◌≡◌, rules, subst, sym}
use Rattle.ebc_link.specs.declared.plan.LinkPlan.{LinkPlan}
use Rattle.ebc_link.specs.Plans.{IsPlan}
use Rattle.printed_texts.specs.Samples.{sample_plan}
use Rattle.printed_texts.proofs.PlanLaws.{is_plan}
use Rattle.printed_texts.proofs.link_plan.plan.Goals as goal

pub returns-clause-conditions : goal.returns-clause-conditions
returns-clause-conditions c =
    let made : LinkPlan = record { objects = c.new-2.result; entry = c.new-entry.result; subsystem = 11; base = 65536 } in
    let same : made ≡ sample_plan = search rules in
    subst IsPlan (sym same) is_plan
