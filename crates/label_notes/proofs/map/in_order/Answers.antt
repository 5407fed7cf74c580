use Rattle.std.proofs.Common.{rules, subst}
use Rattle.std.proofs.lemmas.List.Sorted.{answers_always}
use Rattle.label_notes.specs.Maps.{AreInOrder, label_place}
use Rattle.label_notes.proofs.map.in_order.Goals as goal

pub returns : goal.returns
returns c =
    let order = c.sort_by_key.new.self.items in
    let made : AreInOrder c.in_ok-order.order.items order =
    record {
      same = c.in_ok-sort_by_key.ensures.permutation;
      ascend = c.in_ok-sort_by_key.ensures.sorted label_place (answers_always _ _ _ (λ f a r g h. search rules));
      stable = c.in_ok-sort_by_key.ensures.stable label_place (answers_always _ _ _ (λ f a r g h. search rules));
    } in
    subst (λ ls. AreInOrder ls order) c.in_ok-order.ensures made
