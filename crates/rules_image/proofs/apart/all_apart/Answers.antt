use Rattle.std.proofs.Common.{arith}
use Rattle.rules_image.proofs.Disjoint.{all_in_turn}
use Rattle.rules_image.proofs.apart.all_apart.Goals as goal

pub returns : goal.returns
returns c =
    λ e. all_in_turn c.args.notes.now c.number_all.new.order c.sort_unstable_by_key.new.self c.number_all.ensures
    c.sort_unstable_by_key.ensures.permutation (omega arith) (c.are_in_turn.ensures e)
