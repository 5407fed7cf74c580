use Rattle.std.proofs.lemmas.List.{Filters.dedup_is, Kept.Contains-dedup_nat, Kept.Contains-from_dedup}
use Rattle.std.proofs.lemmas.List.Sorted.{Contains-permutation, IsPermutation-sym}
use Rattle.std.proofs.lemmas.Map.Keys.{IsStrictlyIncreasing-dedup}
use Rattle.note_infer.proofs.leaders.find_leaders.Goals as goal

pub returns : goal.returns
returns c =
    let is = dedup_is _ _ _ c.dedup.ensures.filtered in
    let moved = c.sort_unstable.ensures.permutation in
    let all = c.in_ok-leaders.ensures in
    record {
      ascend = rw is (IsStrictlyIncreasing-dedup _ c.sort_unstable.ensures.sorted);
      all = λ p. (
        λ h. (all p).0 (Contains-permutation _ _ p (IsPermutation-sym _ _ moved) (Contains-from_dedup _ _ p (rw is at h))),
        λ l. rw is (Contains-dedup_nat _ p (Contains-permutation _ _ p moved ((all p).1 l))),
      );
    }
