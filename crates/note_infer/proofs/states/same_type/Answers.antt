use Rattle.note_infer.proofs.Joins.{◌≡◌, arith, Decides-same_type}
use Rattle.std.proofs.{Common.◌↔◌, Common.IsTrue, lemmas.Grind.common_steps, lemmas.Bool.Decides.same_from_decides}
use Rattle.note_infer.proofs.states.same_type.Goals as goal

same : (c : goal.After-eq) → IsTrue c.eq.result ↔ (c.args.a.now ≡ c.args.b.now)
same c = grind (arith, common_steps)

pub returns-clause-test : goal.returns-clause-test
returns-clause-test c = same_from_decides _ _ (same c) (Decides-same_type _ _)
