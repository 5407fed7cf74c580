use Rattle.note_infer.proofs.Joins.{◌∙◌, [], ◌∷◌, arith, join_types}
use Rattle.note_infer.proofs.StateJoins.{zipped_row}
use Rattle.note_types.specs.declared.types.Ty.TheVariants as ty
use Rattle.note_infer.proofs.state_joins.join_registers.Goals as goal

pub returns : goal.returns
returns c =
    (λ i. c.join_types.ensures.joined i ∷ c.join_types-2.ensures.joined i ∷ c.join_types-3.ensures.joined i
    ∷ c.join_types-4.ensures.joined i
    ∷ c.join_types-5.ensures.joined i ∷ c.join_types-6.ensures.joined i ∷ c.join_types-7.ensures.joined i ∷ c.join_types-8.ensures.joined i
    ∷ [])
    ∙ zipped_row join_types ty.Any 8 c.args.xs.now c.args.ys.now (omega arith) (omega arith)
