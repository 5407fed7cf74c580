-- For proofs: that all premises of the headline for two images can hold at once, of a pair whose bound call is answered.
-- docs/PAIRS.md, "Laws".
use Rattle.std.specs.Prelude.{◌≡◌, ℕ, List, [], ◌∷◌, ◌++◌}
use Rattle.note_types.specs.declared.ending.Ending.TheVariants.{Finished}
use Rattle.note_types.specs.declared.value.Value.{Value}
use Rattle.pair_model.specs.PairReports.{own_placements}
use Rattle.pair_model.specs.PairRuns.{pair_run}
use Rattle.pair_model.specs.Pairs.{Both, PairWorld}
use Rattle.pair_model.specs.declared.event.PairEvent.{PairEvent}
use Rattle.pair_model.specs.declared.event.PairEvent.TheVariants.{Bound}
use Rattle.pe_image.specs.declared.image.Image.{Image}
use Rattle.pair_laws.specs.TypedPairs.{IsTypedPair}

-- A typed pair whose binds agree, and whose run finishes once a bound call was answered, which is its last event.
pub record AnswersBoundCall (images : Both Image) (world : PairWorld) : Type 0 where
  pub typed : IsTypedPair images world
  pub steps : ℕ
  pub before : List PairEvent
  pub answer : Value
  pub result : Value
  pub answered : (pair_run 4 world (own_placements 4 world) images steps).trace ≡ before ++ Bound answer ∷ []
  pub finished : (pair_run 4 world (own_placements 4 world) images steps).ending ≡ Finished result

-- There is one.
abbrev pub PairPremisesAreMet : Type 0
PairPremisesAreMet = (images : Both Image) × (world : PairWorld) × AnswersBoundCall images world
