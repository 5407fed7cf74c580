-- Meaning: when two images on one host run the same at both widths: the 32-bit and the 64-bit run of the pair have the same side running,
-- which stands at the same instruction, have the same events, hold the same in memory while they go on, and have raised no exception but a
-- division by zero that both raise. docs/PAIRS.md, "Laws".
use Rattle.std.specs.Prelude.{◌≡◌, ℕ}
use Rattle.host_model.specs.Placements.{IsPlacement, Placement}
use Rattle.pair_model.specs.PairRuns.{pair_run, SamePair}
use Rattle.pair_model.specs.Pairs.{Both, PairWorld}
use Rattle.pe_image.specs.declared.image.Image.{Image}
use Rattle.invariant_laws.specs.Endings.{RaisesOnlyDivideError}
use Rattle.note_types.specs.declared.ending.Ending.TheVariants.{Running}
use Rattle.twin_run.specs.Headline.{SameCells}

-- valid placements of both images at a width
pub record ArePlaced (w : ℕ) (world : PairWorld) (P : Both Placement) : Type 0 where
  pub a : IsPlacement w world.a P.a
  pub b : IsPlacement w world.b P.b

-- The runs after so many steps, at 4 bytes an address under placements and at 8 under others: they are the same; while they go on, both
-- images' objects have the same cells; and they raised nothing but a division by zero. As they are the same, both raised it.
pub record SamePairAfter (images : Both Image) (world : PairWorld) (P Q : Both Placement) (k : ℕ) : Type 0 where
  pub same : SamePair world P (pair_run 4 world P images k) Q (pair_run 8 world Q images k)
  pub cells : (pair_run 4 world P images k).ending ≡ Running
      → SameCells world.a P.a (pair_run 4 world P images k).a Q.a (pair_run 8 world Q images k).a
      × SameCells world.b P.b (pair_run 4 world P images k).b Q.b (pair_run 8 world Q images k).b
  pub raised : RaisesOnlyDivideError (pair_run 4 world P images k).ending
