-- For proofs: the headline for two images on one host: the runs of a pair of typed images whose binds agree are the same at both
-- widths. docs/PAIRS.md, "Laws".
use Rattle.std.specs.Prelude.{ℕ}
use Rattle.host_model.specs.Placements.{Placement}
use Rattle.pair_laws.specs.SamePairs.{ArePlaced, SamePairAfter}
use Rattle.pair_model.specs.Binds.{AllAgree}
use Rattle.pair_model.specs.PairReports.{own_placements}
use Rattle.pair_model.specs.Pairs.{Both, PairWorld}
use Rattle.pe_image.specs.declared.image.Image.{Image}
use Rattle.twin_run.specs.TypedRuns.{IsTypedWorld}

-- The world of a pair's run of what was read, where each image is typed under its notes and each bind agrees. Nothing is asked of the
-- scripts but that they were read.
pub record IsTypedPair (images : Both Image) (world : PairWorld) : Type 0 where
  pub a : IsTypedWorld images.a world.a
  pub b : IsTypedWorld images.b world.b
  pub binds : AllAgree world.a.notes world.b.notes world.binds

-- The runs at both widths are the same after every number of steps, each under valid placements of its own, and raise nothing but a
-- division by zero.
abbrev pub TypedPairsAreSame : Type 0
TypedPairsAreSame =
    (images : Both Image) (world : PairWorld) (P Q : Both Placement) (k : ℕ) → IsTypedPair images world → ArePlaced 4 world P
    → ArePlaced 8 world Q → SamePairAfter images world P Q k

-- So they are under the placements that this project takes.
abbrev pub OwnTypedPairsAreSame : Type 0
OwnTypedPairsAreSame =
    (images : Both Image) (world : PairWorld) (k : ℕ) → IsTypedPair images world
    → SamePairAfter images world (own_placements 4 world) (own_placements 8 world) k
