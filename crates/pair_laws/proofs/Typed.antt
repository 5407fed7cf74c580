-- A typed image has the states that the laws of a pair ask for, and the placements that this project takes are valid.
use Rattle.pair_laws.proofs.Common.{ℕ, refl, inl, inr, IsWidth, World, TypedPair, TypedSide, ArePlaced, Both, PairWorld, Image, IsTypedPair}
use Rattle.pair_laws.proofs.Following.{pair_is_same}
use Rattle.pair_model.specs.PairReports.{own_placements}
use Rattle.twin_run.proofs.{Places.typed_states, Read.read_is_placed, Read.typed_is_read}
use Rattle.twin_run.specs.{StatesOf.states_of, TypedRuns.IsTypedWorld}
use Rattle.pair_laws.specs.TypedPairs.{OwnTypedPairsAreSame, TypedPairsAreSame}

side_is_typed : (image : Image) (world : World) → IsTypedWorld image world → TypedSide image world (states_of image world.notes)
side_is_typed image world t = record { read = typed_is_read image world t; rules = typed_states image world t.notes t.typed }

pair_is_typed : (images : Both Image) (world : PairWorld) → IsTypedPair images world
    → TypedPair images world (states_of images.a world.a.notes) (states_of images.b world.b.notes)
pair_is_typed images world t = record {
  a = side_is_typed images.a world.a t.a;
  b = side_is_typed images.b world.b t.b;
  binds = t.binds;
}

pub typed_pairs_are_same : TypedPairsAreSame
typed_pairs_are_same images world P Q k t p q =
    pair_is_same images world (states_of images.a world.a.notes) (states_of images.b world.b.notes) (pair_is_typed images world t) P Q k p q

own_are_placed : (w : ℕ) (images : Both Image) (world : PairWorld) → IsWidth w → IsTypedPair images world
    → ArePlaced w world (own_placements w world)
own_are_placed w images world h t = record {
  a = read_is_placed w images.a world.a h (typed_is_read images.a world.a t.a);
  b = read_is_placed w images.b world.b h (typed_is_read images.b world.b t.b);
}

pub own_typed_pairs_are_same : OwnTypedPairsAreSame
own_typed_pairs_are_same images world k t =
    typed_pairs_are_same images world (own_placements 4 world) (own_placements 8 world) k t (own_are_placed 4 images world (inl refl) t)
    (own_are_placed 8 images world (inr refl) t)
