use Rattle.native_host.proofs.Common.{◌≡◌, ℕ, drop, Notes, pointer_from, IsOf, placement_of}
use Rattle.native_host.proofs.places.Places.pointer_read.Given as goal

abbrev pub invariant-loop-k : goal.invariant-loop-k
invariant-loop-k l = (w : ℕ) (notes : Notes) → IsOf w notes l.self
    → pointer_from w notes (placement_of l.self) l.k (drop l.k l.made) l.x ≡ pointer_from w notes (placement_of l.self) 0 l.made l.x
