use Rattle.std.proofs.Common.{◌≡◌, ◌∷◌, take}
use Rattle.std.specs.List.{filter_map}
use Rattle.ebc_disasm.specs.Listings.{named}
use Rattle.ebc_disasm.proofs.places.labelled.Given as goal

abbrev pub invariant-loop-place : goal.invariant-loop-place
invariant-loop-place l = l.places.items ≡ l.image.entry ∷ filter_map (named l.image) (take l.place-index l.relocs)
