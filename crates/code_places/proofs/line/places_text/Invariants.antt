use Rattle.std.proofs.Common.{◌≡◌, take, string_bytes}
use Rattle.std.specs.List.{flat_map}
use Rattle.code_places.specs.Places.{place_line}
use Rattle.code_places.proofs.line.places_text.Given as goal

abbrev pub invariant-loop-item : goal.invariant-loop-item
invariant-loop-item l = record {
  text : string_bytes l.out ≡ flat_map (place_line l.image) (take l.item-index l.item-items);
}
