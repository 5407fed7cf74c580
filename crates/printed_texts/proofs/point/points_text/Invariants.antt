use Rattle.std.proofs.Common.{◌≡◌, take, string_bytes}
use Rattle.std.specs.List.{flat_map}
use Rattle.printed_texts.specs.PrintedStates.{point_text}
use Rattle.printed_texts.proofs.point.points_text.Given as goal

abbrev pub invariant-loop-point : goal.invariant-loop-point
invariant-loop-point l = string_bytes l.text ≡ flat_map (point_text l.notes) (take l.point-index l.points)
