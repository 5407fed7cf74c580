-- For proofs: the lines of the warnings of an image. docs/FIRMWARE.md, "Warnings".
use Rattle.std.specs.Prelude.{ℕ, List, ◌++◌, codes}
use Rattle.std.specs.List.{flat_map}
use Rattle.departures.specs.declared.kind.Kind.{Kind}
use Rattle.departures.specs.declared.kind.Kind.TheVariants as kinds
use Rattle.image_warnings.specs.declared.warning.Warning.{Warning}
use Rattle.printed_texts.specs.RunTexts.{place_text}

-- a kind by its name
abbrev pub kind_name : Kind → List ℕ
kind_name kinds.Status = codes "status"
kind_name kinds.Narrow = codes "narrow"
kind_name kinds.Popn = codes "popn"
kind_name kinds.Divide = codes "divide"
kind_name kinds.Shift = codes "shift"
kind_name kinds.Compare = codes "compare"
kind_name kinds.Break = codes "break"
kind_name kinds.Unwritten = codes "unwritten"
kind_name kinds.Far = codes "far"
kind_name kinds.Odd = codes "odd"
kind_name kinds.Frame = codes "frame"
kind_name kinds.String = codes "string"

-- the line of a warning
unfoldable pub warning_line : Warning → List ℕ
warning_line w = codes "warning " ++ (place_text w.place ++ (codes " " ++ (kind_name w.kind ++ codes "\n")))

-- the lines of warnings
abbrev pub warning_lines : List Warning → List ℕ
warning_lines warnings = flat_map warning_line warnings
