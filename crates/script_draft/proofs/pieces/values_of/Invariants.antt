use Rattle.script_draft.proofs.Common.{◌≡◌, length, all_of, pieces, values_of, value_of}
use denote.Text.{Utf8}
use denote.Shadow.{shadow}
use Rattle.script_draft.proofs.ListLaws.{onto}
use Rattle.script_draft.proofs.pieces.values_of.Given as goal

abbrev pub invariant-loop-first : goal.invariant-loop-first
invariant-loop-first l = shadow (Utf8 l.rest) × (onto l.values.items (all_of value_of (pieces l.rest)) ≡ values_of l.text)

abbrev pub decreases-loop-first : goal.decreases-loop-first
decreases-loop-first l = length l.rest
