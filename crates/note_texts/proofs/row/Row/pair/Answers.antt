use Rattle.std.proofs.Common.{rules, ◌≡◌, ◌<◌, ◌≤◌, length, None, arith}
use Rattle.toml.specs.View.{items_view}
use Rattle.note_texts.specs.Keys.{pair_at, two_items}
use Rattle.note_texts.proofs.Counts.{two_items-fewer, two_items-more}
use Rattle.note_texts.proofs.row.Row.pair.Goals as goal
use Rattle.note_texts.proofs.row.Row.pair.Goals.{in_default-as_slice-via-then-as_slice-lt2}
use Rattle.note_texts.proofs.row.Row.pair.Goals.{in_default-as_slice-via-else-as_slice-lt2+else-this-lt3}

pub returns-in_default-as_slice-clause-pair : goal.returns-in_default-as_slice-clause-pair
unfolding pair_at
returns-in_default-as_slice-clause-pair c =
    let none : two_items (items_view c.as_slice.result.now) ≡ None = elim c.in_default-as_slice.branch [
      | in_default-as_slice-via-then-as_slice-lt2 w ↦ let few : length c.as_slice.result.now < 2 = search rules in
          two_items-fewer c.as_slice.result.now few
      | in_default-as_slice-via-else-as_slice-lt2+else-this-lt3 w ↦ let many : 3 ≤ length c.as_slice.result.now = search rules in
          two_items-more c.as_slice.result.now (omega arith)
    ] in
    let h = rw c.as_slice.ensures.value at none in
    grind (arith, h)
