use Rattle.note_filling.proofs.Common.{◌≡◌, ◌≤◌, ◌++◌, List, take, items_depth, members_depth, items_view, members_view, Entry}
use Rattle.note_filling.proofs.depth.+depth.Given as goal

abbrev pub invariant-items_fit-loop-item : goal.invariant-items_fit-loop-item
invariant-items_fit-loop-item l = items_depth (items_view (take l.item-index l.item-items)) ≤ l.limit

abbrev pub invariant-members_fit-loop-key : goal.invariant-members_fit-loop-key
invariant-members_fit-loop-key l =
    (done : List Entry) × (l.members.entries ≡ done ++ l.key-iterator) × (members_depth (members_view done) ≤ l.limit)
