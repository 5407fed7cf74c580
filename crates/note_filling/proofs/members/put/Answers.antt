use Rattle.note_filling.proofs.Common.{ap, ◌∙◌, members_view, table_view, view, put_member}
use Rattle.note_filling.proofs.MemberLaws.{view-insert}
use Rattle.note_filling.proofs.members.put.Goals as goal

pub returns : goal.returns
returns c =
    ap members_view c.in_ok-insert.ensures.entries
    ∙ (view-insert c.args.table.now.entries c.in_ok-key.key c.args.value
    ∙ ap (λ name. put_member name (view c.args.value) (table_view c.args.table.now)) c.in_ok-key.ensures.ok)
