use Rattle.note_filling.proofs.Common.{◌≡◌, ℕ, codes, inl, inr, refl, Data, Members, table_view, put_missing_member, IsExtended}
use Rattle.std.specs.{Option.unwrap_or, Prelude.slice_get}
use Rattle.note_filling.specs.{Kept.left_out, Members.MayBePut, Members.number_value, Members.pair_value, Views.with_found}
use Rattle.note_filling.specs.declared.context.Found.{Found}
use Rattle.note_filling.proofs.MemberLaws.{extended-by, extended-twice}
use Rattle.note_draft.specs.declared.finding.TableList.TheVariants as lists
use Rattle.note_filling.proofs.functions.fill_left.Goals as goal

-- what is found is put at keys that may be left out
found_extends : (found : Found) (number : ℕ) (old new : Members) → new ≡ with_found found number old
    → IsExtended (left_out lists.Function) old new
unfolding MayBePut
found_extends found number old new is =
    let level : Data = number_value (unwrap_or (slice_get found.levels.now number) 0) in
    let need : Data = pair_value (unwrap_or (slice_get found.needs.now number) (record { n = 0; c = 0 })) in
    let mid : Members = put_missing_member (codes "level") level old in
    extended-twice (left_out lists.Function) old mid new
    (extended-by (left_out lists.Function) (codes "level") level old mid refl (inr (inr (inl (refl, tt)))))
    (extended-by (left_out lists.Function) (codes "need") need mid new is (inr (inr (inr (inl (refl, tt))))))

pub returns : goal.returns
returns c =
    extended-twice (left_out lists.Function) (table_view c.args.row.now) (table_view c.put_left_end.new.row)
    (table_view c.put_interface.new.row) c.in_ok-put_left_end.ensures
    (extended-twice (left_out lists.Function) (table_view c.put_left_end.new.row) (table_view c.put_found.new.row)
    (table_view c.put_interface.new.row)
    (found_extends c.args.rows.found c.args.item (table_view c.put_left_end.new.row) (table_view c.put_found.new.row)
    c.in_ok-put_found.ensures)
    c.in_ok-put_interface.ensures)
