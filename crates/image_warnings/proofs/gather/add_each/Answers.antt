use Rattle.std.proofs.Common.{◌≡◌, List, subst}
use Rattle.std.specs.Prelude.{Some, slice_get}
use Rattle.note_types.specs.declared.notes.FnNote.{FnNote}
use Rattle.rules_image.proofs.Firsts.{item_there}
use Rattle.image_warnings.proofs.gather.add_each.Goals as goal

pub add_function-requires-clause-walk : goal.add_function-requires-clause-walk
add_function-requires-clause-walk c =
    let f : FnNote = c.index-functions-func.result in
    let there : slice_get c.args.notes.now.function c.loop-func.func ≡ Some f =
    subst (λ (fs : List FnNote). slice_get fs c.loop-func.func ≡ Some f) c.requires.functions
    (item_there (λ k (g : FnNote). Unit {0}) c.args.functions.now c.loop-func.func f c.loop-func-test.true c.index-functions-func.is) in
    record {
      sound = c.requires.image;
      read = c.requires.notes;
      there = there;
      holds = c.requires.typed.tables.functions c.loop-func.func f there;
      end = (c.requires.notes.functions c.loop-func.func f there).end;
    }
