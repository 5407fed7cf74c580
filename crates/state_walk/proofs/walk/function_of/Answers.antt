use Rattle.std.proofs.Common.{◌≡◌, ℕ, ◌<◌, ◌≤◌, get_or, sym, subst}
use Rattle.std.specs.Prelude.{Some, slice_get}
use Rattle.note_types.specs.declared.notes.FnNote.{FnNote}
use Rattle.note_types.specs.declared.notes.Notes.{Notes}
use Rattle.state_walk.proofs.Standing.{found}
use Rattle.state_walk.proofs.walk.function_of.Goals as goal

pub returns-clause-walk : goal.returns-clause-walk
returns-clause-walk c =
    let n : Notes = c.args.notes.now in
    let k : ℕ = c.in_ok-number.number in
    let f : FnNote = c.index-as_slice-number.result in
    let at = c.in_ok-number.ensures in
    let is : f ≡ get_or n.function k f = subst (λ xs. f ≡ get_or xs k f) c.as_slice.ensures c.index-as_slice-number.is in
    let there : slice_get n.function k ≡ Some f =
    subst (λ g. slice_get n.function k ≡ Some g) (sym (found n.function k f at.0 at.1 is)) at.1 in
    record {
      sound = c.requires.image;
      read = c.requires.notes;
      there = there;
      holds = c.in-Ok.ensures.holds k f there;
      end = (c.requires.notes.functions k f there).end;
    }

pub returns-clause-place : goal.returns-clause-place
returns-clause-place c =
    let n : Notes = c.args.notes.now in
    let k : ℕ = c.in_ok-number.number in
    let f : FnNote = c.index-as_slice-number.result in
    let at = c.in_ok-number.ensures in
    let is : f ≡ get_or n.function k f = subst (λ xs. f ≡ get_or xs k f) c.as_slice.ensures c.index-as_slice-number.is in
    let same : at.0 ≡ f = sym (found n.function k f at.0 at.1 is) in (
      subst (λ (g : FnNote). g.place ≤ c.args.place) same at.2,
      subst (λ (g : FnNote). c.args.place < g.end) same at.3,
    )
