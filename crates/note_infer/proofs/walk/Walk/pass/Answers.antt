use Rattle.note_infer.proofs.Common.{◌≡◌, ℕ, List, Ok, refl, subst, sym, arith, Insn, FnNote, Notes, State, Image, PointHolds}
use Rattle.note_infer.proofs.Common.{RelocationHolds, reloc_at, spelled_at, here_at, row_of, decode_later, States, marked, state_at}
use Rattle.std.proofs.lemmas.Result.{err_from_is_err_and}
use Rattle.note_infer.proofs.Common.{ClashesAt, FailsIn, IsFirst, OnFalse_at, OnTrue_at, Successors, given}
use Rattle.note_infer.proofs.StatesAt.{clash_at}
use Rattle.note_types.specs.declared.rule.RuleName.TheVariants as rule
use Rattle.note_infer.specs.Turns.{after_turn}
use Rattle.note_infer.proofs.Failing.{clashes, falls_out, not_relocated, point_inside, row_fails}
use Rattle.note_infer.proofs.Passing.{clash_in, no_clash_in, other_read, range_of, row_here}
use Rattle.note_infer.proofs.walk.Walk.pass.Goals.{In_ok-turn}
use Rattle.note_infer.proofs.walk.Walk.pass.Goals as goal

pub has_no_point-requires-clause-ascend : goal.has_no_point-requires-clause-ascend
has_no_point-requires-clause-ascend c =
    (other_read c.args.self.now.image.now c.args.self.now.notes.now c.args.self.now.marked.now c.args.self.now.leaders.now
    c.requires.setting).ascends

pub has_no_point-requires-clause-later : goal.has_no_point-requires-clause-later
has_no_point-requires-clause-later c =
    decode_later c.args.self.now.image.now c.args.self.now.f.now c.args.at c.args.next c.args.insn.now c.requires.decode

pub returns-then-not-has_no_point-clause-fails : goal.returns-then-not-has_no_point-clause-fails
returns-then-not-has_no_point-clause-fails c =
    let image : Image = c.args.self.now.image.now in
    let notes : Notes = c.args.self.now.notes.now in
    let leaders : List ℕ = c.args.self.now.leaders.now in
    let f : FnNote = c.args.self.now.f.now in
    let k : ℕ = c.args.self.now.func in
    let i : Insn = c.args.insn.now in
    let s : State = c.args.state.now in
    let g = c.requires.setting in
    let d = c.requires.decode in
    let states : States = state_at leaders c.args.coming.now.before.items in
    let come : States = state_at leaders c.args.coming.now.states.items in
    point_inside image notes leaders states k f c.args.at s i c.args.next d
    (λ h. let yes = c.has_no_point.ensures.1 (subst (λ m. PointHolds m c.args.at c.args.next) (sym g.marks) h) in
    let is = c.if-not-has_no_point.true in cc)

pub relocation-requires-clause-later : goal.relocation-requires-clause-later
relocation-requires-clause-later c =
    decode_later c.args.self.now.image.now c.args.self.now.f.now c.args.at c.args.next c.args.insn.now c.requires.decode

pub returns-in_default-clause-fails : goal.returns-in_default-clause-fails
returns-in_default-clause-fails c =
    let image : Image = c.args.self.now.image.now in
    let notes : Notes = c.args.self.now.notes.now in
    let leaders : List ℕ = c.args.self.now.leaders.now in
    let f : FnNote = c.args.self.now.f.now in
    let k : ℕ = c.args.self.now.func in
    let i : Insn = c.args.insn.now in
    let s : State = c.args.state.now in
    let g = c.requires.setting in
    let d = c.requires.decode in
    let states : States = state_at leaders c.args.coming.now.before.items in
    let come : States = state_at leaders c.args.coming.now.states.items in
    let point : PointHolds (marked notes leaders) c.args.at c.args.next =
    subst (λ m. PointHolds m c.args.at c.args.next) g.marks (c.has_no_point.ensures.0 c.if-not-has_no_point.false) in
    not_relocated image notes leaders states k f c.args.at s i c.args.next d point c.in_default.ensures.fails

pub turn_of-requires-clause-ascend : goal.turn_of-requires-clause-ascend
turn_of-requires-clause-ascend c =
    (other_read c.args.self.now.image.now c.args.self.now.notes.now c.args.self.now.marked.now c.args.self.now.leaders.now
    c.requires.setting).ascends

pub turn_of-requires-clause-well_formed : goal.turn_of-requires-clause-well_formed
turn_of-requires-clause-well_formed c =
    (spelled_at c.args.self.now.image.now c.args.self.now.f.now c.args.at c.args.next c.args.insn.now c.requires.decode).well_formed

pub returns-in_err-turn-clause-fails : goal.returns-in_err-turn-clause-fails
returns-in_err-turn-clause-fails c =
    let image : Image = c.args.self.now.image.now in
    let notes : Notes = c.args.self.now.notes.now in
    let leaders : List ℕ = c.args.self.now.leaders.now in
    let f : FnNote = c.args.self.now.f.now in
    let k : ℕ = c.args.self.now.func in
    let i : Insn = c.args.insn.now in
    let s : State = c.args.state.now in
    let g = c.requires.setting in
    let d = c.requires.decode in
    let states : States = state_at leaders c.args.coming.now.before.items in
    let come : States = state_at leaders c.args.coming.now.states.items in
    let point : PointHolds (marked notes leaders) c.args.at c.args.next =
    subst (λ m. PointHolds m c.args.at c.args.next) g.marks (c.has_no_point.ensures.0 c.if-not-has_no_point.false) in
    let reloc : RelocationHolds image notes c.args.at i c.args.next (reloc_at image c.args.next) =
    subst (RelocationHolds image notes c.args.at i c.args.next) c.in-Ok.ensures.holds.0 c.in-Ok.ensures.holds.1 in
    let p = err_from_is_err_and c.from_residual.result c.from_residual.ensures.1 in
    rw (p.1, p.2)
    (row_fails image notes leaders states k f c.args.at s i c.args.next d point reloc _
    (row_here image notes c.args.self.now.marked.now leaders k c.args.at c.args.next c.in-Ok.reloc s i _ g.marks c.in-Ok.ensures.holds.0
    c.in_err-turn.ensures.goes))

-- the row was gone through: no leader is inside the instruction, and its relocation is allowed
point_holds : (c : In_ok-turn) → PointHolds (marked c.args.self.now.notes.now c.args.self.now.leaders.now) c.args.at c.args.next
point_holds c =
    subst (λ m. PointHolds m c.args.at c.args.next) c.requires.setting.marks (c.has_no_point.ensures.0 c.if-not-has_no_point.false)

reloc_holds : (c : In_ok-turn) → RelocationHolds c.args.self.now.image.now c.args.self.now.notes.now c.args.at c.args.insn.now
    c.args.next (reloc_at c.args.self.now.image.now c.args.next)
reloc_holds c =
    subst (RelocationHolds c.args.self.now.image.now c.args.self.now.notes.now c.args.at c.args.insn.now c.args.next)
    c.in-Ok.ensures.holds.0 c.in-Ok.ensures.holds.1

row_is : (c : In_ok-turn) → row_of (marked c.args.self.now.notes.now c.args.self.now.leaders.now)
    (here_at c.args.self.now.image.now c.args.self.now.func c.args.at c.args.next) c.args.state.now c.args.insn.now
    ≡ Ok (after_turn c.args.state.now c.in_ok-turn.turn)
row_is c =
    row_here c.args.self.now.image.now c.args.self.now.notes.now c.args.self.now.marked.now c.args.self.now.leaders.now
    c.args.self.now.func c.args.at c.args.next c.in-Ok.reloc c.args.state.now c.args.insn.now
    (Ok (after_turn c.args.state.now c.in_ok-turn.turn))
    c.requires.setting.marks c.in-Ok.ensures.holds.0 c.in_ok-turn.ensures.goes

-- what the instruction does
abbrev turn_is : In_ok-turn → Successors
turn_is c = after_turn c.args.state.now c.in_ok-turn.turn

-- what it gives clashes
clash_fails : (c : In_ok-turn) → ClashesAt c.args.self.now.leaders.now c.args.self.now.f.now (λ (l : ℕ). given l c.args.next (turn_is c))
    (state_at c.args.self.now.leaders.now c.args.coming.now.states.items) → IsFirst (FailsIn c.args.self.now.image.now
    c.args.self.now.notes.now c.args.self.now.leaders.now (state_at c.args.self.now.leaders.now c.args.coming.now.before.items)
    c.args.self.now.func c.args.self.now.f.now c.args.at c.args.state.now) rule.Below
clash_fails c clash =
    let image : Image = c.args.self.now.image.now in
    let notes : Notes = c.args.self.now.notes.now in
    let leaders : List ℕ = c.args.self.now.leaders.now in
    clashes image notes leaders (state_at leaders c.args.coming.now.before.items) c.args.self.now.func c.args.self.now.f.now c.args.at
    c.args.state.now c.args.insn.now c.args.next c.requires.decode (point_holds c) (reloc_holds c) (turn_is c) (row_is c)
    (clash_in image notes leaders (state_at leaders c.args.coming.now.before.items) (state_at leaders c.args.coming.now.states.items)
    c.args.self.now.func c.args.self.now.f.now c.args.at c.args.next (turn_is c) c.requires.there
    (omega (arith, c.requires.within)) c.requires.reached clash)

pub returns-in-Err-Clashes-clause-fails : goal.returns-in-Err-Clashes-clause-fails
returns-in-Err-Clashes-clause-fails c =
    clash_fails ((goal.at.returns-in-Err-Clashes-clause-fails c).In_ok-turn)
    (clash_at c.in-Err-Clashes.field-0 c.in-Err-Clashes.field-0-is c.in-Err-Clashes.ensures.clash)

pub returns-then-branch-clause-fails : goal.returns-then-branch-clause-fails
returns-then-branch-clause-fails c =
    clash_fails ((goal.at.returns-then-branch-clause-fails c).In_ok-turn) (OnTrue_at c.if-branch.true c.in_ok-does_clash.ensures.clash)

pub returns-then-not-ends_within-clause-fails : goal.returns-then-not-ends_within-clause-fails
returns-then-not-ends_within-clause-fails c =
    let h = (goal.at.returns-then-not-ends_within-clause-fails c).In_ok-turn in
    let image : Image = c.args.self.now.image.now in
    let notes : Notes = c.args.self.now.notes.now in
    let leaders : List ℕ = c.args.self.now.leaders.now in
    let f : FnNote = c.args.self.now.f.now in
    let taken = OnFalse_at c.if-branch.false c.in_ok-does_clash.ensures.taken in
    falls_out image notes leaders (state_at leaders c.args.coming.now.before.items) c.args.self.now.func f c.args.at
    c.args.state.now c.args.insn.now c.args.next c.requires.decode (point_holds h) (reloc_holds h) (turn_is h) (row_is h)
    (no_clash_in image notes leaders (state_at leaders c.args.coming.now.before.items) (state_at leaders c.args.coming.now.states.items)
    taken.0 c.args.self.now.func f c.args.at c.args.next (turn_is h) c.requires.there
    (range_of image notes c.args.self.now.marked.now leaders c.requires.setting c.args.self.now.func f c.requires.there)
    (omega (arith, c.requires.within)) c.requires.reached taken.1)
    (λ x. let yes = c.ends_within.ensures.1 x in let is = c.if-not-ends_within.true in cc)

pub returns-in-Ok-take_turn-clause-passes : goal.returns-in-Ok-take_turn-clause-passes
returns-in-Ok-take_turn-clause-passes c =
    let h = (goal.at.returns-in-Ok-take_turn-clause-passes c).In_ok-turn in
    record {
      decode = c.requires.decode;
      point = point_holds h;
      relocation = reloc_holds h;
      x = turn_is h;
      row = row_is h;
      takes = c.in-Ok-take_turn.ensures.taken;
      ends = c.ends_within.ensures.0 c.if-not-ends_within.false;
      fall_is = c.in-Ok-take_turn.ensures.falls;
    }
