use Rattle.width_checker.proofs.Common.{◌≡◌, refl, sym, subst, Ok, Insn, FnNote, Notes, State, Image, PointHolds, RelocationHolds, reloc_at}
use Rattle.width_checker.proofs.Common.{Successors, successors_from, StateAt, here_at, row_of, BelowHolds, EntryBelow, MeetsRules, ComesTo}
use Rattle.width_checker.proofs.Common.{RelocsFrom, only_if}
use Rattle.std.proofs.lemmas.Result.{err_from_is_err_and}
use Rattle.width_checker.proofs.Walking.{come_false, come_true, comes_next, entry_below, entry_not_below, here_is, none_there, row_err}
use Rattle.width_checker.proofs.Failing.{falls_out, no_state, not_below, not_relocated, point_inside, row_fails}
use Rattle.width_checker.proofs.walk.Walk.pass.Goals.{else-at-self-via-else-at-self, else-at-self-via-then-at-self+else-not-arrived_below}
use Rattle.width_checker.proofs.{Leading.decode_later, Points.one_point, Points.points_next, Walking.row_ok, Walking.state_there}
use Rattle.rules_image.proofs.{Decoding.spelled_at, Relocs.ends_with}
use Rattle.width_checker.proofs.walk.Walk.pass.Goals as goal

pub returns-then-not-marks-clause-fails : goal.returns-then-not-marks-clause-fails
returns-then-not-marks-clause-fails c =
    let image : Image = c.args.self.now.image.now in
    let n : Notes = c.args.self.now.notes.now in
    let f : FnNote = c.args.self.now.f.now in
    let i : Insn = c.args.insn.now in
    let up = c.requires.notes.ascends in
    let one = one_point n up in
    let stands = c.requires.stands in
    let comes = stands.comes c.requires.within in
    no_state image n c.args.self.now.func f c.args.at i c.args.next c.requires.decode
    (none_there image n c.args.self.now.func f c.args.at _ _ comes c.arrive-arrived_below.ensures.arrives one
    (come_false _ c.arrive-arrived_below.new.state c.if-not-marks.true))

pub returns-then-not-has_no_point-clause-fails : goal.returns-then-not-has_no_point-clause-fails
returns-then-not-has_no_point-clause-fails c =
    let image : Image = c.args.self.now.image.now in
    let n : Notes = c.args.self.now.notes.now in
    let f : FnNote = c.args.self.now.f.now in
    let i : Insn = c.args.insn.now in
    let up = c.requires.notes.ascends in
    let one = one_point n up in
    let stands = c.requires.stands in
    let comes = stands.comes c.requires.within in
    let s : State = c.arrive-arrived_below.new.state in
    let there : StateAt image n c.args.self.now.func f c.args.at s =
    state_there image n c.args.self.now.func f c.args.at _ _ comes c.arrive-arrived_below.ensures.arrives s
    (come_true _ s c.if-not-marks.false) in
    point_inside image n c.args.self.now.func f c.args.at i c.args.next c.requires.decode s there one
    (λ h. let yes = c.has_no_point.ensures.1 h in let is = c.if-not-has_no_point.true in cc)

pub relocation-requires-clause-later : goal.relocation-requires-clause-later
relocation-requires-clause-later c =
    decode_later c.args.self.now.image.now c.args.self.now.f.now c.args.at c.args.next c.args.insn.now c.requires.decode

pub returns-in_default-clause-fails : goal.returns-in_default-clause-fails
returns-in_default-clause-fails c =
    let image : Image = c.args.self.now.image.now in
    let n : Notes = c.args.self.now.notes.now in
    let f : FnNote = c.args.self.now.f.now in
    let i : Insn = c.args.insn.now in
    let up = c.requires.notes.ascends in
    let one = one_point n up in
    let stands = c.requires.stands in
    let comes = stands.comes c.requires.within in
    let s : State = c.arrive-arrived_below.new.state in
    let there : StateAt image n c.args.self.now.func f c.args.at s =
    state_there image n c.args.self.now.func f c.args.at _ _ comes c.arrive-arrived_below.ensures.arrives s
    (come_true _ s c.if-not-marks.false) in
    let point : PointHolds n c.args.at c.args.next = c.has_no_point.ensures.0 c.if-not-has_no_point.false in
    not_relocated image n c.args.self.now.func f c.args.at i c.args.next c.requires.decode s there one point c.in_default.ensures.fails

pub advance-requires-clause-well_formed : goal.advance-requires-clause-well_formed
advance-requires-clause-well_formed c =
    (spelled_at c.args.self.now.image.now c.args.self.now.f.now c.args.at c.args.next c.args.insn.now c.requires.decode).well_formed

pub returns-in_err-path-clause-fails : goal.returns-in_err-path-clause-fails
returns-in_err-path-clause-fails c =
    let image : Image = c.args.self.now.image.now in
    let n : Notes = c.args.self.now.notes.now in
    let f : FnNote = c.args.self.now.f.now in
    let i : Insn = c.args.insn.now in
    let up = c.requires.notes.ascends in
    let one = one_point n up in
    let stands = c.requires.stands in
    let comes = stands.comes c.requires.within in
    let s : State = c.arrive-arrived_below.new.state in
    let there : StateAt image n c.args.self.now.func f c.args.at s =
    state_there image n c.args.self.now.func f c.args.at _ _ comes c.arrive-arrived_below.ensures.arrives s
    (come_true _ s c.if-not-marks.false) in
    let point : PointHolds n c.args.at c.args.next = c.has_no_point.ensures.0 c.if-not-has_no_point.false in
    let reloc : RelocationHolds image n c.args.at i c.args.next (reloc_at image c.args.next) =
    subst (RelocationHolds image n c.args.at i c.args.next) c.in-Ok.ensures.holds.0 c.in-Ok.ensures.holds.1 in
    let here = here_is image c.args.self.now.func c.args.at c.args.next _ c.in-Ok.ensures.holds.0 in
    let p = err_from_is_err_and c.from_residual.result c.from_residual.ensures.1 in
    rw (p.1, p.2) (row_fails image n c.args.self.now.func f c.args.at i c.args.next c.requires.decode s there one point reloc _
    (row_err n _ _ s c.advance.new.s c.advance.new.taken i _ here c.in_err-path.ensures))

pub returns-then-not-arrived_below-clause-fails : goal.returns-then-not-arrived_below-clause-fails
returns-then-not-arrived_below-clause-fails c =
    let image : Image = c.args.self.now.image.now in
    let n : Notes = c.args.self.now.notes.now in
    let f : FnNote = c.args.self.now.f.now in
    let i : Insn = c.args.insn.now in
    let up = c.requires.notes.ascends in
    let one = one_point n up in
    let stands = c.requires.stands in
    let comes = stands.comes c.requires.within in
    let s : State = c.arrive-arrived_below.new.state in
    let there : StateAt image n c.args.self.now.func f c.args.at s =
    state_there image n c.args.self.now.func f c.args.at _ _ comes c.arrive-arrived_below.ensures.arrives s
    (come_true _ s c.if-not-marks.false) in
    let point : PointHolds n c.args.at c.args.next = c.has_no_point.ensures.0 c.if-not-has_no_point.false in
    let reloc : RelocationHolds image n c.args.at i c.args.next (reloc_at image c.args.next) =
    subst (RelocationHolds image n c.args.at i c.args.next) c.in-Ok.ensures.holds.0 c.in-Ok.ensures.holds.1 in
    let here = here_is image c.args.self.now.func c.args.at c.args.next _ c.in-Ok.ensures.holds.0 in
    let x : Successors = successors_from c.advance.new.s c.advance.new.taken c.in_ok-path.path in
    let row : row_of n (here_at image c.args.self.now.func c.args.at c.args.next) s i ≡ Ok x =
    row_ok n _ _ s c.advance.new.s c.advance.new.taken i c.in_ok-path.path here c.in_ok-path.ensures in
    not_below image n c.args.self.now.func f c.args.at i c.args.next c.requires.decode s there one point reloc x row
    (entry_not_below image n c.args.self.now.func f c.args.at c.args.next x c.args.marks.now.falls c.args.state.now comes c.if-at-self.true
    (λ h. let yes = c.arrive-arrived_below.ensures.below.1 h in let is = c.if-not-arrived_below.true in cc))

pub leads_below-requires-clause-points : goal.leads_below-requires-clause-points
leads_below-requires-clause-points c =
    points_next c.args.self.now.notes.now c.requires.notes.ascends c.args.at c.args.next _ c.arrive-arrived_below.ensures.points
    (c.has_no_point.ensures.0 c.if-not-has_no_point.false)
    (decode_later c.args.self.now.image.now c.args.self.now.f.now c.args.at c.args.next c.args.insn.now c.requires.decode)

pub returns-then-not-leads_below-clause-fails : goal.returns-then-not-leads_below-clause-fails
returns-then-not-leads_below-clause-fails c =
    let image : Image = c.args.self.now.image.now in
    let n : Notes = c.args.self.now.notes.now in
    let f : FnNote = c.args.self.now.f.now in
    let i : Insn = c.args.insn.now in
    let up = c.requires.notes.ascends in
    let one = one_point n up in
    let stands = c.requires.stands in
    let comes = stands.comes c.requires.within in
    let s : State = c.arrive-arrived_below.new.state in
    let there : StateAt image n c.args.self.now.func f c.args.at s =
    state_there image n c.args.self.now.func f c.args.at _ _ comes c.arrive-arrived_below.ensures.arrives s
    (come_true _ s c.if-not-marks.false) in
    let point : PointHolds n c.args.at c.args.next = c.has_no_point.ensures.0 c.if-not-has_no_point.false in
    let reloc : RelocationHolds image n c.args.at i c.args.next (reloc_at image c.args.next) =
    subst (RelocationHolds image n c.args.at i c.args.next) c.in-Ok.ensures.holds.0 c.in-Ok.ensures.holds.1 in
    let here = here_is image c.args.self.now.func c.args.at c.args.next _ c.in-Ok.ensures.holds.0 in
    let x : Successors = successors_from c.advance.new.s c.advance.new.taken c.in_ok-path.path in
    let row : row_of n (here_at image c.args.self.now.func c.args.at c.args.next) s i ≡ Ok x =
    row_ok n _ _ s c.advance.new.s c.advance.new.taken i c.in_ok-path.path here c.in_ok-path.ensures in
    not_below image n c.args.self.now.func f c.args.at i c.args.next c.requires.decode s there one point reloc x row
    (λ h. let yes = c.leads_below.ensures.1 h.leads in let is = c.if-not-leads_below.true in cc)

pub returns-then-not-ends_within-clause-fails : goal.returns-then-not-ends_within-clause-fails
returns-then-not-ends_within-clause-fails c =
    let image : Image = c.args.self.now.image.now in
    let n : Notes = c.args.self.now.notes.now in
    let f : FnNote = c.args.self.now.f.now in
    let i : Insn = c.args.insn.now in
    let up = c.requires.notes.ascends in
    let one = one_point n up in
    let stands = c.requires.stands in
    let comes = stands.comes c.requires.within in
    let s : State = c.arrive-arrived_below.new.state in
    let there : StateAt image n c.args.self.now.func f c.args.at s =
    state_there image n c.args.self.now.func f c.args.at _ _ comes c.arrive-arrived_below.ensures.arrives s
    (come_true _ s c.if-not-marks.false) in
    let point : PointHolds n c.args.at c.args.next = c.has_no_point.ensures.0 c.if-not-has_no_point.false in
    let reloc : RelocationHolds image n c.args.at i c.args.next (reloc_at image c.args.next) =
    subst (RelocationHolds image n c.args.at i c.args.next) c.in-Ok.ensures.holds.0 c.in-Ok.ensures.holds.1 in
    let here = here_is image c.args.self.now.func c.args.at c.args.next _ c.in-Ok.ensures.holds.0 in
    let x : Successors = successors_from c.advance.new.s c.advance.new.taken c.in_ok-path.path in
    let row : row_of n (here_at image c.args.self.now.func c.args.at c.args.next) s i ≡ Ok x =
    row_ok n _ _ s c.advance.new.s c.advance.new.taken i c.in_ok-path.path here c.in_ok-path.ensures in
    let entry : EntryBelow n c.args.self.now.func f c.args.at =
    elim c.else-at-self.branch [
      | else-at-self-via-then-at-self+else-not-arrived_below w ↦
          entry_below image n c.args.self.now.func f c.args.at c.args.marks.now.falls c.args.state.now comes
          (c.arrive-arrived_below.ensures.below.0 w.if-not-arrived_below.false)
      | else-at-self-via-else-at-self w ↦ (λ e. absurd (w.if-at-self.false e))
    ] in
    let below : BelowHolds n c.args.self.now.func f c.args.at c.args.next x =
    record { entry = entry; leads = c.leads_below.ensures.0 c.if-not-leads_below.false } in
    falls_out image n c.args.self.now.func f c.args.at i c.args.next c.requires.decode s there one point reloc x row below
    (λ h. let yes = c.ends_within.ensures.1 h in let is = c.if-not-ends_within.true in cc)

pub past-marks-requires-clause-later : goal.past-marks-requires-clause-later
past-marks-requires-clause-later c =
    decode_later c.args.self.now.image.now c.args.self.now.f.now c.args.at c.args.next c.args.insn.now c.requires.decode

pub past-marks-requires-clause-ends : goal.past-marks-requires-clause-ends
past-marks-requires-clause-ends c =
    let image : Image = c.args.self.now.image.now in
    let n : Notes = c.args.self.now.notes.now in
    let f : FnNote = c.args.self.now.f.now in
    let i : Insn = c.args.insn.now in
    let up = c.requires.notes.ascends in
    let one = one_point n up in
    let stands = c.requires.stands in
    let comes = stands.comes c.requires.within in
    let reloc : RelocationHolds image n c.args.at i c.args.next (reloc_at image c.args.next) =
    subst (RelocationHolds image n c.args.at i c.args.next) c.in-Ok.ensures.holds.0 c.in-Ok.ensures.holds.1 in
    let here = here_is image c.args.self.now.func c.args.at c.args.next _ c.in-Ok.ensures.holds.0 in
    let from = subst (RelocsFrom image c.args.at) (sym c.arrive-arrived_below.ensures.reloc) stands.relocs in
    ends_with image c.requires.image c.args.at c.args.next _ from
    (decode_later image f c.args.at c.args.next i c.requires.decode) n i _ reloc

pub returns-clause-passes : goal.returns-clause-passes
returns-clause-passes c =
    let image : Image = c.args.self.now.image.now in
    let n : Notes = c.args.self.now.notes.now in
    let f : FnNote = c.args.self.now.f.now in
    let i : Insn = c.args.insn.now in
    let up = c.requires.notes.ascends in
    let one = one_point n up in
    let stands = c.requires.stands in
    let comes = stands.comes c.requires.within in
    let s : State = c.arrive-arrived_below.new.state in
    let there : StateAt image n c.args.self.now.func f c.args.at s =
    state_there image n c.args.self.now.func f c.args.at _ _ comes c.arrive-arrived_below.ensures.arrives s
    (come_true _ s c.if-not-marks.false) in
    let point : PointHolds n c.args.at c.args.next = c.has_no_point.ensures.0 c.if-not-has_no_point.false in
    let reloc : RelocationHolds image n c.args.at i c.args.next (reloc_at image c.args.next) =
    subst (RelocationHolds image n c.args.at i c.args.next) c.in-Ok.ensures.holds.0 c.in-Ok.ensures.holds.1 in
    let here = here_is image c.args.self.now.func c.args.at c.args.next _ c.in-Ok.ensures.holds.0 in
    let x : Successors = successors_from c.advance.new.s c.advance.new.taken c.in_ok-path.path in
    let row : row_of n (here_at image c.args.self.now.func c.args.at c.args.next) s i ≡ Ok x =
    row_ok n _ _ s c.advance.new.s c.advance.new.taken i c.in_ok-path.path here c.in_ok-path.ensures in
    let entry : EntryBelow n c.args.self.now.func f c.args.at =
    elim c.else-at-self.branch [
      | else-at-self-via-then-at-self+else-not-arrived_below w ↦
          entry_below image n c.args.self.now.func f c.args.at c.args.marks.now.falls c.args.state.now comes
          (c.arrive-arrived_below.ensures.below.0 w.if-not-arrived_below.false)
      | else-at-self-via-else-at-self w ↦ (λ e. absurd (w.if-at-self.false e))
    ] in
    let below : BelowHolds n c.args.self.now.func f c.args.at c.args.next x =
    record { entry = entry; leads = c.leads_below.ensures.0 c.if-not-leads_below.false } in
    let meets : MeetsRules image n c.args.self.now.func f c.args.at = record {
      insn = i;
      next = c.args.next;
      decode = c.requires.decode;
      state = s;
      has_state = there;
      point = point;
      relocation = reloc;
      successors = x;
      row = row;
      below = below;
      ends = c.ends_within.ensures.0 c.if-not-ends_within.false;
    } in
    record {
      meets = meets;
      next_is = refl;
      stands = record {
        points = points_next n up c.args.at c.args.next _ c.arrive-arrived_below.ensures.points point
            (decode_later image f c.args.at c.args.next i c.requires.decode);
        relocs = c.past-marks.ensures;
        within = c.requires.decode.within;
        comes = λ less. subst (λ b. ComesTo image n c.args.self.now.func f c.args.next (only_if b c.advance.new.s))
            (sym c.falls-marks.ensures)
            (comes_next image n c.args.self.now.func f c.args.at c.args.next _ s i c.advance.new.s c.advance.new.taken
            c.in_ok-path.path comes ((c.arrive-arrived_below.ensures.arrives s).0 (come_true _ s c.if-not-marks.false))
            c.requires.decode less row);
      };
    }
