use Rattle.std.proofs.Common.{◌≡◌, arith, sym, ◌∙◌}
use Rattle.std.proofs.lemmas.Option.{none-some}
use Rattle.width_checker.proofs.Leading.{decode_later}
use Rattle.width_checker.proofs.Points.{one_point}
use Rattle.state_walk.proofs.Standing.{falls_on, leads_told, next_there, none_missing, stands_at}
use Rattle.state_walk.proofs.walk.Walk.next.Goals as goal

pub at-requires-clause-from : goal.at-requires-clause-from
at-requires-clause-from c =
    let w = c.args.self.now in
    let s = c.requires.stands in
    let from = s.insn.from in
    let later = decode_later w.image.now w.f.now c.args.b.now.place c.in_ok-next.next c.in_ok-next.field-0-0
    (s.insn.insn c.in_ok-next.field-0-0 c.in_ok-next.next c.in_ok-next.was) in
    omega arith

pub returns-clause-stands : goal.returns-clause-stands
returns-clause-stands c =
    let w = c.args.self.now in
    stands_at w.image.now w.notes.now w.func w.f.now c.in_ok-next.next c.in_ok-fall.field-0.fall c.at.result
    c.at.ensures.insn c.at.ensures.whole c.at.ensures.arrived c.at.ensures.state
    (falls_on w.image.now w.notes.now w.func w.f.now c.args.b.now c.in_ok-fall.field-0 c.in_ok-next.field-0-0 c.in_ok-next.next
    c.requires.stands c.in_ok-fall.ensures.leads c.in_ok-next.was c.if-self-next.false)

pub returns-clause-later : goal.returns-clause-later
returns-clause-later c =
    let w = c.args.self.now in
    let s = c.requires.stands in
    let later = decode_later w.image.now w.f.now c.args.b.now.place c.in_ok-next.next c.in_ok-next.field-0-0
    (s.insn.insn c.in_ok-next.field-0-0 c.in_ok-next.next c.in_ok-next.was) in
    omega (arith, c.at.ensures.insn.place_is)

pub returns-in_err-next-clause-goes_on : goal.returns-in_err-next-clause-goes_on
returns-in_err-next-clause-goes_on c =
    let w = c.args.self.now in
    rw c.from_residual.ensures (λ m. absurd (none_missing w.image.now w.notes.now w.func w.f.now c.args.b.now m
    c.requires.stands.whole c.in_err-next.was))

pub returns-then-self-next-clause-goes_on : goal.returns-then-self-next-clause-goes_on
returns-then-self-next-clause-goes_on c =
    let w = c.args.self.now in
    λ m. let e : c.in_ok-next.next ≡ m.next = next_there w.image.now w.notes.now w.func w.f.now c.args.b.now m c.requires.stands.whole
    c.in_ok-next.field-0-0 c.in_ok-next.next c.in_ok-next.was in
    omega arith

pub returns-in_err-fall-clause-goes_on : goal.returns-in_err-fall-clause-goes_on
returns-in_err-fall-clause-goes_on c =
    let w = c.args.self.now in
    rw c.from_residual-in_err-fall.ensures (λ m. absurd (none-some m.successors (sym c.in_err-fall.was
    ∙ leads_told w.image.now w.notes.now w.func w.f.now c.args.b.now m (one_point w.notes.now c.requires.walk.read.ascends)
    c.requires.stands c.leads.result c.leads.ensures.whole)))

pub returns-clause-goes_on : goal.returns-clause-goes_on
returns-clause-goes_on c =
    let w = c.args.self.now in
    λ m. c.at.ensures.insn.place_is ∙ next_there w.image.now w.notes.now w.func w.f.now c.args.b.now m c.requires.stands.whole
    c.in_ok-next.field-0-0 c.in_ok-next.next c.in_ok-next.was
