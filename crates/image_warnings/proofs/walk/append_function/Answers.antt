use Rattle.std.proofs.Common.{◌<◌, arith, sym, subst}
use Rattle.std.specs.Prelude.{IfSome}
use Rattle.state_walk.specs.Standing.{GoesToNext, StandsBefore}
use Rattle.image_warnings.specs.Around.{StandsBehind}
use Rattle.image_warnings.specs.Walks.{WarnedTo}
use Rattle.image_warnings.proofs.Gathering.{gathered_start}
use Rattle.image_warnings.proofs.Passing.{behind_found, is_well_formed, meets, passed, passed_all}
use Rattle.image_warnings.proofs.walk.append_function.Goals as goal

pub places-init : goal.places-init
places-init c =
    let w = c.args.walk.now in
    record {
      stands = c.start-b.ensures.stands;
      warned = subst (λ p. WarnedTo w.image.now w.notes.now w.func w.f.now p c.args.out.now.items) (sym c.start-b.ensures.place)
          (gathered_start w.image.now w.notes.now c.requires.typed.tables.functions w.func w.f.now c.requires.walk.there
          c.args.out.now.items c.requires.before);
    }

pub append_of-requires-clause-insn : goal.append_of-requires-clause-insn
append_of-requires-clause-insn c =
    let w = c.args.walk.now in
    is_well_formed w.image.now w.notes.now w.func w.f.now c.requires.walk c.requires.typed c.places.b c.places.invariant.stands

pub places-preserved : goal.places-preserved
places-preserved c =
    let w = c.args.walk.now in
    let i = c.places.invariant in
    let b = c.places.b in
    let m = meets w.image.now w.notes.now w.func w.f.now c.requires.walk c.requires.typed b i.stands in
    let stands = subst (λ o. IfSome o (StandsBefore w.image.now w.notes.now w.func w.f.now)) c.in-Some.is c.next-next.ensures.stands in
    let goes = subst (GoesToNext w.image.now w.notes.now w.func w.f.now b.place) c.in-Some.is c.next-next.ensures.goes_on in
    record {
      stands = stands;
      warned = subst (λ p. WarnedTo w.image.now w.notes.now w.func w.f.now p c.append_of.new.out.items) (sym (goes m))
          (passed w.image.now w.notes.now w.func w.f.now c.requires.walk c.requires.typed b i.stands
          c.args.whole.now.effects.now c.args.whole.now.texts.now c.at.result c.following_insn.result c.places.out.items
          c.append_of.new.out.items c.requires.effects c.requires.texts c.at.ensures
          (subst (StandsBehind w.image.now w.f.now m.next) (sym c.following_insn.ensures)
          (behind_found w.image.now w.notes.now w.func w.f.now c.requires.walk c.requires.typed b i.stands
          c.next-next.result c.next-next.ensures.stands c.next-next.ensures.goes_on))
          i.warned c.in_ok-append_of.ensures);
    }

pub returns-in-None : goal.returns-in-None
returns-in-None c =
    let w = c.args.walk.now in
    let i = c.places.invariant in
    let b = c.places.b in
    let m = meets w.image.now w.notes.now w.func w.f.now c.requires.walk c.requires.typed b i.stands in
    let goes = subst (GoesToNext w.image.now w.notes.now w.func w.f.now b.place) c.in-None.is c.next-next.ensures.goes_on in
    passed_all w.image.now w.notes.now w.func w.f.now c.requires.walk c.requires.typed b i.stands c.append_of.new.out.items (goes m)
    (passed w.image.now w.notes.now w.func w.f.now c.requires.walk c.requires.typed b i.stands
    c.args.whole.now.effects.now c.args.whole.now.texts.now c.at.result c.following_insn.result c.places.out.items
    c.append_of.new.out.items c.requires.effects c.requires.texts c.at.ensures
    (subst (StandsBehind w.image.now w.f.now m.next) (sym c.following_insn.ensures)
    (behind_found w.image.now w.notes.now w.func w.f.now c.requires.walk c.requires.typed b i.stands
    c.next-next.result c.next-next.ensures.stands c.next-next.ensures.goes_on))
    i.warned c.in_ok-append_of.ensures)

pub places-smaller : goal.places-smaller
places-smaller c =
    let w = c.args.walk.now in
    let b = c.places.b in
    let stands = subst (λ o. IfSome o (StandsBefore w.image.now w.notes.now w.func w.f.now)) c.in-Some.is c.next-next.ensures.stands in
    let inside = stands.insn.within in
    let later = subst (λ o. IfSome o (λ n. b.place < n.place)) c.in-Some.is c.next-next.ensures.later in
    omega arith

pub append_of-requires-clause-sites : goal.append_of-requires-clause-sites
append_of-requires-clause-sites c = c.requires.walk.read.ascends.sites
