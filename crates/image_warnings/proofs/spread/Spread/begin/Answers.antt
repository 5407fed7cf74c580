use Rattle.std.proofs.Common.{arith, refl, sym}
use Rattle.rules_image.specs.Places.{IsPlaceOf}
use Rattle.std.proofs.lemmas.Option.{none-some}
use Rattle.note_infer.proofs.Gathering.{next_place, start_place}
use Rattle.width_checker.specs.Typed.{MeetsRules}
use Rattle.width_checker.proofs.Leading.{decode_later}
use Rattle.image_warnings.proofs.SpreadLaws.{extends_same}
use Rattle.image_warnings.proofs.SteppingLaws.{calls_all, calls_next, calls_none}
use Rattle.image_warnings.proofs.UncutLaws.{uncut_begun}
use Rattle.image_warnings.specs.Uncut.{way_of}
use Rattle.image_warnings.proofs.spread.Spread.begin.Goals as goal

pub loop-place-init : goal.loop-place-init
loop-place-init c =
    let w = c.args.walk.now in
    record {
      spread = c.requires.spread;
      calls = calls_none w.image.now w.f.now (way_of w.notes.now c.args.above) c.args.self.now.reached.items;
      reached = λ less. start_place w.image.now w.f.now;
      first = omega arith;
    }

pub returns-in_default-clause-calls : goal.returns-in_default-clause-calls
returns-in_default-clause-calls c =
    let w = c.args.walk.now in
    let m : MeetsRules w.image.now w.notes.now w.func w.f.now c.loop-place.place =
    c.requires.typed.code w.func w.f.now c.requires.walk.there c.loop-place.place (c.loop-place.invariant.reached c.loop-place-test.true) in
    absurd (none-some (m.insn, m.next) (c.in_default.ensures.whole m.insn m.next m.decode))

pub follow-requires-clause-first : goal.follow-requires-clause-first
follow-requires-clause-first c =
    let w = c.args.walk.now in
    let later = decode_later w.image.now w.f.now c.loop-place.place c.in-Some.next c.in-Some.insn
    (c.in-Some.ensures.decodes c.in-Some.insn c.in-Some.next refl) in
    let low = c.loop-place.invariant.first in omega arith

pub follow-requires-clause-uncut : goal.follow-requires-clause-uncut
follow-requires-clause-uncut c =
    let w = c.args.walk.now in
    uncut_begun w.image.now w.f.now (way_of w.notes.now c.args.above) c.loop-place.place c.in-Some.next c.in-Some.insn
    (c.loop-place.invariant.reached c.loop-place-test.true) (c.in-Some.ensures.decodes c.in-Some.insn c.in-Some.next refl)
    (sym c.if-begins.ensures)

pub loop-place-smaller-in_ok-follow : goal.loop-place-smaller-in_ok-follow
loop-place-smaller-in_ok-follow c =
    let w = c.args.walk.now in
    let later = decode_later w.image.now w.f.now c.loop-place.place c.in-Some.next c.in-Some.insn
    (c.in-Some.ensures.decodes c.in-Some.insn c.in-Some.next refl) in
    let less = c.loop-place-test.true in omega arith

pub loop-place-preserved-in_ok-follow : goal.loop-place-preserved-in_ok-follow
loop-place-preserved-in_ok-follow c =
    let w = c.args.walk.now in
    let at = c.loop-place.place in
    let d = c.in-Some.ensures.decodes c.in-Some.insn c.in-Some.next refl in
    let reached : IsPlaceOf w.image.now w.f.now at = c.loop-place.invariant.reached c.loop-place-test.true in
    record {
      spread = c.in_ok-follow.ensures.spread;
      calls = calls_next w.image.now w.f.now (way_of w.notes.now c.args.above) at c.in-Some.next c.in-Some.insn
          c.loop-place.self.reached.items
          c.follow.new.self.reached.items c.loop-place.invariant.calls c.in_ok-follow.ensures.more reached d
          (λ native. c.in_ok-follow.ensures.reached);
      reached = λ less. next_place w.image.now w.f.now at c.in-Some.next c.in-Some.insn reached d less;
      first = let later = decode_later w.image.now w.f.now at c.in-Some.next c.in-Some.insn d in
          let low = c.loop-place.invariant.first in omega arith;
    }

pub loop-place-smaller : goal.loop-place-smaller
loop-place-smaller c =
    let w = c.args.walk.now in
    let later = decode_later w.image.now w.f.now c.loop-place.place c.in-Some.next c.in-Some.insn
    (c.in-Some.ensures.decodes c.in-Some.insn c.in-Some.next refl) in
    let less = c.loop-place-test.true in omega arith

pub loop-place-preserved : goal.loop-place-preserved
loop-place-preserved c =
    let w = c.args.walk.now in
    let at = c.loop-place.place in
    let d = c.in-Some.ensures.decodes c.in-Some.insn c.in-Some.next refl in
    let reached : IsPlaceOf w.image.now w.f.now at = c.loop-place.invariant.reached c.loop-place-test.true in
    record {
      spread = c.loop-place.invariant.spread;
      calls = calls_next w.image.now w.f.now (way_of w.notes.now c.args.above) at c.in-Some.next c.in-Some.insn
          c.loop-place.self.reached.items
          c.loop-place.self.reached.items c.loop-place.invariant.calls (extends_same c.loop-place.self.reached.items) reached d
          (λ native. let other = c.if-begins.ensures in absurd cc);
      reached = λ less. next_place w.image.now w.f.now at c.in-Some.next c.in-Some.insn reached d less;
      first = let later = decode_later w.image.now w.f.now at c.in-Some.next c.in-Some.insn d in
          let low = c.loop-place.invariant.first in omega arith;
    }

pub returns-clause-calls : goal.returns-clause-calls
returns-clause-calls c =
    let w = c.args.walk.now in
    calls_all w.image.now w.notes.now c.requires.typed.tables.functions w.func w.f.now (way_of w.notes.now c.args.above)
    c.requires.walk.there c.loop-place.place
    c.loop-place.self.reached.items (let past = c.loop-place-test.false in omega arith) c.loop-place.invariant.calls

pub begins-requires : goal.begins-requires
begins-requires c = c.requires.walk.read.ascends.sites
