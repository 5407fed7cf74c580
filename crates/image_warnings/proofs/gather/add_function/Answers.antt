use Rattle.std.proofs.Common.{arith, sym, subst}
use Rattle.image_warnings.specs.ImageEffects.{EffectsTo}
use Rattle.image_warnings.proofs.Collecting.{effects_start}
use Rattle.image_warnings.proofs.Passing.{is_well_formed, meets, effects_passed, effects_passed_all}
use Rattle.image_warnings.proofs.gather.add_function.Goals as goal

pub places-init : goal.places-init
places-init c =
    let w = c.args.walk.now in
    record {
      stands = c.start-b.ensures.stands;
      effects = subst (λ p. EffectsTo w.image.now w.notes.now w.func w.f.now p c.args.out.now.items) (sym c.start-b.ensures.place)
          (effects_start w.image.now w.notes.now c.requires.typed.tables.functions w.func w.f.now c.requires.walk.there
          c.args.out.now.items c.requires.before);
    }

pub add_of-requires-clause-insn : goal.add_of-requires-clause-insn
add_of-requires-clause-insn c =
    let w = c.args.walk.now in
    is_well_formed w.image.now w.notes.now w.func w.f.now c.requires.walk c.requires.typed c.places.b c.places.invariant.stands

pub places-preserved : goal.places-preserved
places-preserved c =
    let w = c.args.walk.now in
    let i = c.places.invariant in
    let m = meets w.image.now w.notes.now w.func w.f.now c.requires.walk c.requires.typed c.places.b i.stands in
    record {
      stands = c.in-Some.ensures.stands;
      effects = subst (λ p. EffectsTo w.image.now w.notes.now w.func w.f.now p c.add_of.new.out.items) (sym (c.in-Some.ensures.goes_on m))
          (effects_passed w.image.now w.notes.now w.func w.f.now c.requires.walk c.requires.typed c.places.b i.stands
          c.places.out.items c.add_of.new.out.items i.effects c.in_ok-add_of.ensures);
    }

pub returns-in-None : goal.returns-in-None
returns-in-None c =
    let w = c.args.walk.now in
    let i = c.places.invariant in
    let m = meets w.image.now w.notes.now w.func w.f.now c.requires.walk c.requires.typed c.places.b i.stands in
    effects_passed_all w.image.now w.notes.now w.func w.f.now c.requires.walk c.requires.typed c.places.b i.stands c.add_of.new.out.items
    (c.in-None.ensures.goes_on m)
    (effects_passed w.image.now w.notes.now w.func w.f.now c.requires.walk c.requires.typed c.places.b i.stands
    c.places.out.items c.add_of.new.out.items i.effects c.in_ok-add_of.ensures)

pub places-smaller : goal.places-smaller
places-smaller c =
    let inside = c.in-Some.ensures.stands.insn.within in
    let later = c.in-Some.ensures.later in
    omega arith
