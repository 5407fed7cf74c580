-- The effects of an image's instructions, gathered place by place.
use Rattle.std.proofs.Common.{◌≡◌, ℕ, ◌+◌, ◌<◌, ◌≤◌, List, [], length, sym, subst, ◌∙◌, ⊎_elim, arith}
use Rattle.std.specs.Prelude.{Some, slice_get}
use Rattle.std.proofs.lemmas.Bool.{cases_lt}
use Rattle.std.proofs.lemmas.Option.{same_Some, slice_get_within}
use Rattle.note_types.specs.declared.notes.FnNote.{FnNote}
use Rattle.note_types.specs.declared.notes.Notes.{Notes}
use Rattle.pe_image.specs.declared.image.Image.{Image}
use Rattle.rules_image.specs.Images.{FunctionHolds}
use Rattle.rules_image.specs.Places.{Leads}
use Rattle.width_checker.proofs.Deciding.{place_within}
use Rattle.width_checker.proofs.Leading.{OnePoint, places_before, start_first}
use Rattle.image_warnings.specs.Effects.{effect_of, list_with}
use Rattle.image_warnings.specs.ImageEffects.{AreEffects, DoesAt, EffectsBefore, EffectsTo, InsnAt}
use Rattle.image_warnings.specs.declared.effect.Effect.{Effect}
use Rattle.image_warnings.proofs.EffectLaws.{with_cases, with_new, with_old}
use Rattle.image_warnings.proofs.Ordering.{no_element}
use Rattle.image_warnings.proofs.Standing.{one_insn, one_next, one_state, place_of}

-- the effect of one more place is gathered
module _ (image : Image) (notes : Notes) (one : OnePoint notes) (func : ℕ) (f : FnNote) (there : slice_get notes.function func ≡ Some f)
    (place n : ℕ) (leads : Leads image f n place) (at : InsnAt image notes func f place) where
  -- it is that of what is found there
  found_does : (x : Effect) → DoesAt image notes func f place x → effect_of image notes f at.state at.insn at.next ≡ Some x
  found_does x h =
      subst (λ n. effect_of image notes f at.state at.insn n ≡ Some x) (one_next image notes func f place h.at at)
      (subst (λ i. effect_of image notes f at.state i h.at.next ≡ Some x) (one_insn image notes func f place h.at at)
      (subst (λ s. effect_of image notes f s h.at.insn h.at.next ≡ Some x) (one_state image notes func f place one h.at at) h.does))

  pub effects_more : (effects : List Effect) → EffectsTo image notes func f place effects
      → EffectsTo image notes func f at.next (list_with effects (effect_of image notes f at.state at.insn at.next))
  effects_more effects to =
      let o = effect_of image notes f at.state at.insn at.next in
      record {
        before = record {
          sound = λ x c. ⊎_elim (to.before.sound x)
              (λ e. record { func = func; f = f; there = there; place = place; done = record { at = at; does = e } })
              (with_cases effects o x c);
          whole = λ k g less found p x h. with_old effects o x (to.before.whole k g less found p x h);
        };
        here = λ p x h less.
            let l = place_of image notes func f p h.at in
            ⊎_elim (λ before. with_old effects o x (to.here p x h before))
            (λ same. with_new effects o x (found_does x (subst (λ q. DoesAt image notes func f q x) same h)))
            (places_before image f n l.0 place p at.next at.insn leads at.decode l.1 less);
      }

-- ---- all functions

pub effects_none : (image : Image) (notes : Notes) → EffectsBefore image notes 0 []
effects_none image notes = record {
  sound = λ x c. absurd (no_element x c);
  whole = λ k f less. absurd (omega arith);
}

module _ (image : Image) (notes : Notes) (all : (k : ℕ) → FunctionHolds image notes k) (func : ℕ) (f : FnNote)
    (there : slice_get notes.function func ≡ Some f) (effects : List Effect) where
  pub effects_start : EffectsBefore image notes func effects → EffectsTo image notes func f f.place effects
  effects_start b = record {
    before = b;
    here = λ p x h less.
        absurd (let l = place_of image notes func f p h.at in let first = start_first image f l.0 p l.1 in omega arith);
  }

  pub effects_end : (next : ℕ) → f.end ≤ next → EffectsTo image notes func f next effects → EffectsBefore image notes (func + 1) effects
  effects_end next past to = record {
    sound = to.before.sound;
    whole = λ k g less found p x h.
        ⊎_elim (λ before. to.before.whole k g before found p x h)
        (λ above.
        let same : k ≡ func = omega arith in
        let at : slice_get notes.function func ≡ Some g = subst (λ j. slice_get notes.function j ≡ Some g) same found in
        let one : g ≡ f = same_Some g f (sym at ∙ there) in
        let mine : DoesAt image notes func f p x =
        subst (λ e. DoesAt image notes func e p x) one (subst (λ j. DoesAt image notes j g p x) same h) in
        let l = place_of image notes func f p mine.at in
        let inside : p < f.end = place_within image notes all func f there l.0 p l.1 in
        to.here p x mine (omega arith))
        (cases_lt k func);
  }

pub effects_all : (image : Image) (notes : Notes) (effects : List Effect) → EffectsBefore image notes (length notes.function) effects
    → AreEffects image notes effects
effects_all image notes effects b x = (
  b.sound x,
  λ h. b.whole h.func h.f (slice_get_within notes.function h.func h.f h.there) h.there h.place x h.done,
)
