-- The walk through a function of a typed image: from one instruction to the next.
use Rattle.std.proofs.Common.{◌≡◌, ℕ, ◌+◌, ◌≤◌, List, ◌++◌, refl, sym, ap, subst, ◌∙◌, arith}
use Rattle.std.specs.Prelude.{Option, None, Some, IfSome}
use Rattle.std.proofs.lemmas.Option.{none-some}
use Rattle.ebc_insn.specs.Spelling.{WellFormed}
use Rattle.ebc_insn.specs.declared.Insn.{Insn}
use Rattle.note_types.specs.declared.notes.FnNote.{FnNote}
use Rattle.note_types.specs.declared.notes.Notes.{Notes}
use Rattle.pe_image.specs.declared.image.Image.{Image}
use Rattle.rules_image.specs.Places.{Leads}
use Rattle.rules_image.proofs.Decoding.{spelled_at}
use Rattle.state_walk.specs.Standing.{DecodesIfAny, GoesToNext, HasDecoded, IsWalkedFunction, StandsBefore}
use Rattle.state_walk.specs.declared.preceding.Before.{Before}
use Rattle.state_walk.proofs.Standing.{insn_there, meets_state}
use Rattle.width_checker.specs.Typed.{MeetsRules, Typed}
use Rattle.width_checker.proofs.Leading.{OnePoint, decode_later, leads_of}
use Rattle.width_checker.proofs.Points.{one_point}
use Rattle.width_checker.proofs.Walking.{place_of_comes}
use Rattle.note_types.specs.declared.notes.Static.{Static}
use Rattle.image_warnings.specs.Around.{StandsBehind, around_of}
use Rattle.image_warnings.specs.Effects.{effect_of, list_with}
use Rattle.image_warnings.specs.ImageEffects.{AreEffects, EffectsBefore, EffectsTo, InsnAt, with_effect}
use Rattle.image_warnings.specs.Marks.{IsUncut}
use Rattle.departures.specs.Texts.{unended_texts}
use Rattle.image_warnings.specs.Walks.{WarnedBefore, WarnedTo, following_insn, warnings_of}
use Rattle.image_warnings.specs.Warned.{warnings_at}
use Rattle.departures.specs.declared.departure.Around.{Around}
use Rattle.image_warnings.specs.declared.effect.Effect.{Effect}
use Rattle.departures.specs.declared.above.Uncut.{Uncut}
use Rattle.image_warnings.specs.declared.warning.Warning.{Warning}
use Rattle.image_warnings.proofs.AroundLaws.{around_found}
use Rattle.image_warnings.proofs.Gathering.{gathered, gathered_end}
use Rattle.image_warnings.proofs.Collecting.{effects_end, effects_more}

if_insn : (o : Option (Insn × ℕ)) → ((i : Insn) (next : ℕ) → o ≡ Some (i, next) → WellFormed i) → IfSome o (λ p. WellFormed p.0)
if_insn None h = tt
if_insn (Some p) h = h p.0 p.1 refl

module _ (image : Image) (notes : Notes) (func : ℕ) (f : FnNote) (walk : IsWalkedFunction image notes func f)
    (typed : Typed image notes) (b : Before)
    (s : StandsBefore image notes func f b) where
  pub meets : MeetsRules image notes func f b.place
  meets = typed.code func f walk.there b.place (place_of_comes image notes func f b.place b.arrived s.comes)

  one_place : OnePoint notes
  one_place = one_point notes walk.read.ascends

  pub is_well_formed : IfSome b.insn (λ p. WellFormed p.0)
  is_well_formed = if_insn b.insn (λ i next e. (spelled_at image f b.place next i (s.insn.insn i next e)).well_formed)

  -- what stands there
  abbrev standing : InsnAt image notes func f b.place
  standing = record {
    insn = meets.insn;
    next = meets.next;
    decode = meets.decode;
    state = meets.state;
    has_state = meets.has_state;
  }

  leads : Leads image f s.comes.0 b.place
  leads = leads_of image notes func f s.comes.0 b.place b.arrived s.comes.1

  state_is : b.state ≡ Some meets.state
  state_is = meets_state image notes func f b meets one_place s

  insn_is : b.insn ≡ Some (meets.insn, meets.next)
  insn_is = insn_there image notes func f b meets s.whole

  -- what stands behind it is that of the next place
  pub behind_found : (next : Option Before) → IfSome next (StandsBefore image notes func f) → GoesToNext image notes func f b.place next
      → StandsBehind image f meets.next (following_insn next)
  behind_found None stands goes = record {
    decodes = λ i n e. absurd (none-some (i, n) e);
    whole = λ i n d. absurd (let past : f.end ≤ meets.next = goes meets in let later = decode_later image f meets.next n i d in
        let within : n ≤ f.end = d.within in omega arith);
  }
  behind_found (Some c) stands goes = record {
    decodes = subst (λ p. DecodesIfAny image f p c.insn) (goes meets) stands.insn.insn;
    whole = subst (λ p. HasDecoded image f p c.insn) (goes meets) stands.whole.insn;
  }

  pub passed : (effects : List Effect) (texts : List Static) (uncut : Uncut) (behind : Option (Insn × ℕ)) (ws more : List Warning)
      → AreEffects image notes effects → texts ≡ unended_texts image notes → IsUncut image notes f b.place uncut
      → StandsBehind image f meets.next behind → WarnedTo image notes func f b.place ws
      → more ≡ ws ++ warnings_of effects texts b.place notes f uncut behind b.state b.insn → WarnedTo image notes func f meets.next more
  passed effects texts uncut behind ws more all are u stands to e =
      let around : Around = around_of effects texts uncut behind notes f b.place meets.state meets.insn in
      let same : more ≡ ws ++ warnings_at b.place notes f meets.state around meets.insn =
      e ∙ (ap (λ o. ws ++ warnings_of effects texts b.place notes f uncut behind o b.insn) state_is
      ∙ ap (λ o. ws ++ warnings_of effects texts b.place notes f uncut behind (Some meets.state) o) insn_is) in
      subst (WarnedTo image notes func f meets.next) (sym same)
      (gathered image notes one_place func f walk.there b.place s.comes.0 leads standing around
      (around_found image notes f b.place meets.state meets.insn meets.next effects texts uncut behind all are u stands) ws to)

  -- and its effect is gathered
  pub effects_passed : (effects more : List Effect) → EffectsTo image notes func f b.place effects
      → more ≡ with_effect effects image notes f b.state b.insn → EffectsTo image notes func f meets.next more
  effects_passed effects more to e =
      let same : more ≡ list_with effects (effect_of image notes f meets.state meets.insn meets.next) =
      e ∙ (ap (λ o. with_effect effects image notes f o b.insn) state_is
      ∙ ap (λ o. with_effect effects image notes f (Some meets.state) o) insn_is) in
      subst (EffectsTo image notes func f meets.next) (sym same)
      (effects_more image notes one_place func f walk.there b.place s.comes.0 leads standing effects to)

  -- at the end of the function
  pub passed_all : (ws : List Warning) → f.end ≤ meets.next → WarnedTo image notes func f meets.next ws
      → WarnedBefore image notes (func + 1) ws
  passed_all ws past to =
      gathered_end image notes typed.tables.functions func f walk.there ws meets.next past meets.decode.within to

  pub effects_passed_all : (effects : List Effect) → f.end ≤ meets.next → EffectsTo image notes func f meets.next effects
      → EffectsBefore image notes (func + 1) effects
  effects_passed_all effects past to = effects_end image notes typed.tables.functions func f walk.there effects meets.next past to
