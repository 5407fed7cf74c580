-- The warnings of an image, gathered place by place.
use Rattle.std.proofs.Common.{◌≡◌, ℕ, ◌+◌, ◌*◌, ◌<◌, ◌≤◌, List, [], ◌++◌, length, sym, subst, ◌∙◌, ⊎_elim, arith}
use Rattle.std.specs.Prelude.{Bool, true, Some, slice_get}
use Rattle.std.specs.List.{AllPairs, Contains}
use Rattle.std.proofs.lemmas.Bool.{cases_lt}
use Rattle.std.proofs.lemmas.List.Elements.{Contains-append_cases, Contains-append_left, Contains-append_right}
use Rattle.std.proofs.lemmas.Option.{same_Some, slice_get_within}
use Rattle.note_types.specs.declared.notes.FnNote.{FnNote}
use Rattle.note_types.specs.declared.notes.Notes.{Notes}
use Rattle.pe_image.specs.declared.image.Image.{Image}
use Rattle.rules_image.specs.Images.{FunctionHolds}
use Rattle.rules_image.specs.Places.{Leads}
use Rattle.width_checker.proofs.Deciding.{function_before, place_within}
use Rattle.width_checker.proofs.Leading.{OnePoint, decode_later, places_before, start_first}
use Rattle.departures.specs.Departures.{departs}
use Rattle.image_warnings.specs.Around.{IsAround}
use Rattle.image_warnings.specs.ImageEffects.{InsnAt}
use Rattle.image_warnings.specs.Warned.{AreWarnings, IsWarned, IsWarnedIn, Precedes, all_due, kinds_in_order, turn, warnings_at}
use Rattle.image_warnings.specs.Walks.{WarnedBefore, WarnedTo}
use Rattle.departures.specs.declared.departure.Around.{Around}
use Rattle.departures.specs.declared.kind.Kind.{Kind}
use Rattle.image_warnings.specs.declared.warning.Warning.{Warning}
use Rattle.image_warnings.proofs.Ordering.{Ordered, due_sound, due_whole, no_element, turn_small, with_all}
use Rattle.image_warnings.proofs.AroundLaws.{one_around}
use Rattle.image_warnings.proofs.Standing.{one_insn, one_next, one_state, place_of}

-- ---- one place

-- warnings in order are so before a place
ordered_to : (place : ℕ) (ws : List Warning) → AllPairs Precedes ws → ((w : Warning) → Contains ws w → w.place < place)
    → Ordered (12 * place) ws
ordered_to place ws pairs below = record {
  pairs = pairs;
  below = λ w c. let h : w.place < place = below w c in let t : turn w.kind < 12 = turn_small w.kind in omega arith;
}

-- the warnings of one more place are gathered
module _ (image : Image) (notes : Notes) (one : OnePoint notes) (func : ℕ) (f : FnNote) (there : slice_get notes.function func ≡ Some f)
    (place n : ℕ) (leads : Leads image f n place) (at : InsnAt image notes func f place) (around : Around)
    (is_around : IsAround image notes f place at.state at.insn at.next around) where
  -- whether something departs there
  abbrev departs_so : Kind → Bool
  departs_so kind = departs kind notes f place at.state around at.insn

  due_in : (w : Warning) → w.place ≡ place → departs_so w.kind ≡ true → IsWarnedIn image notes func f w
  due_in w same holds =
      let here : IsWarnedIn image notes func f (record { place = place; kind = w.kind }) =
      record { at = at; around = around; is_around = is_around; holds = holds } in
      subst (λ p. IsWarnedIn image notes func f (record { place = p; kind = w.kind })) (sym same) here

  due_warned : (w : Warning) → Contains (all_due place departs_so) w → IsWarned image notes w
  due_warned w c =
      let h = due_sound place departs_so kinds_in_order w c in
      record { func = func; f = f; there = there; warned = due_in w h.0 h.1 }

  -- it departs by what was found there
  found_departs : (kind : Kind) → IsWarnedIn image notes func f (record { place = place; kind = kind }) → departs_so kind ≡ true
  found_departs kind h =
      let insn : h.at.insn ≡ at.insn = one_insn image notes func f place h.at at in
      let next : h.at.next ≡ at.next = one_next image notes func f place h.at at in
      let state : h.at.state ≡ at.state = one_state image notes func f place one h.at at in
      let found : IsAround image notes f place at.state at.insn at.next h.around =
      subst (λ k. IsAround image notes f place at.state at.insn k h.around) next
      (subst (λ i. IsAround image notes f place at.state i h.at.next h.around) insn
      (subst (λ s. IsAround image notes f place s h.at.insn h.at.next h.around) state h.is_around)) in
      let same : h.around ≡ around = one_around image notes f place at.state at.insn at.next h.around around found is_around in
      subst (λ i. departs kind notes f place at.state around i ≡ true) insn
      (subst (λ a. departs kind notes f place at.state a h.at.insn ≡ true) same
      (subst (λ s. departs kind notes f place s h.around h.at.insn ≡ true) state h.holds))

  warned_due : (w : Warning) → IsWarnedIn image notes func f w → w.place ≡ place → Contains (all_due place departs_so) w
  warned_due w h same =
      let here : IsWarnedIn image notes func f (record { place = place; kind = w.kind }) =
      subst (λ p. IsWarnedIn image notes func f (record { place = p; kind = w.kind })) same h in
      let c : Contains (all_due place departs_so) (record { place = place; kind = w.kind }) =
      due_whole place departs_so w.kind (found_departs w.kind here) in
      subst (λ p. Contains (all_due place departs_so) (record { place = p; kind = w.kind })) (sym same) c

  pub gathered : (ws : List Warning) → WarnedTo image notes func f place ws
      → WarnedTo image notes func f at.next (ws ++ warnings_at place notes f at.state around at.insn)
  gathered ws to =
      let later : place < at.next = decode_later image f place at.next at.insn at.decode in
      let more : List Warning = all_due place departs_so in
      let ordered : Ordered (12 * place + 12) (ws ++ more) = with_all place departs_so ws (ordered_to place ws to.ordered to.below) in
      record {
        sound = λ w c. ⊎_elim (to.sound w) (due_warned w) (Contains-append_cases ws more w c);
        whole = λ k g less found w h. Contains-append_left ws more w (to.whole k g less found w h);
        here = λ w h less. let p = place_of image notes func f w.place h.at in
            ⊎_elim (λ before. Contains-append_left ws more w (to.here w h before))
            (λ same. Contains-append_right ws more w (warned_due w h same))
            (places_before image f n p.0 place w.place at.next at.insn leads at.decode p.1 less);
        ordered = ordered.pairs;
        below = λ w c. ⊎_elim (λ old. let h : w.place < place = to.below w old in omega arith)
            (λ new. let h : w.place ≡ place = (due_sound place departs_so kinds_in_order w new).0 in omega arith)
            (Contains-append_cases ws more w c);
      }

-- ---- all functions

pub gathered_none : (image : Image) (notes : Notes) → WarnedBefore image notes 0 []
gathered_none image notes = record {
  sound = λ w c. absurd (no_element w c);
  whole = λ k f less. absurd (omega arith);
  ordered = λ i j d less within. absurd (let h : j < 0 = within in omega arith);
  below = λ w c. absurd (no_element w c);
}

module _ (image : Image) (notes : Notes) (all : (k : ℕ) → FunctionHolds image notes k) (func : ℕ) (f : FnNote)
    (there : slice_get notes.function func ≡ Some f) (ws : List Warning) where
  pub gathered_start : WarnedBefore image notes func ws → WarnedTo image notes func f f.place ws
  gathered_start b = record {
    sound = b.sound;
    whole = b.whole;
    here = λ w h less.
        absurd (let p = place_of image notes func f w.place h.at in let first = start_first image f p.0 w.place p.1 in omega arith);
    ordered = b.ordered;
    below = λ w c. b.below w c func f (omega arith) there;
  }

  pub gathered_end : (next : ℕ) → f.end ≤ next → next ≤ f.end → WarnedTo image notes func f next ws → WarnedBefore image notes (func + 1) ws
  gathered_end next past within to = record {
    sound = to.sound;
    whole = λ k g less found w h.
        ⊎_elim (λ before. to.whole k g before found w h)
        (λ above.
        let same : k ≡ func = omega arith in
        let at : slice_get notes.function func ≡ Some g = subst (λ j. slice_get notes.function j ≡ Some g) same found in
        let one : g ≡ f = same_Some g f (sym at ∙ there) in
        let mine : IsWarnedIn image notes func f w =
        subst (λ x. IsWarnedIn image notes func x w) one (subst (λ j. IsWarnedIn image notes j g w) same h) in
        let p = place_of image notes func f w.place mine.at in
        let inside : w.place < f.end = place_within image notes all func f there p.0 w.place p.1 in
        to.here w mine (omega arith))
        (cases_lt k func);
    ordered = to.ordered;
    below = λ w c k g above found.
        let low : w.place < next = to.below w c in
        let ends : f.end ≤ g.place = function_before image notes all func k f g (omega arith) there found in
        omega arith;
  }

pub gathered_all : (image : Image) (notes : Notes) (ws : List Warning) → WarnedBefore image notes (length notes.function) ws
    → AreWarnings image notes ws
gathered_all image notes ws b = record {
  warned = λ w. (b.sound w, λ h. b.whole h.func h.f (slice_get_within notes.function h.func h.f h.there) h.there w h.warned);
  ordered = b.ordered;
}
