-- Which places are reached when one more instruction is looked at.
use Rattle.std.proofs.Common.{◌≡◌, ℕ, ◌<◌, ◌≤◌, List, sym, subst, ⊎_elim, arith}
use Rattle.std.specs.Prelude.{None, Some, slice_get, true, false, Result, Ok, Err, OnOk}
use Rattle.std.specs.List.{Contains}
use Rattle.std.proofs.lemmas.Option.{none-some}
use Rattle.ebc_insn.specs.declared.Insn.{Insn}
use Rattle.note_types.specs.declared.notes.FnNote.{FnNote}
use Rattle.note_types.specs.declared.notes.Notes.{Notes}
use Rattle.pe_image.specs.declared.image.Image.{Image}
use Rattle.note_infer.specs.Finding.{IsNamedIn}
use Rattle.rules_image.specs.Images.{FunctionHolds, IsDecoded, falls}
use Rattle.rules_image.specs.Places.{IsPlaceOf}
use Rattle.rules_image.proofs.Decoding.{decoded_once}
use Rattle.state_walk.specs.Standing.{HasDecoded}
use Rattle.width_checker.proofs.Deciding.{place_within}
use Rattle.width_checker.proofs.Leading.{places_before, start_first}
use Rattle.image_warnings.specs.Spreading.{Extends, IsFollowed, ReachesCalls, ReachesCallsBefore}
use Rattle.image_warnings.specs.Uncut.{ComesUncut, LeadsWithin, Way}
use Rattle.image_warnings.proofs.SpreadLaws.{still_reached}

-- ---- where an instruction leads

pub led_on_ok : {E : Type 0} (image : Image) (f : FnNote) (next : ℕ) (i : Insn) (xs ys : List ℕ) (r : Result (Unit {0}) E)
    → (falls i ≡ true → next < f.end → Contains xs next) → OnOk r (Extends xs ys)
    → OnOk r ((q : ℕ) → IsNamedIn image f next i q → Contains ys q) → OnOk r ((q : ℕ) → LeadsWithin image f next i q → Contains ys q)
led_on_ok image f next i xs ys (Ok v) fell more named = λ q l.
    ⊎_elim
    (λ p. subst (Contains ys) (sym p.1) (still_reached xs ys next more (fell p.0 (subst (λ x. x < f.end) p.1 l.within))))
    (λ names. named q (record { names = names; first = l.first; within = l.within }))
    l.goes
led_on_ok image f next i xs ys (Err e) fell more named = tt

-- ---- a place is followed

-- no instruction stands there
pub followed_none : (image : Image) (f : FnNote) (way : Way) (place : ℕ) (xs : List ℕ) → HasDecoded image f place None
    → IsFollowed image f way place xs
followed_none image f way place xs none q c =
    let there : IsDecoded image f place c.insn c.next = subst (λ p. IsDecoded image f p c.insn c.next) c.is_such.0 c.decode in
    absurd (none-some (c.insn, c.next) (none c.insn c.next there))

module _ (image : Image) (f : FnNote) (way : Way) (place next : ℕ) (i : Insn) (xs : List ℕ) (d : IsDecoded image f place i next) where
  -- no path goes on over it
  pub followed_stop : way.goes_on i ≡ false → IsFollowed image f way place xs
  followed_stop stops q c =
      let there : IsDecoded image f place c.insn c.next = subst (λ p. IsDecoded image f p c.insn c.next) c.is_such.0 c.decode in
      let same : c.insn ≡ i = (decoded_once image f place c.insn i c.next next there d).0 in
      let goes : way.goes_on i ≡ true = subst (λ j. way.goes_on j ≡ true) same c.is_such.1 in
      absurd cc

  -- the places to which it leads are reached
  pub followed_led : ((q : ℕ) → LeadsWithin image f next i q → Contains xs q) → IsFollowed image f way place xs
  followed_led led q c =
      let there : IsDecoded image f place c.insn c.next = subst (λ p. IsDecoded image f p c.insn c.next) c.is_such.0 c.decode in
      let once = decoded_once image f place c.insn i c.next next there d in
      led q (subst (λ n. LeadsWithin image f n i q) once.1 (subst (λ j. LeadsWithin image f c.next j q) once.0 c.leads))

-- ---- where paths begin

pub calls_none : (image : Image) (f : FnNote) (way : Way) (xs : List ℕ) → ReachesCallsBefore image f way f.place xs
calls_none image f way xs q c =
    let reached : IsPlaceOf image f c.last = c.is_such.1.0 in
    let low = start_first image f reached.0 c.last reached.1 in
    let less : c.last < f.place = c.is_such.0 in absurd (omega arith)

pub calls_next : (image : Image) (f : FnNote) (way : Way) (place next : ℕ) (i : Insn) (xs ys : List ℕ)
    → ReachesCallsBefore image f way place xs
    → Extends xs ys → IsPlaceOf image f place → IsDecoded image f place i next
    → (way.begins place i ≡ true → (q : ℕ) → LeadsWithin image f next i q → Contains ys q) → ReachesCallsBefore image f way next ys
calls_next image f way place next i xs ys before more reached d led q c =
    let from : IsPlaceOf image f c.last = c.is_such.1.0 in
    ⊎_elim
    (λ less. still_reached xs ys q more (before q (record {
      last = c.last;
      insn = c.insn;
      next = c.next;
      decode = c.decode;
      is_such = (less, c.is_such.1);
      leads = c.leads;
    })))
    (λ same.
    let there : IsDecoded image f place c.insn c.next = subst (λ p. IsDecoded image f p c.insn c.next) same c.decode in
    let once = decoded_once image f place c.insn i c.next next there d in
    led (subst (λ j. way.begins place j ≡ true) once.0 (subst (λ p. way.begins p c.insn ≡ true) same c.is_such.1.1)) q
    (subst (λ n. LeadsWithin image f n i q) once.1 (subst (λ j. LeadsWithin image f c.next j q) once.0 c.leads)))
    (places_before image f reached.0 from.0 place c.last next i reached.1 d from.1 c.is_such.0)

-- at the function's end all are before
pub calls_all : (image : Image) (notes : Notes) (all : (k : ℕ) → FunctionHolds image notes k) (func : ℕ) (f : FnNote)
    (way : Way) (there : slice_get notes.function func ≡ Some f) (place : ℕ) (xs : List ℕ) → f.end ≤ place → ReachesCallsBefore image f
    way place xs
    → ReachesCalls image f way xs
unfolding ComesUncut
calls_all image notes all func f way there place xs past before q c =
    let reached : IsPlaceOf image f c.last = c.is_such.0 in
    let inside : c.last < f.end = place_within image notes all func f there reached.0 c.last reached.1 in
    before q (record {
      last = c.last;
      insn = c.insn;
      next = c.next;
      decode = c.decode;
      is_such = ((let less : c.last < place = omega arith in less), c.is_such);
      leads = c.leads;
    })
