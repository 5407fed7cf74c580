-- The answer: that leaders are few, that the notes with the points found may be checked, and what each case needs.
use Rattle.note_infer.proofs.Common.{◌≡◌, ℕ, zero, suc, ◌^◌, ◌<◌, ◌≤◌, List, length, get_or, refl, subst, ⊎_elim, arith, Some}
use Rattle.note_infer.proofs.Common.{IsStrictlyIncreasing, cases_lt, AllPairs-from_increasing, point_limit, IsNotes, Notes, Image, Stuck}
use Rattle.note_infer.proofs.Common.{IsInferred, IsSettled, by_round, points_of, AreLeaders, States, with_points}
use Rattle.note_infer.proofs.{Promising.found_are_notes, Searching.there_at}
use Rattle.note_infer.specs.Stopping.{IsNotFound, StuckAfter}
use Rattle.note_infer.specs.declared.{rounds.NotFound.NotFound, walk.Stop.Stop}
use Rattle.note_infer.specs.declared.rounds.NotFound.TheVariants as failures

-- numbers that rise are at least their places in the list
rises_past : (xs : List ℕ) → IsStrictlyIncreasing xs → (k : ℕ) → k < length xs → k ≤ get_or xs k 0
rises_past xs up zero short = omega arith
rises_past xs up (suc k) short =
    let low = rises_past xs up k (omega arith) in
    let less = AllPairs-from_increasing xs up k (suc k) 0 (omega arith) short in
    omega (arith, low, less)

-- leaders are places of an image, and so there are no more of them
pub few_leaders : (image : Image) (notes : Notes) (leaders : List ℕ) → IsNotes notes → AreLeaders image notes leaders
    → length leaders ≤ 2 ^ 22
few_leaders image notes leaders read all =
    ⊎_elim (λ many.
    let x : ℕ = get_or leaders (2 ^ 22) 0 in
    let l = (all.all x).0 (there_at leaders x (2 ^ 22) many refl) in
    let past = rises_past leaders all.ascend (2 ^ 22) many in
    let end = (read.functions l.number l.f l.there).end in
    let within = l.of.within in
    absurd (omega (arith, past, end, within)))
    (λ few. few) (cases_lt (2 ^ 22) (length leaders))

-- the notes with the points found may be checked
pub settled_notes : (image : Image) (notes : Notes) (leaders : List ℕ) (states : States) → IsNotes notes
    → IsSettled image notes leaders states → IsNotes (with_points notes (points_of states leaders))
settled_notes image notes leaders states read h =
    found_are_notes image notes leaders h.found.rounds states
    (record {
      read = read;
      all = h.found.all;
      few =
          ⊎_elim (λ many. absurd (h.found.few many)) (λ f. f) (cases_lt (point_limit notes.version) (length leaders));
      after = h.found.after;
    })

-- where rounds get stuck that is the answer
pub stuck_answer : (image : Image) (notes : Notes) (leaders : List ℕ) (failure : NotFound) (stop : Stop) → failure ≡ failures.Stuck stop
    → IsNotFound image notes leaders failure → IsInferred image notes (Stuck stop.place stop.rule (Some stop.state))
stuck_answer image notes leaders failure stop e h =
    let x : StuckAfter image notes leaders stop.place stop.rule stop.state = subst (IsNotFound image notes leaders) e h in
    by_round leaders x.states stop.place stop.rule stop.state x.found x.stuck refl
