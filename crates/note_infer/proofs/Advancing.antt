-- A round goes on past a place.
use Rattle.note_infer.proofs.Common.{◌≡◌, ℕ, zero, suc, ◌+◌, ◌<◌, ◌≤◌, List, [], refl, sym, subst, ⊎_elim, arith, Some, slice_get, Contains}
use Rattle.note_infer.proofs.Common.{cases_lt, entry_state, IsNotes, FnNote, Notes, State, Image, AreFound, IsFound, GivenAt, HasCome}
use Rattle.note_infer.proofs.Common.{IsWithin, States, all_in, given, gives, gives_none, marked, Passed, Reached, Settles, Stood, stood}
use Rattle.note_infer.proofs.Common.{stood_none}
use Rattle.note_infer.proofs.RoundStates.{AllFound, SomeFound, entry_found, given_at-found}
use Rattle.note_infer.proofs.{RoundStates.has_come-found, Chains.passed_with, Settling.all_kept, Settling.all_settled}

-- what is given at a place to a leader is joined in: there what has come takes it, and past the function's end nothing changes
pub record Joins (image : Image) (notes : Notes) (leaders : List ℕ) (states come after : States) (place : ℕ) (k : ℕ) (f : FnNote)
    (leader : ℕ) : Type 0 where
  pub ts : List State
  pub given_is : GivenAt image notes leaders states k f leader place ts
  pub all : all_in (come leader) ts ≡ Some (after leader)

abbrev pub AllJoin : Image → Notes → List ℕ → States → States → States → ℕ → Type 0
AllJoin image notes leaders states come after place =
    (k : ℕ) (f : FnNote) → slice_get notes.function k ≡ Some f → (leader : ℕ) → Contains leaders leader → IsWithin f leader
    → (place < f.end → Joins image notes leaders states come after place k f leader) × (f.end ≤ place → after leader ≡ come leader)

module _ (image : Image) (notes : Notes) (leaders : List ℕ) (states : States) (n : IsNotes (marked notes leaders))
    (start : AreFound notes leaders states) where
  -- what has come is found
  pub come_found : (come : States) (place : ℕ) → Reached image notes leaders states come place → (k : ℕ) (f : FnNote)
      → slice_get notes.function k ≡ Some f → (leader : ℕ) → Contains leaders leader → IsWithin f leader → SomeFound notes f (come leader)
  come_found come place r k f there leader c w =
      ⊎_elim (λ below. has_come-found image notes leaders states n start k f there leader c w place (come leader)
      (r.comes k f there leader c w (omega arith)))
      (λ past. has_come-found image notes leaders states n start k f there leader c w f.end (come leader)
      (r.done k f there leader c w past))
      (cases_lt place f.end)

  -- what was settled is so after
  kept_after : (come after : States) (place : ℕ) → Reached image notes leaders states come place
      → AllJoin image notes leaders states come after place → (k : ℕ) (f : FnNote) → slice_get notes.function k ≡ Some f → (leader : ℕ)
      → Contains leaders leader → IsWithin f leader → (t : State) → IsFound notes f t → Settles (come leader) t → Settles (after leader) t
  kept_after come after place r joins k f there leader c w t found h =
      ⊎_elim (λ below.
      let j = (joins k f there leader c w).0 below in
      all_kept notes f j.ts (come leader) (after leader) t (come_found come place r k f there leader c w)
      (given_at-found image notes leaders states n start k f there leader place j.ts j.given_is) found j.all h)
      (λ past. subst (λ o. Settles o t) (sym ((joins k f there leader c w).1 past)) h)
      (cases_lt place f.end)

  pub passed_given : (come : States) (k : ℕ) (f : FnNote) (p : ℕ) → slice_get notes.function k ≡ Some f
      → (x : Passed image notes leaders states come k f p) → (leader : ℕ) → AllFound notes f (given leader x.next x.x)
  passed_given come k f p there x leader =
      given_at-found image notes leaders states n start k f there leader p (given leader x.next x.x)
      (gives x.state x.insn x.next x.x x.has_state x.decode x.row refl)

  pub stood_after : (come after : States) (place : ℕ) → Reached image notes leaders states come place
      → AllJoin image notes leaders states come after place → (k : ℕ) (f : FnNote) → slice_get notes.function k ≡ Some f → (p : ℕ)
      → Stood image notes leaders states come k f p → Stood image notes leaders states after k f p
  stood_after come after place r joins k f there p (stood_none none) = stood_none none
  stood_after come after place r joins k f there p (stood x) = stood (passed_with image notes leaders states states come after k f p x
      x.has_state (λ leader c w j t e. kept_after come after place r joins k f there leader c w t
      (passed_given come k f p there x leader j t e) (x.settles leader c w j t e)))

  -- the round goes on past a place
  pub advance : (range : (k : ℕ) (f : FnNote) → slice_get notes.function k ≡ Some f → f.place < f.end) → (come after : States) (place : ℕ)
      → Reached image notes leaders states come place → AllJoin image notes leaders states come after place
      → ((k : ℕ) (f : FnNote) → slice_get notes.function k ≡ Some f → place < f.end → Stood image notes leaders states after k f place)
      → Reached image notes leaders states after (suc place)
  unfolding HasCome
  advance range come after place r joins here = record {
    stands = λ k f there p less inside.
        ⊎_elim (λ before. stood_after come after place r joins k f there p (r.stands k f there p before inside))
        (λ from. let same : place ≡ p = omega arith in
        subst (Stood image notes leaders states after k f) same (here k f there (omega arith)))
        (cases_lt p place);
    comes = λ k f there leader c w inside. more k f there leader c w (omega arith);
    done = λ k f there leader c w past.
        ⊎_elim (λ below.
        let end : suc place ≡ f.end = omega arith in
        subst (λ q. HasCome image notes leaders states k f leader q (after leader)) end (more k f there leader c w below))
        (λ over. subst (HasCome image notes leaders states k f leader f.end) (sym ((joins k f there leader c w).1 over))
        (r.done k f there leader c w over))
        (cases_lt place f.end);
    keeps = λ k f there leader c w t found h.
        kept_after come after place r joins k f there leader c w t found (r.keeps k f there leader c w t found h);
    entered = λ k f there c.
        let first : IsWithin f f.place = (omega arith, range k f there) in
        kept_after come after place r joins k f there f.place c first (entry_state notes k) (entry_found notes k f) (r.entered k f there c);
  }
    where
      more : (k : ℕ) (f : FnNote) → slice_get notes.function k ≡ Some f → (leader : ℕ) → Contains leaders leader → IsWithin f leader
          → place < f.end → HasCome image notes leaders states k f leader (suc place) (after leader)
      more k f there leader c w below =
          let j = (joins k f there leader c w).0 below in
          record {
            had = come leader;
            before_is = r.comes k f there leader c w (omega arith);
            states = j.ts;
            given_is = j.given_is;
            all = j.all;
          }

  joins_at : (come : States) (place k : ℕ) (f : FnNote) (leader : ℕ) → Contains leaders leader → IsWithin f leader
      → Stood image notes leaders states come k f place → Joins image notes leaders states come come place k f leader
  unfolding all_in
  joins_at come place k f leader c w (stood_none none) = record { ts = []; given_is = gives_none none refl; all = refl }
  joins_at come place k f leader c w (stood x) = record {
    ts = given leader x.next x.x;
    given_is = gives x.state x.insn x.next x.x x.has_state x.decode x.row refl;
    all = all_settled notes f (given leader x.next x.x) (come leader) (x.settles leader c w);
  }

  -- past a place where what has come takes all that is given
  pub rest_on : (range : (k : ℕ) (f : FnNote) → slice_get notes.function k ≡ Some f → f.place < f.end) → (come : States) (place : ℕ)
      → Reached image notes leaders states come place
      → ((k : ℕ) (f : FnNote) → slice_get notes.function k ≡ Some f → place < f.end → Stood image notes leaders states come k f place)
      → Reached image notes leaders states come (suc place)
  rest_on range come place r here = advance range come come place r (λ k f there leader c w. (
    λ below. joins_at come place k f leader c w (here k f there below),
    λ past. refl,
  )) here

  -- and past several such places
  pub rest_to : (range : (k : ℕ) (f : FnNote) → slice_get notes.function k ≡ Some f → f.place < f.end) → (come : States)
      (count place : ℕ) → Reached image notes leaders states come place
      → ((k : ℕ) (f : FnNote) → slice_get notes.function k ≡ Some f → (p : ℕ) → place ≤ p → p < place + count → p < f.end
      → Stood image notes leaders states come k f p) → Reached image notes leaders states come (place + count)
  rest_to range come zero place r here = subst (Reached image notes leaders states come) {x = place} {y = place + zero} (omega arith) r
  rest_to range come (suc count) place r here =
      subst (Reached image notes leaders states come) {x = suc place + count} {y = place + suc count} (omega arith)
      (rest_to range come count (suc place)
      (rest_on range come place r (λ k f there inside. here k f there place (omega arith) (omega arith)
      inside))
      (λ k f there p low high inside. here k f there p (omega arith) (omega arith) inside))
