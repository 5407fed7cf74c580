-- The places that lengths reach, as a walk over the code finds them.
use Rattle.plain_check.proofs.Common.{◌≡◌, ℕ, ◌+◌, ◌-◌, ◌<◌, ◌≤◌, zero, suc, Bool, true, false, ◌||◌, ◌&&◌, nat_eq, List, [], ◌∷◌, length}
use Rattle.plain_check.proofs.Common.{drop, Result, Ok, Err, refl, sym, ap, ◌∙◌, subst, arith, inl, inr, nat_lt, length-drop, cases_Bool}
use Rattle.plain_check.proofs.Common.{nat_tests, drop-drop, Insn, DecodeFault, read, read_length, Decode, Neutral, Refused, Reached}
use Rattle.plain_check.proofs.Common.{reached, starts, is_start, marked, first_refusal, instruction_rule, judged}
use Rattle.std.proofs.{Common.get_or, Common.length-set, Math.ListN.replicate, Math.ListN.set, lemmas.Grind.common_steps}
use Rattle.std.proofs.lemmas.List.{get_or-set_same, get_or-set_other, get_or-replicate, get_or_past}
use Rattle.std.proofs.lemmas.{List.length-replicate, Option.unwrap_or-slice_get}

-- the rest of an instruction is passed over
reached-inside : (place inside : ℕ) (bytes : List ℕ) → inside ≤ length bytes
    → reached place inside bytes ≡ reached (place + inside) 0 (drop inside bytes)
unfolding reached
reached-inside place zero bytes h = ap (λ p. reached p 0 bytes) {x = place} {y = place + 0} (omega arith)
reached-inside place (suc inside) [] h = absurd (omega arith)
reached-inside place (suc inside) (b ∷ bytes) h =
    reached-inside (place + 1) inside bytes (omega arith) ∙ ap (λ p. reached p 0 (drop inside bytes)) {x = place + 1 + inside} {y =
    place + suc inside} (omega arith)

-- the places at bytes that begin with an instruction
pub reached-read : (place : ℕ) (bytes : List ℕ) (i : Insn) (n : ℕ) → read bytes ≡ Ok (i, n)
    → reached place 0 bytes ≡ record { place = place; found = Ok (i, n) } ∷ reached (place + n) 0 (drop n bytes)
unfolding reached
reached-read place [] i n e = absurd (omega (arith, (read_length [] i n e).0, (read_length [] i n e).1))
reached-read place (b ∷ bytes) i zero e = absurd (omega (arith, (read_length (b ∷ bytes) i 0 e).0))
reached-read place (b ∷ bytes) i (suc n) e =
    let short : n ≤ length bytes = omega (arith, (read_length (b ∷ bytes) i (suc n) e).1) in
    let found = λ (others : List Reached). record { place = place; found = Ok (i, suc n) } ∷ others in
    rw e (ap (λ k. found (reached (place + 1) k bytes)) {x = suc n - 1} {y = n} (omega arith)
    ∙ ap found (reached-inside (place + 1) n bytes short ∙ ap (λ p. reached p 0 (drop n bytes)) {x = place + 1 + n} {y = place + suc n}
    (omega arith)))

-- the places at bytes that begin with no instruction
pub reached-none : (place : ℕ) (bytes : List ℕ) (fault : DecodeFault) → 0 < length bytes → read bytes ≡ Err fault
    → reached place 0 bytes ≡ record { place = place; found = Err fault } ∷ []
unfolding reached
reached-none place [] fault some e = absurd (omega arith)
reached-none place (b ∷ bytes) fault some e = rw e refl

-- no place is past the end
pub reached-end : (place : ℕ) (code : List ℕ) → length code ≤ place → reached place 0 (drop place code) ≡ []
unfolding reached
reached-end place code past = let none : drop place code ≡ [] = grind (arith, common_steps) in rw none refl

-- What holds at the end of the code and at a place where nothing decodes, and at an instruction where it holds of the
-- places after it, holds of the places from any place on.
pub record Along (code : List ℕ) (P : ℕ → List Reached → Type 0) : Type 0 where
  pub at_end : (place : ℕ) → length code ≤ place → P place []
  pub at_fault : (place : ℕ) (fault : DecodeFault) → place < length code → read (drop place code) ≡ Err fault
      → P place (record { place = place; found = Err fault } ∷ [])
  pub at_insn : (place : ℕ) (i : Insn) (n : ℕ) → read (drop place code) ≡ Ok (i, n) → place + n ≤ length code
      → P (place + n) (reached (place + n) 0 (drop (place + n) code))
      → P place (record { place = place; found = Ok (i, n) } ∷ reached (place + n) 0 (drop (place + n) code))

along-found : (code : List ℕ) (P : ℕ → List Reached → Type 0) → Along code P → (left place : ℕ)
    → ((next : ℕ) → place < next → next ≤ length code → P next (reached next 0 (drop next code))) → place < length code
    → (found : Result (Insn × ℕ) DecodeFault) → read (drop place code) ≡ found → P place (reached place 0 (drop place code))
along-found code P rules left place later inside (Ok (i, n)) e =
    let sizes = read_length (drop place code) i n e in
    let within : place + n ≤ length code = omega (arith, sizes.1, length-drop place code) in
    subst (P place) (sym (reached-read place (drop place code) i n e
    ∙ ap (λ bytes. record { place = place; found = Ok (i, n) } ∷ reached (place + n) 0 bytes) (drop-drop n place code)))
    (rules.at_insn place i n e within (later (place + n) (omega (arith, sizes.0)) within))
along-found code P rules left place later inside (Err fault) e =
    subst (P place) (sym (reached-none place (drop place code) fault (omega (arith, length-drop place code)) e))
    (rules.at_fault place fault inside e)

along-left : (code : List ℕ) (P : ℕ → List Reached → Type 0) → Along code P → (left place : ℕ) → length code ≤ place + left
    → P place (reached place 0 (drop place code))
along-left code P rules zero place h = subst (P place) (sym (reached-end place code (omega arith))) (rules.at_end place (omega arith))
along-left code P rules (suc left) place h = elim (cases_Bool (nat_lt place (length code))) [
  | inl inside ↦ along-found code P rules left place (λ next more within. along-left code P rules left next (omega arith))
      (grind (arith, nat_tests)) _ refl
  | inr outside ↦ let past : length code ≤ place = grind (arith, nat_tests) in
      subst (P place) (sym (reached-end place code past)) (rules.at_end place past)
]

pub along : (code : List ℕ) (P : ℕ → List Reached → Type 0) → Along code P → (place : ℕ) → P place (reached place 0 (drop place code))
along code P rules place = along-left code P rules (length code) place (omega arith)

-- the verdict on the places from an instruction on
pub judged-read : (st : ℕ → Bool) (size place : ℕ) (bytes : List ℕ) (i : Insn) (n : ℕ) → read bytes ≡ Ok (i, n)
    → first_refusal st size (reached place 0 bytes) ≡ judged place (instruction_rule st size (place + n) i)
    (first_refusal st size (reached (place + n) 0 (drop n bytes)))
unfolding first_refusal
judged-read st size place bytes i n e = rw (reached-read place bytes i n e) refl

pub judged-end : (st : ℕ → Bool) (size place : ℕ) (code : List ℕ) → length code ≤ place
    → first_refusal st size (reached place 0 (drop place code)) ≡ Neutral
unfolding first_refusal
judged-end st size place code past = rw (reached-end place code past) refl

pub judged-none : (st : ℕ → Bool) (size place : ℕ) (bytes : List ℕ) (fault : DecodeFault) → 0 < length bytes → read bytes ≡ Err fault
    → first_refusal st size (reached place 0 bytes) ≡ Refused place Decode
unfolding first_refusal
judged-none st size place bytes fault some e = rw (reached-none place bytes fault some e) refl

-- ---- marks

-- the marks so far, and the starts from a place on, are all starts
pub record MarksTo (code : List ℕ) (place : ℕ) (marks : List Bool) : Type 0 where
  pub whole : length marks ≡ length code
  pub within : place ≤ length code
  pub each : (p : ℕ) → starts code p ≡ (marked marks p || is_start (reached place 0 (drop place code)) p)

marked-replicate : (count p : ℕ) → marked (replicate count false) p ≡ false
marked-replicate count p = elim (cases_Bool (nat_lt p count)) [
  | inl inside ↦ unwrap_or-slice_get (replicate count false) p false ∙ get_or-replicate count p false false (grind (arith, nat_tests))
  | inr outside ↦ unwrap_or-slice_get (replicate count false) p false
      ∙ get_or_past (replicate count false) p false (let below : count ≤ p = grind (arith, nat_tests) in
      omega (arith, length-replicate count false))
]

or-swap : (a b c : Bool) → (a || (b || c)) ≡ ((b || a) || c)
or-swap true true c = refl
or-swap true false c = refl
or-swap false true c = refl
or-swap false false c = refl

marked-set : (marks : List Bool) (place p : ℕ) → place < length marks → marked (set marks place true) p ≡ (nat_eq place p || marked marks p)
marked-set marks place p h = elim (cases_Bool (nat_eq place p)) [
  | inl same ↦ let e : place ≡ p = grind (arith, nat_tests) in rw same
      (unwrap_or-slice_get (set marks place true) p false ∙ subst (λ q. get_or (set marks place true) q false ≡ true) e
      (get_or-set_same marks place true false h))
  | inr other ↦ rw other (unwrap_or-slice_get (set marks place true) p false
      ∙ get_or-set_other marks place p true false (λ e. let same : nat_eq place p ≡ true = grind (arith, nat_tests) in cc)
      ∙ sym (unwrap_or-slice_get marks p false))
]

and-true : (b : Bool) → (b && true) ≡ b
and-true true = refl
and-true false = refl

and-false : (b : Bool) → (b && false) ≡ false
and-false true = refl
and-false false = refl

pub marks-more : (code : List ℕ) (place : ℕ) (marks : List Bool) (i : Insn) (n : ℕ) → MarksTo code place marks
    → read (drop place code) ≡ Ok (i, n) → MarksTo code (place + n) (set marks place true)
marks-more code place marks i n so_far e =
    let read_in = read_length (drop place code) i n e in
    let inside : place + n ≤ length code = omega (arith, read_in.0, read_in.1, length-drop place code, so_far.within) in
    record {
      whole = length-set marks place true ∙ so_far.whole;
      within = inside;
      each = λ p. so_far.each p ∙ rw (
        reached-read place (drop place code) i n e,
        and-true (nat_eq place p),
        drop-drop n place code,
        marked-set marks place p (omega (arith, read_in.0, read_in.1, length-drop place code, so_far.whole)),
      )
          (or-swap (marked marks p) (nat_eq place p) (is_start (reached (place + n) 0 (drop (place + n) code)) p));
    }

or-false : (b : Bool) → (b || false) ≡ b
or-false true = refl
or-false false = refl

-- at the end, and where nothing decodes, all starts are marked
pub marks-end : (code : List ℕ) (place : ℕ) (marks : List Bool) → MarksTo code place marks → length code ≤ place → (p : ℕ)
    → marked marks p ≡ starts code p
marks-end code place marks so_far past p = sym (so_far.each p ∙ rw (reached-end place code past) (or-false (marked marks p)))

pub marks-stop : (code : List ℕ) (place : ℕ) (marks : List Bool) (fault : DecodeFault) → MarksTo code place marks → place < length code
    → read (drop place code) ≡ Err fault → (p : ℕ) → marked marks p ≡ starts code p
marks-stop code place marks fault so_far inside e p =
    sym (so_far.each p ∙ rw (
      reached-none place (drop place code) fault (omega (arith, length-drop place code)) e,
      and-false (nat_eq place p),
    ) (or-false (marked marks p)))
