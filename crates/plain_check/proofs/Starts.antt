-- What neutral code has at each start.
use Rattle.plain_check.proofs.Common.{◌≡◌, ℕ, ◌+◌, ◌<◌, Bool, true, false, not, ◌||◌, ◌&&◌, nat_eq, if◌then◌else◌, List, [], ◌∷◌, length}
use Rattle.plain_check.proofs.Common.{drop, Option, Some, None, Result, Ok, Err, refl, sym, ◌∙◌, subst, arith, inl, inr, length-drop}
use Rattle.plain_check.proofs.Common.{nat_tests, Insn, DecodeFault, read, RuleName, Form, Target, End, Verdict, Neutral, Refused, Reached}
use Rattle.plain_check.proofs.Common.{reached, is_start, instruction_rule, first_refusal, judged, or_right}
use Rattle.std.proofs.Common.{◌⊎◌}
use Rattle.plain_check.proofs.Places.{reached-read, judged-none, along}

-- ---- what neutral code has at a start

-- an instruction at which no rule fails; the next one, where the code goes on, is a start too
pub record Good (code : List ℕ) (is_started : ℕ → Bool) (there : ℕ → Bool) (p : ℕ) : Type 0 where
  pub insn : Insn
  pub size : ℕ
  pub reads : read (drop p code) ≡ Ok (insn, size)
  pub rule : instruction_rule is_started (length code) (p + size) insn ≡ None
  pub next : p + size < length code → there (p + size) ≡ true

judged-neutral : (place : ℕ) (rule : Option RuleName) (others : Verdict) → judged place rule others ≡ Neutral → (rule ≡ None)
    × (others ≡ Neutral)
judged-neutral place None others e = (refl, e)
judged-neutral place (Some rule) others e = cc

pub or-cases : (a b : Bool) → (a || b) ≡ true → (a ≡ true) ⊎ ((a ≡ false) × (b ≡ true))
or-cases true b e = inl refl
or-cases false b e = inr (refl, e)

pub and-true : (b : Bool) → (b && true) ≡ b
and-true true = refl
and-true false = refl

-- a place at which an instruction decodes is a start of the places from it on
pub first-started : (code : List ℕ) (place : ℕ) (i : Insn) (n : ℕ) → read (drop place code) ≡ Ok (i, n)
    → is_start (reached place 0 (drop place code)) place ≡ true
first-started code place i n e =
    let same : nat_eq place place ≡ true = grind (arith, nat_tests) in
    rw (reached-read place (drop place code) i n e, same) refl

apart : {p : ℕ} {r : RuleName} → Refused p r ≡ Neutral → ⊥
apart e = cc

decoded : (st : ℕ → Bool) (size place : ℕ) (bytes : List ℕ) (found : Result (Insn × ℕ) DecodeFault)
    → first_refusal st size (reached place 0 bytes) ≡ Neutral → 0 < length bytes → read bytes ≡ found → (r : Insn × ℕ) × (read bytes ≡ Ok r)
decoded st size place bytes (Ok r) neutral some e = (r, e)
decoded st size place bytes (Err fault) neutral some e = absurd (apart (sym (judged-none st size place bytes fault some e) ∙ neutral))

-- where no rule fails, the place at which the places begin is a start
pub head-started : (code : List ℕ) (st : ℕ → Bool) (size place : ℕ) → first_refusal st size (reached place 0 (drop place code)) ≡ Neutral
    → place < length code → is_start (reached place 0 (drop place code)) place ≡ true
head-started code st size place neutral inside =
    let d = decoded st size place (drop place code) _ neutral (omega (arith, length-drop place code)) refl in
    first-started code place d.0.0 d.0.1 d.1

-- every start among these places is one at which no rule fails
unfoldable pub GoodStarts : List ℕ → (ℕ → Bool) → List Reached → Type 0
GoodStarts code st all = (p : ℕ) → is_start all p ≡ true → Good code st (is_start all) p

good-cons : (code : List ℕ) (st : ℕ → Bool) (place : ℕ) (i : Insn) (n : ℕ) (others : List Reached) → read (drop place code) ≡ Ok (i, n)
    → instruction_rule st (length code) (place + n) i ≡ None
    → (place + n < length code → is_start others (place + n) ≡ true) → GoodStarts code st others
    → GoodStarts code st (record { place = place; found = Ok (i, n) } ∷ others)
unfolding GoodStarts
good-cons code st place i n others reads rule next good p started = elim (or-cases (nat_eq place p && true) (is_start others p) started) [
  | inl here ↦
      let same : place ≡ p = let e : nat_eq place p ≡ true = sym (and-true (nat_eq place p)) ∙ here in grind (arith, nat_tests) in
      subst (λ q. Good code st (is_start (record { place = place; found = Ok (i, n) } ∷ others)) q) same
      (record { insn = i; size = n; reads = reads; rule = rule; next = λ h. or_right (nat_eq place (place + n) && true) _ (next h) })
  | inr later ↦
      let g = good p later.1 in
      record {
        insn = g.insn;
        size = g.size;
        reads = g.reads;
        rule = g.rule;
        next = λ h. or_right (nat_eq place (p + g.size) && true) _ (g.next h);
      }
]

-- no place is a start where nothing decodes
pub fault-unstarted : (place p : ℕ) (fault : DecodeFault) → is_start (record { place = place; found = Err fault } ∷ []) p ≡ true → ⊥
fault-unstarted place p fault e = unstarted (nat_eq place p) e where
  unstarted : (b : Bool) → ((b && false) || false) ≡ true → ⊥
  unstarted true e = cc
  unstarted false e = cc

pub good-starts : (code : List ℕ) (st : ℕ → Bool) (place : ℕ) → first_refusal st (length code) (reached place 0 (drop place code)) ≡ Neutral
    → GoodStarts code st (reached place 0 (drop place code))
unfolding GoodStarts first_refusal
good-starts code st = along code (λ place all. first_refusal st (length code) all ≡ Neutral → GoodStarts code st all) (record {
  at_end = λ place past neutral p started. absurd (let e : false ≡ true = started in cc);
  at_fault = λ place fault inside e neutral p started. absurd (fault-unstarted place p fault started);
  at_insn = λ place i n e within later neutral.
      let parts = judged-neutral place (instruction_rule st (length code) (place + n) i) _ neutral in
      good-cons code st place i n _ e parts.0 (λ h. head-started code st (length code) (place + n) parts.1 h) (later parts.1);
})

-- what an instruction at which no rule fails has
pub no-rule : (plain landed ends_code : Bool) → (if not plain then Some Form else if not landed then Some Target else if ends_code then
    Some End else None) ≡ None → (plain ≡ true) × (landed ≡ true) × (ends_code ≡ false)
no-rule true true true e = cc
no-rule true true false e = (refl, refl, refl)
no-rule true false b e = cc
no-rule false a b e = cc
